use Rattle.std.proofs.Common.{◌≡◌, ℕ, arith, ap, ◌∙◌}
use Rattle.std.specs.List.{range_with_len}
use Rattle.executor_model.specs.declared.types.Answer.TheVariants as a
use Rattle.queue_code.specs.Calls.{how_many}
use Rattle.executor_model.specs.View.{is_running}
use Rattle.executor_model.specs.Answers.{is_queued, is_terminated, queue_size, running_count}
use Rattle.executor_model.specs.Histories.{view_of_history}
use Rattle.executor_plain.proofs.Plains.{task_count_le}
use Rattle.executor_plain.proofs.queue.answer_ask.Goals as goal

pub count_queued-queue-requires-clause-within : goal.count_queued-queue-requires-clause-within
count_queued-queue-requires-clause-within g c = omega (arith, c.count_tasks-count.ensures, task_count_le c.args.calls.now, c.requires.orderly.0)

pub count_running-running-requires : goal.count_running-running-requires
count_running-running-requires g c = omega (arith, c.count_tasks-count.ensures, task_count_le c.args.calls.now, c.requires.orderly.0)

pub returns : goal.returns
returns g c =
    let v = view_of_history c.args.calls.now c.args.past.now in
    let queue : c.count_queued-queue.result ≡ queue_size c.args.calls.now v = c.count_queued-queue.ensures ∙ ap (λ (n : ℕ). how_many (λ k. is_queued (v.fate k)) (range_with_len 0 n)) c.count_tasks-count.ensures in
    let running : c.count_running-running.result ≡ running_count c.args.calls.now v = c.count_running-running.ensures ∙ ap (λ (n : ℕ). how_many (λ k. is_running (v.fate k)) (range_with_len 0 n)) c.count_tasks-count.ensures in
    let shut = c.was_shut-shutdown.ensures in
    let terminated = c.is_terminated.ensures ∙ (λ i. is_terminated (shut i) (queue i) (running i)) in
    λ moment i. a.Ask (queue i) (running i) (shut i) (terminated i)
