-- The question takes its step.
use Rattle.std.proofs.Common.{◌≡◌, is_some, rules, sym, subst, ◌∙◌}
use Rattle.queue_code.specs.Calls.{how_many}
use Rattle.queue_code.specs.declared.call.CodeCall.TheVariants as c
use Rattle.executor_model.specs.declared.types.Answer.{Answer}
use Rattle.executor_model.specs.declared.types.Answer.TheVariants as a
use Rattle.executor_model.specs.Answers.{bare, is_terminated}
use Rattle.task_table.specs.Tables.{CallSteps}
use Rattle.task_table.proofs.Asks.{ask_steps}
use Rattle.task_table.proofs.Queuing.{how_counts}
use Rattle.task_table.proofs.table.Table.ask.Goals as goal

pub returns-clause-running : goal.returns-clause-running
returns-clause-running g k = k.running-running.ensures ∙ sym (how_counts is_some k.args.self.now.work)

pub returns-clause-steps : goal.returns-clause-steps
returns-clause-steps g k =
    let n = k.args.self.now in
    let at = k.args.at in
    let queue = k.queued-queue.result in
    let running = k.running-running.result in
    let runs : running ≡ how_many is_some n.work = k.running-running.ensures ∙ sym (how_counts is_some n.work) in
    let over : k.if-queue-eq0.terminated ≡ is_terminated n.shut queue running = search rules in
    let said : a.Ask queue running k.is_shut-shutdown.result k.if-queue-eq0.terminated ≡ a.Ask queue running n.shut (is_terminated n.shut queue running) = (λ i. a.Ask queue running (k.is_shut-shutdown.ensures i) (over i)) in
    subst (λ (r : Answer). CallSteps n k.pass.new.self (at, c.Ask) (bare r)) (sym said)
    (subst (λ v. CallSteps n v (at, c.Ask) (bare (a.Ask queue running n.shut (is_terminated n.shut queue running)))) (sym k.pass.ensures.slots)
    (ask_steps n at queue running k.queued-queue.ensures.formed k.requires.moment k.queued-queue.ensures.count runs))
