use Rattle.std.proofs.Common.{ℕ, ◌+◌, ◌-◌, Bool, true, false, arith, sym, ◌∙◌}
use Rattle.std.specs.List.{range_with_len}
use Rattle.std.proofs.lemmas.List.FromFn.{length-range_with_len}
use Rattle.executor_model.specs.Answers.{is_queued}
use Rattle.executor_model.specs.Histories.{view_of_history}
use Rattle.executor_model.proofs.Flowing.{how_many-le}
use Rattle.executor_plain.proofs.Plains.{count_more}
use Rattle.executor_plain.proofs.queue.+count_queued.Goals as goal

pub overflow_add-result : goal.overflow_add-result
overflow_add-result g t c =
    let test : ℕ → Bool = λ k. is_queued ((view_of_history c.args.calls.now c.args.past.now).fate k) in
    let rest = range_with_len (c.args.from + 1) (c.args.count - 1) in
    omega (arith, c.count_queued-rest.ensures, how_many-le test rest, length-range_with_len (c.args.from + 1) (c.args.count - 1), c.requires.within)

pub returns-then-is_queued : goal.returns-then-is_queued
returns-then-is_queued g t c =
    let test : ℕ → Bool = λ k. is_queued ((view_of_history c.args.calls.now c.args.past.now).fate k) in
    count_more test c.args.from c.args.count c.count_queued-rest.result true (omega (arith, c.if-count-eq0.false)) c.count_queued-rest.ensures (sym c.if-is_queued.true ∙ c.is_queued.ensures)

pub returns-else-is_queued : goal.returns-else-is_queued
returns-else-is_queued g t c =
    let test : ℕ → Bool = λ k. is_queued ((view_of_history c.args.calls.now c.args.past.now).fate k) in
    count_more test c.args.from c.args.count c.count_queued-rest.result false (omega (arith, c.if-count-eq0.false)) c.count_queued-rest.ensures (sym c.if-is_queued.false ∙ c.is_queued.ensures)
