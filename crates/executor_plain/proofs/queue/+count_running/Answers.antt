use Rattle.std.proofs.Common.{ℕ, ◌+◌, ◌-◌, Bool, true, false, arith, sym, ◌∙◌}
use Rattle.std.specs.List.{range_with_len}
use Rattle.std.proofs.lemmas.List.FromFn.{length-range_with_len}
use Rattle.executor_model.specs.View.{is_running}
use Rattle.executor_model.specs.Histories.{view_of_history}
use Rattle.executor_model.proofs.Flowing.{how_many-le}
use Rattle.executor_plain.proofs.Plains.{count_more}
use Rattle.executor_plain.proofs.queue.+count_running.Goals as goal

pub overflow_add-result : goal.overflow_add-result
overflow_add-result g t c =
    let test : ℕ → Bool = λ k. is_running ((view_of_history c.args.calls.now c.args.past.now).fate k) in
    let rest = range_with_len (c.args.from + 1) (c.args.count - 1) in
    omega (arith, c.count_running-rest.ensures, how_many-le test rest, length-range_with_len (c.args.from + 1) (c.args.count - 1), c.requires)

pub returns-then-is_running : goal.returns-then-is_running
returns-then-is_running g t c =
    let test : ℕ → Bool = λ k. is_running ((view_of_history c.args.calls.now c.args.past.now).fate k) in
    count_more test c.args.from c.args.count c.count_running-rest.result true (omega (arith, c.if-count-eq0.false)) c.count_running-rest.ensures (sym c.if-is_running.true ∙ c.is_running.ensures)

pub returns-else-is_running : goal.returns-else-is_running
returns-else-is_running g t c =
    let test : ℕ → Bool = λ k. is_running ((view_of_history c.args.calls.now c.args.past.now).fate k) in
    count_more test c.args.from c.args.count c.count_running-rest.result false (omega (arith, c.if-count-eq0.false)) c.count_running-rest.ensures (sym c.if-is_running.false ∙ c.is_running.ensures)
