use Rattle.std.proofs.Common.{◌≡◌, ℕ, ◌≤◌, Some, sym, subst}
use Rattle.queue_code.specs.Calls.{terms_of, due_at}
use Rattle.executor_model.specs.Answers.{due_next}
use Rattle.executor_model.specs.Histories.{view_of_history}
use Rattle.executor_model.specs.Within.{latest_due}
use Rattle.executor_model.proofs.Within.{answered_within, next_within}
use Rattle.executor_plain.proofs.table.due_next.Goals as goal

pub due_at-requires-clause-within : goal.due_at-requires-clause-within
due_at-requires-clause-within g c =
    let calls = c.args.calls.now in
    let past = c.args.past.now in
    let k = c.args.k in
    let same : due_at (terms_of calls k) c.starts.result (Some c.now_of.result) ≡ due_next calls (view_of_history calls past) k = λ i. due_at (terms_of calls k) (c.starts.ensures i) (Some (c.now_of.ensures i)) in
    let within = answered_within calls c.requires.answered.0 past c.requires.orderly.1 c.requires.answered.1 in
    subst (λ (due : ℕ). due ≤ latest_due) (sym same) (next_within calls past k c.requires.orderly.1 within)
