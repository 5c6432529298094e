use Rattle.std.proofs.Common.{◌≡◌, ℕ, ◌≤◌, sym, subst}
use Rattle.queue_code.specs.Calls.{terms_of, due_at}
use Rattle.executor_model.specs.Histories.{due_of}
use Rattle.executor_model.specs.Within.{latest_due}
use Rattle.executor_model.proofs.Within.{answered_within}
use Rattle.executor_plain.proofs.tasks.due_of.Goals as goal

pub due_at-requires-clause-within : goal.due_at-requires-clause-within
due_at-requires-clause-within g c =
    let calls = c.args.calls.now in
    let past = c.args.past.now in
    let k = c.args.k in
    let same : due_at (terms_of calls k) c.starts.result c.last_finish.result ≡ due_of calls past k = λ i. due_at (terms_of calls k) (c.starts.ensures i) (c.last_finish.ensures i) in
    subst (λ (due : ℕ). due ≤ latest_due) (sym same) (answered_within calls c.requires.answered.0 past c.requires.orderly.1 c.requires.answered.1 k)
