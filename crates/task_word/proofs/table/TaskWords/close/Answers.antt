use Rattle.std.proofs.Common.{◌≡◌, ◌+◌, ◌<◌, ℕ, slice_index, ap, ◌∙◌, arith, subst}
use Rattle.task_word.specs.Answers.{Closes}
use Rattle.task_word.proofs.ClosedTables.{closes, copies_more}
use Rattle.task_word.proofs.table.TaskWords.close.Goals as goal

pub loop-k-preserved : goal.loop-k-preserved
loop-k-preserved g c = (
  omega (arith, c.push_reserved.ensures.len, c.loop-k.invariant.0),
  omega (arith, c.push_reserved.ensures.capacity, c.loop-k.invariant.1),
  λ j h. ap (λ xs. slice_index xs j) c.push_reserved.ensures.items ∙ copies_more c.loop-k.words.items _ c.loop-k.k c.word.result (omega (arith, c.loop-k.words.ok, c.loop-k.invariant.0)) c.word.ensures c.loop-k.invariant.2 j h,
)

pub returns-clause-ok : goal.returns-clause-ok
returns-clause-ok g c =
    let seat = c.core.inside.seat in
    let table = c.self.inside.table in
    let tasks : table.shared.key ≡ c.args.self.tasks = c.self.invariant.0 ∙ ap (λ w. w.tasks) c.self.view_is in
    let all : (j : ℕ) → j < table.shared.key → slice_index c.loop-k.words.items j ≡ slice_index c.close_with-closed.result.words.items (j + 1) = (λ j h. c.loop-k.invariant.2 j (omega (arith, c.self.invariant.0, c.loop-k-test.false))) in
    let closed = closes table.shared.key seat.id seat.me.0 c.close_with-closed.result.words.items c.loop-k.words.items _ c.core.invariant.0 c.core.invariant.1 c.close_with-closed.ensures.values.2 all in (
      omega (arith, c.loop-k.invariant.0, c.loop-k-test.false, c.loop-k.auto.k-end, c.self.invariant.0, tasks),
      omega (arith, c.loop-k.invariant.1, c.self.invariant.0, tasks),
      subst (λ (n : ℕ). Closes n c.args.core.view c.loop-k.words.items) tasks (subst (λ s. Closes table.shared.key s.view c.loop-k.words.items) c.core.view_is closed),
    )
