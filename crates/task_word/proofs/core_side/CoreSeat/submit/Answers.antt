use Rattle.std.proofs.Common.{◌≡◌, ◌+◌, ◌<◌, length, sym, ap, ◌∙◌, refl, arith, subst, set, ℕ}
use Rattle.atomic_table.specs.Table.{Allows}
use Rattle.task_word.specs.Words.{value, new_in}
use Rattle.task_word.specs.Views.{entry, with_entry}
use Rattle.task_word.specs.own.Views.{core_of}
use Rattle.task_word.proofs.SeatFields.{core_sits}
use Rattle.task_word.specs.own.Steps.{Submitted}
use Rattle.task_word.specs.declared.phases.Phase.TheVariants.{Vacant}
use Rattle.task_word.proofs.TaskPlaces.{Rule}
use Rattle.task_word.proofs.CoreSteps.{submits}
use Rattle.task_word.proofs.Uses.{entry_here}
use Rattle.task_word.proofs.core_side.CoreSeat.submit.Goals as goal

pub store-requires : goal.store-requires
store-requires g c =
    let tasks : c.words.inside.tasks ≡ c.args.words.now.tasks = ap (λ w. w.tasks) c.words.view_is in
    let seat = c.self.inside.seat in
    let stored : value (new_in 0) ≡ c.value.result = sym (c.value.ensures.value ∙ ap value c.submitted-next.ensures) in (
      ap (λ s. s.table) c.self.view_is ∙ (c.requires.table ∙ sym (ap (λ w. w.table) c.words.view_is)),
      omega (arith, tasks, c.words.invariant.1, c.requires.task),
      subst (λ (x : ℕ). Allows {S = Unit {0}} (Rule c.words.inside.table.shared.key) c.words.inside.table.shared.table_id.slots seat.id seat.me (c.args.k + 1) (λ _. x) (λ _ next. Submitted (c.args.k + 1) seat.me next)) stored
          (submits c.words.inside.table.shared.key _ seat.id c.args.k seat.me c.self.invariant.0 c.self.invariant.1 (omega (arith, tasks, c.words.invariant.0, c.requires.task)) (subst (λ s. (entry s.view c.args.k).phase ≡ Vacant) (sym c.self.view_is) c.requires.phase)),
    )

pub invariant_of-self : goal.invariant_of-self
invariant_of-self g c =
    let step = c.store.ensures in
    let seat = c.self.inside.seat in
    core_sits _ _ _ _ seat.me _ c.self.inside.entries.items c.self.inside.out c.args.k c.submitted-next.result (with_entry (core_of seat.me.0) c.args.k (new_in 0)) step.0 step.1
    (step.2 c.args.k (refl {a = c.args.k + 1}))
    (ap (set (core_of seat.me.0).entries c.args.k) (sym c.submitted-next.ensures))
    refl
    c.self.invariant

pub returns-clause-write : goal.returns-clause-write
returns-clause-write g c =
    let seat = c.self.inside.seat in
    let step = c.store.ensures.2 c.args.k (refl {a = c.args.k + 1}) in
    let words = ap (λ s. s.table.words) c.self.view_is ∙ (ap (λ t. t.words) c.requires.table ∙ sym (ap (λ t. t.table.words) c.words.view_is)) in
    let tasks : c.words.inside.tasks ≡ c.args.words.now.tasks = ap (λ w. w.tasks) c.words.view_is in
    let room : c.args.k < length (core_of seat.me.0).entries = omega (arith, ap length c.self.invariant.2, c.self.invariant.5, c.words.invariant.1, tasks, words, c.requires.task) in (
      c.requires.phase,
      ap (λ m. entry (core_of m.0) c.args.k) step ∙ entry_here (core_of seat.me.0) c.args.k (new_in 0) room,
    )
