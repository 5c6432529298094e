use Rattle.std.proofs.Common.{◌≡◌, sym, ap, ◌∙◌, refl, arith}
use Rattle.task_word.proofs.CoreSteps.{core_looks}
use Rattle.task_word.proofs.core_side.CoreSeat.look.Goals as goal

pub load-found-requires : goal.load-found-requires
load-found-requires g c =
    let tasks : c.words.inside.tasks ≡ c.args.words.now.tasks = ap (λ w. w.tasks) c.words.view_is in
    let seat = c.self.inside.seat in (
      ap (λ s. s.table) c.self.view_is ∙ (c.requires.table ∙ sym (ap (λ w. w.table) c.words.view_is)),
      omega (arith, tasks, c.words.invariant.1, c.requires.task),
      core_looks c.words.inside.table.shared.key _ seat.id c.args.k seat.me c.self.invariant.0 c.self.invariant.1 (omega (arith, tasks, c.words.invariant.0, c.requires.task)),
    )

pub of_value-met-requires : goal.of_value-met-requires
of_value-met-requires g c = (c.load-found.ensures.2 c.args.k refl).0.word
