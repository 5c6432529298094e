-- What a cancel from outside moves, by its effect.
use Rattle.std.proofs.Common.{inl, inr, sym, ◌∙◌}
use Rattle.executor_model.specs.declared.types.CancelEffect.TheVariants as effect
use Rattle.executor_core.proofs.Needing.{cancel_needs}
use Rattle.executor_core.proofs.machine.Core.cancel_need.Goals as goal

pub returns-in-No : goal.returns-in-No
returns-in-No g c =
    let m = c.self.inside in
    elim c.in-No.is [
      | inl is ↦ cancel_needs m.calls.items m.limit m.taken m.calls.made m.table m.sought c.args.task effect.No c.args.self.now c.self.invariant c.self.view_is (sym is ∙ c.effect.ensures)
      | inr is ↦ cancel_needs m.calls.items m.limit m.taken m.calls.made m.table m.sought c.args.task effect.Absent c.args.self.now c.self.invariant c.self.view_is (sym is ∙ c.effect.ensures)
    ]
