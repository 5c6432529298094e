use Rattle.std.proofs.Common.{Some, ap, arith, sym, ◌∙◌}
use Rattle.std.specs.Prelude.{slice_index_or}
use Rattle.executor_model.specs.declared.task.Task.{Task}
use Rattle.executor_model.specs.State.{vacant}
use Rattle.executor_core.specs.plan_table.Numbered.{slot_by, seat_of}
use Rattle.executor_core.proofs.plan_table.Numbered.{slot_at, slot_empty, in_slot, none_past}
use Rattle.executor_core.proofs.plan_table.slots.TasksSlots.get.Goals as goal

pub returns-then-place-count : goal.returns-then-place-count
returns-then-place-count g c = sym (none_past c.args.self.now c.args.slot (λ low. absurd (omega (arith, low, c.count.ensures, c.if-place-count.true))))

pub returns-in-Vacant : goal.returns-in-Vacant
returns-in-Vacant g c =
    sym (slot_at c.args.self.now c.args.slot ∙ slot_empty c.args.slot (slice_index_or c.args.self.now c.args.slot vacant) (ap (λ (t : Task). t.phase) (sym c.task-task.ensures) ∙ c.in-Vacant.is))

pub returns-in_default : goal.returns-in_default
returns-in_default g c =
    sym (slot_at c.args.self.now c.args.slot ∙ ap (slot_by c.args.slot) (sym c.task-task.ensures) ∙ in_slot c.args.slot c.task-task.result c.in_default.not-Vacant ∙ ap Some (ap (λ n. seat_of n c.task-task.result) (sym c.from.ensures) ∙ sym c.seat_of.ensures))
