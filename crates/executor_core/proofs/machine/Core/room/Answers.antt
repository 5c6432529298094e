-- The room is less than a number of 64 bits can say.
use Rattle.std.proofs.Common.{◌≡◌, length, sym, ap, ◌∙◌, arith}
use Rattle.std.specs.Prelude.{not}
use Rattle.executor_model.specs.declared.task.Task.{Task}
use Rattle.executor_model.proofs.Flowing.{how_many-le}
use Rattle.executor_model.proofs.Swept.{few_tasks}
use Rattle.executor_core.specs.plan_table.Numbered.{tasks_at}
use Rattle.executor_core.proofs.machine.Core.room.Goals as goal

pub overflow_add-result-2 : goal.overflow_add-result-2
overflow_add-result-2 g c =
    let m = c.self.inside in
    let f = c.self.invariant in
    let tasks = c.stored.result.now in
    let count : length tasks ≡ length (tasks_at m.table.slots) = ap length (sym c.uncancelled.ensures.same ∙ ap tasks_at c.stored.ensures) in
    omega (arith, c.left.ensures, f.orderly.0, c.uncancelled.ensures.value, how_many-le (λ (y : Task). not y.cancelled) tasks, count, f.count, few_tasks m.calls.items f.orderly.0)
