-- The slots that are not noted as empty hold tasks, and of each something may come.
use Rattle.std.proofs.Common.{◌≡◌, arith, ap}
use Rattle.live_core.specs.Lives.{LiveView}
use Rattle.live_core.specs.Said.{tasks_in, alive_in}
use Rattle.live_core.proofs.Alive.{alive_count}
use Rattle.live_core.proofs.Held.{held_length, held_count}
use Rattle.live_core.proofs.executor.ScheduledExecutor.len.Goals as goal

pub returns-clause-tasks : goal.returns-clause-tasks
returns-clause-tasks g c =
    let slots = c.self.inside.table.slots in
    let same : slots ≡ c.args.self.now.table.slots = ap (λ (m : LiveView). m.table.slots) c.self.view_is in
    omega (arith, c.slots.ensures, c.free_slots.ensures, c.self.invariant.noted.empty.count, held_length slots, held_count slots, ap tasks_in same)

pub returns-clause-alive : goal.returns-clause-alive
returns-clause-alive g c =
    let slots = c.self.inside.table.slots in
    let same : slots ≡ c.args.self.now.table.slots = ap (λ (m : LiveView). m.table.slots) c.self.view_is in
    omega (arith, c.slots.ensures, c.free_slots.ensures, c.self.invariant.noted.empty.count, held_length slots, held_count slots, alive_count slots c.self.invariant.alive, ap alive_in same)
