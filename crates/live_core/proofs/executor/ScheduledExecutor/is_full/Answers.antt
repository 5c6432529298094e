-- The slots that are not noted as empty hold tasks.
use Rattle.std.proofs.Common.{◌≡◌, ◌<◌, ◌==◌, ℕ, zero, suc, false, length, arith, ap, sym}
use Rattle.std.proofs.lemmas.Bool.{eqb-true, false≢true}
use Rattle.live_core.specs.Lives.{LiveView}
use Rattle.live_core.specs.Said.{tasks_in}
use Rattle.live_core.proofs.Held.{held_length, held_count}
use Rattle.live_core.proofs.executor.ScheduledExecutor.is_full.Goals as goal

-- there is one, where there is not none
some_of : (n : ℕ) → (n == 0) ≡ false → 0 < n
some_of zero is = absurd (false≢true (sym is))
some_of (suc n) is = omega arith

pub returns-clause-full : goal.returns-clause-full
returns-clause-full g c is =
    let slots = c.self.inside.table.slots in
    let same : slots ≡ c.args.self.now.table.slots = ap (λ (m : LiveView). m.table.slots) c.self.view_is in
    let none : c.free_slots.result ≡ 0 = eqb-true c.free_slots.result 0 is in
    omega (arith, none, c.free_slots.ensures, c.self.invariant.noted.empty.count, held_length slots, held_count slots, ap tasks_in same, ap length same)

pub returns-clause-room : goal.returns-clause-room
returns-clause-room g c is taken =
    let slots = c.self.inside.table.slots in
    let same : slots ≡ c.args.self.now.table.slots = ap (λ (m : LiveView). m.table.slots) c.self.view_is in
    let some : 0 < c.free_slots.result = some_of c.free_slots.result is in
    absurd (omega (arith, some, taken, c.free_slots.ensures, c.self.invariant.noted.empty.count, held_length slots, held_count slots, ap tasks_in same, ap length same))
