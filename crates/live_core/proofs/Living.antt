-- What stays true of an executor, after each call and each event but an accepted clock.
use Rattle.std.proofs.Common.{◌≡◌, ℕ, ◌≤◌, false, List, arith}
use Rattle.task_table.specs.declared.seat.TaskRef.{TaskRef}
use Rattle.live_core.specs.Lives.{LiveView, never, AreAlive}
use Rattle.live_core.specs.own.Formed.{AreNoted, IsLive}

pub live_on : (m new : LiveView) (free : List ℕ) (entries : List TaskRef) (slot_room ended_room : ℕ) (free' : List ℕ) (entries' : List TaskRef) (slot_room' ended_room' : ℕ) → IsLive m free entries slot_room ended_room →
    new.count ≤ never → new.earliest ≡ m.earliest → m.table.moment ≤ new.table.moment → (new.table.shut ≡ false → new.accepted ≡ new.count) → AreNoted new.table.slots new.count free' entries' slot_room' ended_room' → AreAlive new.table.slots →
    IsLive new free' entries' slot_room' ended_room'
live_on m new free entries slot_room ended_room free' entries' slot_room' ended_room' live few same moves unshut noted alive = record {
  few = few;
  behind = omega (arith, same, live.behind, moves);
  unshut = unshut;
  earliest = omega (arith, same, live.earliest);
  noted = noted;
  alive = alive;
}
