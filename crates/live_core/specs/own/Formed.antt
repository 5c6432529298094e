-- What stays true of each executor. No contract of a public call cites it but through the invariant of the executor.
-- All of it is this project's rule.
use Rattle.std.specs.Prelude.{◌≡◌, ℕ, ◌+◌, ◌≤◌, true, false, Option, Some, List, length}
use Rattle.sched_time.specs.Times.{longest}
use Rattle.queue_code.specs.Calls.{Planned}
use Rattle.executor_model.specs.Histories.{HistoryEntry}
use Rattle.task_table.specs.declared.seat.Seat.{Seat}
use Rattle.task_table.specs.declared.seat.TaskRef.{TaskRef}
use Rattle.task_table.specs.Seats.{task_in, slot_of, is_alive}
use Rattle.task_table.specs.Tables as tables
use Rattle.task_table.specs.Tables.{TableView, workers_of}
use Rattle.live_core.specs.Lives.{LiveView, never, AreAlive}
use Rattle.live_core.specs.Empties.{held_numbers, AreEmpty}
use Rattle.live_core.specs.own.Slots.{IsIndex}

-- the empty slots of a table and the index of its numbers are known, and there is room to note that each slot is empty, that it has a
-- task, and that its task was ended
pub record AreNoted (slots : List (Option Seat)) (count : ℕ) (free : List ℕ) (entries : List TaskRef) (slot_room ended_room : ℕ) : Type 0 where
  pub empty : AreEmpty (held_numbers slots) free
  pub index : IsIndex (held_numbers slots) entries count
  pub room : length slots ≤ slot_room
  pub spare : length slots ≤ ended_room

-- of each task in a slot something may come, but for the task in this slot
abbrev pub AreAliveBut : ℕ → List (Option Seat) → Type 0
AreAliveBut slot slots = (i : ℕ) (x : Seat) → slot_of slots i ≡ Some x → (slot ≡ i → ⊥) → is_alive (task_in x) ≡ true

-- what stays true of each executor: numbers and moments are within their limits; until it is shut, each submission was accepted;
-- its slots are noted; and none holds a task of which nothing may come any more
pub record IsLive (m : LiveView) (free : List ℕ) (entries : List TaskRef) (slot_room ended_room : ℕ) : Type 0 where
  pub few : m.count ≤ never
  pub behind : m.earliest ≤ m.table.moment + 1
  pub unshut : m.table.shut ≡ false → m.accepted ≡ m.count
  pub earliest : m.earliest ≤ longest + 1
  pub noted : AreNoted m.table.slots m.count free entries slot_room ended_room
  pub alive : AreAlive m.table.slots

-- the table has more slots, or as many, and stands where it stood
pub record IsRoomier (old new : TableView) : Type 0 where
  pub more : length old.slots ≤ length new.slots
  pub moment : new.moment ≡ old.moment
  pub shut : new.shut ≡ old.shut
  pub workers : workers_of new ≡ workers_of old
  pub stands : (calls : List Planned) (past : List HistoryEntry) → tables.Stands old calls past → tables.Stands new calls past
