-- What contracts see of an executor whose calls are made while it runs, and where it stands.
-- All of it is this project's rule.
use Rattle.std.specs.Prelude.{◌≡◌, ℕ, ◌+◌, ◌^◌, ◌<◌, ◌≤◌, max, nat_lt, true, Option, List, [], ◌∷◌, ◌++◌, length, Some}
use Rattle.queue_code.specs.Calls.{Planned, task_count}
use Rattle.executor_model.specs.declared.types.Happening.{Happening}
use Rattle.executor_model.specs.declared.types.Happening.TheVariants as h
use Rattle.executor_model.specs.declared.types.Answer.{Answer}
use Rattle.executor_model.specs.declared.types.Answer.TheVariants as a
use Rattle.executor_model.specs.Answers.{Reply}
use Rattle.executor_model.specs.Histories.{HistoryEntry, entry_of, happenings, made, was_accepted}
use Rattle.executor_model.specs.Flows.{lines_of, lines_at}
use Rattle.executor_laws.specs.Additions.{AllLookBelow}
use Rattle.task_table.specs.declared.seat.Seat.{Seat}
use Rattle.task_table.specs.declared.seat.TaskRef.{TaskRef}
use Rattle.task_table.specs.Seats.{task_in, slot_of, is_alive}
use Rattle.task_table.specs.Tables as tables
use Rattle.task_table.specs.Tables.{TableView, workers_of}

-- a number that no task ever has: tasks are numbered by 64 bits
abbrev pub never : ℕ
never = 2 ^ 64

-- the tasks in their slots; how many numbers were given out; of how many the submission was accepted, which are the first ones, as
-- an executor that is shut never opens again; the least moment of the call that comes next; and the tasks that the last happening
-- ended
pub record LiveView : Type 0 where
  pub table : TableView
  pub count : ℕ
  pub accepted : ℕ
  pub earliest : ℕ
  pub ended : List TaskRef

-- the executor once its table is so, and the last happening ended no task
abbrev pub quiet : LiveView → TableView → LiveView
quiet m table = record m { table = table; ended = [] }

-- 1 ns after a clock that was accepted, and as before where there was none
abbrev pub passed : ℕ → Happening → Answer → ℕ
passed before (h.Clock t) a.Clock = t + 1
passed before happening answer = before

-- 1 ns after the last accepted clock, and 0 before any
abbrev pub after_clock : List HistoryEntry → ℕ
after_clock [] = 0
after_clock (e ∷ past) = passed (after_clock past) e.happening e.answer

-- the moment at which a call is made, where this one is handed in: the greatest of it, now, and 1 ns after the last accepted clock
abbrev pub moment_of_call : LiveView → ℕ → ℕ
moment_of_call m at = max at (max m.table.moment m.earliest)

-- The executor stands where this history of the calls made so far leads: all calls were made in it; the least moment of the call
-- that comes next is 1 ns after the last accepted clock, so that each accepted clock was before it, and at most 1 ns after now; and
-- each cancel from outside named a number that was given out, or one that no task ever has.
pub record Stands (m : LiveView) (calls : List Planned) (past : List HistoryEntry) : Type 0 where
  pub table : tables.Stands m.table calls past
  pub made : made (happenings past) ≡ length calls
  pub count : task_count calls ≡ m.count
  pub few : m.count ≤ never
  pub clock : m.earliest ≡ after_clock past
  pub below : AllLookBelow m.earliest m.count never past
  pub behind : m.earliest ≤ m.table.moment + 1
  pub accepted : (k : ℕ) → was_accepted k past ≡ nat_lt k m.accepted

-- a call is made: the executor stands where the longer history of the longer calls leads, and the lines of this reply are added
pub record Makes (new : LiveView) (calls : List Planned) (past : List HistoryEntry) (p : Planned) (r : Reply) : Type 0 where
  pub stands : Stands new (calls ++ p ∷ []) (entry_of h.Call r ∷ past)
  pub lines : lines_of (calls ++ p ∷ []) (entry_of h.Call r ∷ past) ≡ lines_of calls past ++ lines_at new.table.moment r

-- an event comes: the same, where the calls stay
pub record Meets (new : LiveView) (calls : List Planned) (past : List HistoryEntry) (y : Happening) (r : Reply) : Type 0 where
  pub stands : Stands new calls (entry_of y r ∷ past)
  pub lines : lines_of calls (entry_of y r ∷ past) ≡ lines_of calls past ++ lines_at new.table.moment r

-- whatever calls and history led here, the call is made with this reply
abbrev pub Calls : LiveView → LiveView → Planned → Reply → Type 0
Calls old new p r = (calls : List Planned) (past : List HistoryEntry) → Stands old calls past → Makes new calls past p r

-- the same of an event
abbrev pub Happens : LiveView → LiveView → Happening → Reply → Type 0
Happens old new y r = (calls : List Planned) (past : List HistoryEntry) → Stands old calls past → Meets new calls past y r

-- a slot that holds a task whose number was given out before held that task before
abbrev pub KeepsSlots : LiveView → LiveView → Type 0
KeepsSlots old new = (i : ℕ) (x : Seat) → slot_of new.table.slots i ≡ Some x → x.number < old.count → (y : Seat) × (slot_of old.table.slots i ≡ Some y) × (y.number ≡ x.number)

-- each task in a slot has a number that was given out
abbrev pub AreGiven : LiveView → Type 0
AreGiven m = (i : ℕ) (x : Seat) → slot_of m.table.slots i ≡ Some x → x.number < m.count

-- no two slots hold tasks of one number
abbrev pub AreApart : LiveView → Type 0
AreApart m = (i j : ℕ) (x y : Seat) → slot_of m.table.slots i ≡ Some x → slot_of m.table.slots j ≡ Some y → x.number ≡ y.number → i ≡ j

-- of each task in a slot something may come: it waits for a run, or is kept, or a run of it is under way. So a kept task that is
-- dropped has left its slot
abbrev pub AreAlive : List (Option Seat) → Type 0
AreAlive slots = (i : ℕ) (x : Seat) → slot_of slots i ≡ Some x → is_alive (task_in x) ≡ true

-- what each call leaves, and each event but an accepted clock: as many workers as there were, the least moment of the call that
-- comes next, and so many numbers that were given out; each task keeps its slot, as long as something may come of it and no longer,
-- and has no other; and where no number was given out, there are as many slots
pub record Stays (old new : LiveView) (numbers : ℕ) : Type 0 where
  pub workers : workers_of new.table ≡ workers_of old.table
  pub earliest : new.earliest ≡ old.earliest
  pub count : new.count ≡ numbers
  pub slots : KeepsSlots old new
  pub size : numbers ≡ old.count → length new.table.slots ≡ length old.table.slots
  pub given : AreGiven new
  pub apart : AreApart new
  pub alive : AreAlive new.table.slots

-- and no task was ended
pub record StaysQuiet (old new : LiveView) (numbers : ℕ) : Type 0 where
  pub stays : Stays old new numbers
  pub ended : new.ended ≡ []
