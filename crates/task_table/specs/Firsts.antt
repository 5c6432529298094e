-- Which task of a table the next start gets, and which kept tasks it meets.
-- All of it is this project's rule, but where a source is named.
use Rattle.std.specs.Prelude.{◌≡◌, ℕ, ◌≤◌, ◌⊎◌, ◌&&◌, ◌||◌, nat_le, true, false, List, Option, Some, None, Bool}
use Rattle.std.specs.Option.{option_map_or}
use Rattle.delay_queue.specs.Queues.{comes_before}
use Rattle.queue_code.specs.Calls.{how_many}
use Rattle.task_table.specs.declared.seat.Seat.{Seat}
use Rattle.task_table.specs.declared.seat.TaskRef.{TaskRef}
use Rattle.task_table.specs.Seats.{task_in, slot_of, waits}
use Rattle.task_table.specs.Tables.{TableView}

-- a task in a slot waits, its due moment is reached, and it comes before each other one of which this is so
-- (by due moment as in DelayQueue, Java SE 17 documentation: "The head of the queue is that Delayed element whose delay expired
-- furthest in the past."; at the same one as in ScheduledThreadPoolExecutor: "Tasks scheduled for exactly the same execution time are
-- enabled in first-in-first-out (FIFO) order of submission.")
pub record IsFirstDue (m : TableView) (slot : ℕ) (x : Seat) : Type 0 where
  pub there : slot_of m.slots slot ≡ Some x
  pub waiting : waits (task_in x) ≡ true
  pub due : x.due ≤ m.moment
  pub least : (i : ℕ) (y : Seat) → slot_of m.slots i ≡ Some y → waits (task_in y) ≡ true → y.due ≤ m.moment → (i ≡ slot) ⊎ (comes_before x.due x.number y.due y.number ≡ true)

-- no task waits whose due moment is reached
abbrev pub NoneDue : TableView → Type 0
NoneDue m = (i : ℕ) (y : Seat) → slot_of m.slots i ≡ Some y → waits (task_in y) ≡ true → y.due ≤ m.moment → ⊥

-- this names the first task that waits and is due
abbrev pub IsFirst : TableView → TaskRef → Type 0
IsFirst m r = (x : Seat) × IsFirstDue m r.slot x × (x.number ≡ r.number)

-- this is the task that the next start gets, if it is not refused
abbrev pub FirstIs : TableView → Option Seat → Type 0
FirstIs m None = NoneDue m
FirstIs m (Some x) = (slot : ℕ) × IsFirstDue m slot x

-- a start at this moment that gets this task, or none, meets a kept one: its due moment is reached, and it comes before
abbrev pub is_met : ℕ → Option Seat → Seat → Bool
is_met now None x = nat_le x.due now
is_met now (Some first) x = nat_le x.due now && comes_before x.due x.number first.due first.number

-- it meets no kept task
abbrev pub MeetsNone : TableView → Option Seat → Type 0
MeetsNone m first = (i : ℕ) (x : Seat) → slot_of m.slots i ≡ Some x → x.kept ≡ true → is_met m.moment first x ≡ false

-- the task in a slot is kept, and the next start meets it
pub record IsMetAt (m : TableView) (slot : ℕ) : Type 0 where
  pub task : Seat
  pub there : slot_of m.slots slot ≡ Some task
  pub kept : task.kept ≡ true
  pub first : Option Seat
  pub is : FirstIs m first
  pub met : is_met m.moment first task ≡ true

-- a start meets no kept task, whichever it gets
abbrev pub NoneMet : TableView → Type 0
NoneMet m = (first : Option Seat) → FirstIs m first → MeetsNone m first

-- no task is kept
abbrev pub NoneKept : TableView → Type 0
NoneKept m = (i : ℕ) (x : Seat) → slot_of m.slots i ≡ Some x → x.kept ≡ false

-- a slot holds a task that stands in the queue: it waits, or is kept
abbrev pub stands_in_queue : Option Seat → Bool
stands_in_queue o = option_map_or (λ x. waits (task_in x) || x.kept) o false

-- some task that stands in the queue is due
abbrev pub IsRipe : TableView → Type 0
IsRipe m = (i : ℕ) × (x : Seat) × (slot_of m.slots i ≡ Some x) × (stands_in_queue (Some x) ≡ true) × (x.due ≤ m.moment)

-- how many tasks stand in the queue
abbrev pub queue_in : List (Option Seat) → ℕ
queue_in slots = how_many stands_in_queue slots

-- a slot holds a task that is kept
abbrev pub holds_kept : Option Seat → Bool
holds_kept o = option_map_or (λ x. x.kept) o false

-- how many tasks are kept
abbrev pub kept_in : List (Option Seat) → ℕ
kept_in slots = how_many holds_kept slots

-- a task waits that is due at this moment, and none that is due earlier
pub record IsEarliest (m : TableView) (due : ℕ) : Type 0 where
  pub slot : ℕ
  pub task : Seat
  pub there : slot_of m.slots slot ≡ Some task
  pub waiting : waits (task_in task) ≡ true
  pub is : task.due ≡ due
  pub least : (i : ℕ) (y : Seat) → slot_of m.slots i ≡ Some y → waits (task_in y) ≡ true → due ≤ y.due

-- no task waits
abbrev pub NoneWaits : TableView → Type 0
NoneWaits m = (i : ℕ) (y : Seat) → slot_of m.slots i ≡ Some y → waits (task_in y) ≡ false

-- a task that stands in the queue, as it waits or is kept, is due at this moment, and none that is due earlier
pub record IsHead (m : TableView) (due : ℕ) : Type 0 where
  pub slot : ℕ
  pub task : Seat
  pub there : slot_of m.slots slot ≡ Some task
  pub queued : stands_in_queue (Some task) ≡ true
  pub is : task.due ≡ due
  pub least : (i : ℕ) (y : Seat) → slot_of m.slots i ≡ Some y → stands_in_queue (Some y) ≡ true → due ≤ y.due

-- no task stands in the queue
abbrev pub NoneQueued : TableView → Type 0
NoneQueued m = (i : ℕ) (y : Seat) → slot_of m.slots i ≡ Some y → stands_in_queue (Some y) ≡ false
