-- What the private functions of a core do, each a part of a step. No contract of a public call cites it.
-- All of it is this project's rule.
use Rattle.std.specs.Prelude.{◌≡◌, ℕ, ◌≤◌, Bool, true, List, length, Option, Some, None}
use Rattle.std.specs.List.{filter, range_with_len}
use Rattle.sched_time.specs.declared.timing.Timing.TheVariants as t
use Rattle.executor_model.specs.declared.types.Happening.{Happening}
use Rattle.executor_model.specs.declared.types.Answer.{Answer}
use Rattle.executor_model.specs.Answers.{bare}
use Rattle.executor_model.specs.State.{next, reply_of}
use Rattle.task_table.specs.declared.seat.Seat.{Seat}
use Rattle.task_table.specs.Seats.{task_in, slot_of, waits}
use Rattle.task_table.specs.Tables.{TableView}
use Rattle.task_table.specs.Ends.{ends_at_slot}
use Rattle.executor_core.specs.CoreView.{CoreView, workers_of, state_of}

-- the core took the step of one happening, and this is its answer, which ends no task
pub record Takes (old new : CoreView) (happening : Happening) (answer : Answer) : Type 0 where
  pub calls : new.calls ≡ old.calls
  pub limit : new.limit ≡ old.limit
  pub taken : new.taken ≡ old.taken
  pub workers : workers_of new ≡ workers_of old
  pub state : state_of new ≡ next old.calls (workers_of old) (state_of old) happening
  pub said : reply_of old.calls (workers_of old) (state_of old) happening ≡ bare answer

-- what a slot holds is as it was, but that its task is maybe kept no more
abbrev pub IsUnkept : Option Seat → Option Seat → Type 0
IsUnkept None new = new ≡ None
IsUnkept (Some x) new = (kept : Bool) × (new ≡ Some (record x { kept = kept }))

-- a table is as it was, but that some tasks are kept no more
pub record AreUnkept (old new : TableView) : Type 0 where
  pub rest : new ≡ record old { slots = new.slots }
  pub count : length new.slots ≡ length old.slots
  pub each : (i : ℕ) → IsUnkept (slot_of old.slots i) (slot_of new.slots i)

-- no task with one run waits whose due moment is not reached
abbrev pub NoneWaitsDelayed : TableView → Type 0
NoneWaitsDelayed m = (i : ℕ) (x : Seat) → slot_of m.slots i ≡ Some x → waits (task_in x) ≡ true → x.timing ≡ t.Once → x.due ≤ m.moment

-- the slots whose tasks a sweep of the table ends, ascending
abbrev pub swept_slots : TableView → List ℕ
swept_slots m = filter (λ i. ends_at_slot m i) (range_with_len 0 (length m.slots))
