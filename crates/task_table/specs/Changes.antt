-- What each call makes of a table, exactly. No contract of a public call cites it but in clauses of what is in the slots.
-- All of it is this project's rule.
use Rattle.std.specs.Prelude.{ℕ, ◌+◌, ◌-◌, ◌&&◌, ◌||◌, ◌++◌, not, Bool, true, false, if◌then◌else◌, length, replicate, map, Option, Some, None, slice_set, option_map}
use Rattle.sched_time.specs.declared.timing.Timing.{Timing}
use Rattle.sched_time.specs.declared.policies.Policies.{Policies}
use Rattle.executor_model.specs.declared.types.Outcome.{Outcome}
use Rattle.executor_model.specs.declared.types.Outcome.TheVariants as o
use Rattle.executor_model.specs.declared.task.Stage.TheVariants as ph
use Rattle.executor_model.specs.declared.types.CancelEffect.{CancelEffect}
use Rattle.executor_model.specs.declared.types.CancelEffect.TheVariants as f
use Rattle.task_table.specs.declared.seat.Seat.{Seat}
use Rattle.task_table.specs.Seats.{is_waiting_in}
use Rattle.task_table.specs.Tables.{TableView}
use Rattle.task_table.specs.Ends.{is_swept, ends_task, effect_of}

-- the table once a slot holds this
abbrev pub put : TableView → ℕ → Seat → TableView
put m slot x = record m { slots = slice_set m.slots slot (Some x) }

-- a task that is just submitted
abbrev pub submitted : ℕ → Timing → ℕ → Seat
submitted number timing due = record { number = number; phase = ph.Waiting; run = 0; due = due; timing = timing; cancelled = false; kept = false }

-- a call is made at this moment
abbrev pub at_moment : TableView → ℕ → TableView
at_moment m at = record m { moment = at }

-- a task is accepted into an empty slot
abbrev pub admitted : TableView → ℕ → ℕ → ℕ → Timing → ℕ → TableView
admitted m slot number at timing delay = at_moment (put m slot (submitted number timing (at + delay))) at

-- a run of the task in a slot is under way
abbrev pub begun : Seat → Seat
begun x = record x { phase = ph.Running }

-- the worker runs the task in a slot
abbrev pub started : TableView → ℕ → ℕ → Seat → TableView
started m worker slot x = record (put m slot (begun x)) { work = slice_set m.work worker (Some slot) }

-- the run of a task ended so, and it holds this due moment from then on
abbrev pub ended : Outcome → ℕ → Seat → Seat
ended (o.Done value) due x = record x { phase = ph.Done; due = due }
ended (o.Failed code) due x = record x { phase = ph.Failed; due = due }
ended o.Dropped due x = record x { phase = ph.Dropped; due = due }
ended o.Ended due x = record x { phase = ph.Dropped; due = due; cancelled = true }
ended (o.Again next) due x = record x { phase = ph.Waiting; run = x.run + 1; due = due }

-- the worker has run the task in a slot
abbrev pub finished : TableView → ℕ → ℕ → Seat → Outcome → ℕ → TableView
finished m worker slot x outcome due = record (put m slot (ended outcome due x)) { work = slice_set m.work worker None }

-- a task that is cancelled, and kept from then on where this says so, or where it was kept before
abbrev pub cancelled_keeping : Bool → Seat → Seat
cancelled_keeping keeps x = record x { cancelled = true; kept = x.kept || keeps }

-- a task that is cancelled: one that waits is kept, unless cancelled tasks leave the queue
abbrev pub cancelled : Bool → Seat → Seat
cancelled removes x = cancelled_keeping (is_waiting_in x.phase && not removes) x

-- the table once a cancel of the task in a slot has this effect
abbrev pub cancel_by : CancelEffect → TableView → ℕ → Seat → TableView
cancel_by f.Yes m slot x = put m slot (cancelled m.policies.removes x)
cancel_by _ m slot x = m

-- the table after a cancel of the task in a slot
abbrev pub cancel_in : TableView → ℕ → Seat → TableView
cancel_in m slot x = cancel_by (effect_of x) m slot x

-- a slot is emptied
abbrev pub emptied : TableView → ℕ → TableView
emptied m slot = record m { slots = slice_set m.slots slot None }

-- there are at least so many slots
abbrev pub grown : TableView → ℕ → TableView
grown m slots = record m { slots = m.slots ++ replicate (slots - length m.slots) None }

-- a task that is kept no more
abbrev pub unkept : Seat → Seat
unkept x = record x { kept = false }

-- a task after such a sweep: it is cancelled where it is ended
abbrev pub swept : Bool → Policies → ℕ → Seat → Seat
swept stopped policies moment x = record x { cancelled = is_swept stopped policies moment x || x.cancelled }

-- the table once the task in a slot, which holds this, is swept
abbrev pub swept_in : Option Seat → TableView → ℕ → TableView
swept_in None m slot = m
swept_in (Some x) m slot = if ends_task m x then put m slot (record x { cancelled = true }) else m

-- the table after a sweep under the policies that it has
abbrev pub after_sweep : TableView → TableView
after_sweep m = record m { slots = map (option_map (λ x. swept m.stopped m.policies m.moment x)) m.slots }
