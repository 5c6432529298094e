-- What stands in the two queues of a table: each task that waits in the one, and each that is kept in the other. No contract of a
-- public call cites it but through the invariant of the table. All of it is this project's rule.
use Rattle.std.specs.Prelude.{◌≡◌, ℕ, ◌≤◌, ◌&&◌, not, Bool, true, false, if◌then◌else◌, length, Option, Some, None}
use Rattle.executor_model.specs.declared.task.Stage.TheVariants as ph
use Rattle.executor_model.specs.declared.types.Outcome.{Outcome}
use Rattle.executor_model.specs.declared.types.Outcome.TheVariants as o
use Rattle.task_table.specs.declared.seat.Seat.{Seat}
use Rattle.task_table.specs.Seats.{task_in, slot_of, waits, is_waiting_in}
use Rattle.task_table.specs.Tables.{TableView}
use Rattle.task_table.specs.Formed.{IsFormed}

-- the due moment and the number of a task, where it stands in the queue
abbrev pub key_where : Bool → Seat → Option (ℕ × ℕ)
key_where stands x = if stands then Some (x.due, x.number) else None

-- of a slot: those of a task that waits for a run
abbrev pub queued_key : Option Seat → Option (ℕ × ℕ)
queued_key None = None
queued_key (Some x) = key_where (waits (task_in x)) x

-- of a slot: those of a task that is kept
abbrev pub kept_key : Option Seat → Option (ℕ × ℕ)
kept_key None = None
kept_key (Some x) = key_where x.kept x

-- what stands in the two queues, by slot, is what the slots of the table say
pub record Queues (m : TableView) (entries kept : ℕ → Option (ℕ × ℕ)) : Type 0 where
  pub waiting : (i : ℕ) → entries i ≡ queued_key (slot_of m.slots i)
  pub keeping : (i : ℕ) → kept i ≡ kept_key (slot_of m.slots i)

-- what a task whose run ended so, and which holds this due moment from then on, has in the queue
abbrev pub key_again : Outcome → ℕ → ℕ → Option (ℕ × ℕ)
key_again (o.Again next) due number = Some (due, number)
key_again _ due number = None

-- a task goes on after a run with this outcome
abbrev pub is_again : Outcome → Bool
is_again (o.Again next) = true
is_again _ = false

-- what a task that is cancelled has in the queue of kept tasks
abbrev pub key_cancelled : Bool → Seat → Option (ℕ × ℕ)
key_cancelled removes x = key_where (is_waiting_in x.phase && not removes) x

-- what stays true of each table with its two queues: it is well formed, the queues hold what its slots say, and have room for each
-- slot; each task may have an entry at its slot, and each run that is under way may be
pub record IsTable (admits : ℕ → ℕ → Bool) (may_run : ℕ → Bool) (m : TableView) (entries kept : ℕ → Option (ℕ × ℕ)) (queue_room kept_room : ℕ) : Type 0 where
  pub formed : IsFormed m
  pub queues : Queues m entries kept
  pub room : length m.slots ≤ queue_room
  pub spare : length m.slots ≤ kept_room
  pub fits : (i : ℕ) (x : Seat) → slot_of m.slots i ≡ Some x → admits i x.number ≡ true
  pub runs : (i : ℕ) (x : Seat) → slot_of m.slots i ≡ Some x → x.phase ≡ ph.Running → may_run x.run ≡ true
