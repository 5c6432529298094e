-- What submissions answer, as the lines of a trace have it, and what an executor tells of its tasks.
-- All of it is this project's rule, but where a source is named.
use Rattle.std.specs.Prelude.{◌≡◌, ℕ, ◌+◌, ◌*◌, ◌-◌, ◌^◌, ◌<◌, ◌≤◌, ◌⊎◌, ◌==◌, ◌&&◌, not, Bool, true, false, List, length, Option, Some, None, is_some}
use Rattle.std.specs.Option.{option_map_or}
use Rattle.sched_time.specs.declared.timing.Timing.{Timing}
use Rattle.executor_model.specs.declared.types.Answer.{Answer}
use Rattle.executor_model.specs.declared.types.Answer.TheVariants as a
use Rattle.executor_model.specs.declared.types.Refusal.TheVariants as refusal
use Rattle.executor_model.specs.Answers.{Reply, bare, kind_of}
use Rattle.executor_model.specs.Counts.{IsLiveWorkerCount}
use Rattle.sched_time.specs.Times.{longest}
use Rattle.queue_code.specs.declared.call.CodeCall.TheVariants as c
use Rattle.queue_code.specs.Calls.{Planned, how_many, IsTimed}
use Rattle.executor_model.specs.declared.task.Task.{Task}
use Rattle.executor_model.specs.Histories.{HistoryEntry, happenings}
use Rattle.executor_model.specs.State.{after}
use Rattle.task_table.specs.declared.seat.Seat.{Seat}
use Rattle.task_table.specs.declared.seat.TaskRef.{TaskRef}
use Rattle.task_table.specs.Seats.{task_in, slot_of, waits, is_alive, IsNew}
use Rattle.task_table.specs.Tables.{TableView, workers_of}
use Rattle.task_table.specs.Endings.{numbers_of}
use Rattle.live_core.specs.declared.error.MakeError.{MakeError}
use Rattle.live_core.specs.declared.error.MakeError.TheVariants as me
use Rattle.live_core.specs.declared.error.CallError.{CallError}
use Rattle.live_core.specs.declared.error.CallError.TheVariants as ce
use Rattle.live_core.specs.Lives.{LiveView, Stands, Calls, moment_of_call}
use Rattle.live_core.specs.declared.answers.Submitted.{Submitted}
use Rattle.live_core.specs.declared.answers.Submitted.TheVariants as su

-- a submission of this timing is accepted, or refused since the executor is shut
-- (ThreadPoolExecutor, Java SE 17 documentation: "New tasks submitted in method execute(Runnable) will be rejected when the Executor
-- has been shut down".)
abbrev pub submit_reply : Timing → Submitted → Reply
submit_reply timing (su.Accepted task due) = bare (a.Submit task.number (kind_of timing) due)
submit_reply timing (su.Rejected number) = bare (a.Refuse number refusal.Rejected)

-- an answer, and the tasks that it ends
abbrev pub ending : Answer → List TaskRef → Reply
ending answer ended = record { answer = answer; ends = numbers_of ended }

-- why no executor is made for so many workers: they are not 1 to 255, or else memory was refused
abbrev pub IsMakeError : ℕ → MakeError → Type 0
IsMakeError workers me.Workers = IsLiveWorkerCount workers → ⊥
IsMakeError workers me.Memory = IsLiveWorkerCount workers

-- how many tasks have a slot
abbrev pub tasks_in : List (Option Seat) → ℕ
tasks_in slots = how_many is_some slots

-- a slot holds a task of which something may come: it waits for a run, or is kept, or a run of it is under way
abbrev pub holds_alive : Option Seat → Bool
holds_alive o = option_map_or (λ x. is_alive (task_in x)) o false

-- how many slots do
abbrev pub alive_in : List (Option Seat) → ℕ
alive_in slots = how_many holds_alive slots

-- whatever calls and history led here, a task of this number waits for a run, or not
abbrev pub TellsWaiting : LiveView → ℕ → Bool → Type 0
TellsWaiting m number waiting = (calls : List Planned) (past : List HistoryEntry) → Stands m calls past → waiting ≡ waits ((after calls (workers_of m.table) (happenings past)).tasks number)

-- a task is so, which is found in its slot, and of which something may come; or it is found in none, and nothing comes of it
abbrev pub IsFoundAs : Task → Option Seat → Type 0
IsFoundAs t (Some x) = (t ≡ task_in x) × (is_alive t ≡ true)
IsFoundAs t None = is_alive t ≡ false

-- whatever calls and history led here, the task of this number is found so
abbrev pub TellsTask : LiveView → ℕ → Option Seat → Type 0
TellsTask m number found = (calls : List Planned) (past : List HistoryEntry) → Stands m calls past → IsFoundAs ((after calls (workers_of m.table) (happenings past)).tasks number) found

-- the slot of a task holds it, and it waits for a run
abbrev pub is_waiting_there : TableView → TaskRef → Bool
is_waiting_there m task = option_map_or (λ x. (x.number == task.number) && waits (task_in x)) (slot_of m.slots task.slot) false

-- the slot of a task holds it
abbrev pub is_there : TableView → TaskRef → Bool
is_there m task = option_map_or (λ x. x.number == task.number) (slot_of m.slots task.slot) false

-- the number that a submission was given
abbrev pub number_of : Submitted → ℕ
number_of (su.Accepted task due) = task.number
number_of (su.Rejected number) = number

-- a submission has a task: it was accepted
abbrev pub has_task : Submitted → Bool
has_task (su.Accepted task due) = true
has_task (su.Rejected number) = false

-- the spans of a submission are within the limit
abbrev pub IsShort : Timing → ℕ → Type 0
IsShort timing delay = (delay ≤ longest) × IsTimed timing

-- the slot of a task that was accepted holds it, and it waits for a run; no slot holds one that was rejected
abbrev pub IsSeated : LiveView → Submitted → Type 0
IsSeated m (su.Accepted task due) = is_waiting_there m.table task ≡ true
IsSeated m (su.Rejected number) = IsNew m.table.slots number

-- each slot holds a task
abbrev pub AreTaken : List (Option Seat) → Type 0
AreTaken slots = tasks_in slots ≡ length slots

-- there are as many slots as before; or each held a task, and now there are at least twice as many as there were, and at most twice
-- as many as hold tasks, and so many more
abbrev pub GrowsWhereTaken : ℕ → List (Option Seat) → List (Option Seat) → Type 0
GrowsWhereTaken more old new = (length new ≡ length old) ⊎ (AreTaken old × (2 * length old ≤ length new) × (length new ≤ 2 * tasks_in new + more))

-- what a submission leaves of the slots: a task that is rejected wants none
abbrev pub SlotsFor : List (Option Seat) → List (Option Seat) → Submitted → Type 0
SlotsFor old new (su.Accepted task due) = GrowsWhereTaken 2 old new
SlotsFor old new (su.Rejected number) = new ≡ old

-- a submission has this number, which comes next, and is a call that is made; it is accepted exactly where the executor is not shut,
-- and then its task is in its slot
pub record Submits (old new : LiveView) (at : ℕ) (timing : Timing) (delay : ℕ) (s : Submitted) : Type 0 where
  pub short : IsShort timing delay
  pub near : moment_of_call old at ≤ longest
  pub number : number_of s ≡ old.count
  pub numbers : old.count < 2 ^ 64 - 1
  pub accepts : has_task s ≡ not old.table.shut
  pub makes : Calls old new (moment_of_call old at, c.Submit old.count timing delay) (submit_reply timing s)
  pub seated : IsSeated new s
  pub slots : SlotsFor old.table.slots new.table.slots s

-- why a submission is no call: a span is too long, or else its moment would be too late, or else no number is left, or else memory
-- was refused for a task that would be accepted, and that no slot is left for, or there may be no more slots
abbrev pub IsSubmitError : LiveView → ℕ → Timing → ℕ → CallError → Type 0
IsSubmitError m at timing delay ce.TooLong = IsShort timing delay → ⊥
IsSubmitError m at timing delay ce.TooFar = IsShort timing delay × (longest < moment_of_call m at)
IsSubmitError m at timing delay ce.Full = IsShort timing delay × (moment_of_call m at ≤ longest) × (m.count ≡ 2 ^ 64 - 1)
IsSubmitError m at timing delay ce.Memory = IsShort timing delay × (moment_of_call m at ≤ longest) × (m.count < 2 ^ 64 - 1) × (m.table.shut ≡ false) × AreTaken m.table.slots
IsSubmitError m at timing delay _ = ⊥

-- the same of one with this period, or fixed delay, which is legal if it is not 0
-- (ScheduledExecutorService.scheduleAtFixedRate, Java SE 17 documentation, throws IllegalArgumentException "if period less than or equal
-- to zero"; scheduleWithFixedDelay says the same of delay.)
abbrev pub IsPeriodicError : ℕ → LiveView → ℕ → Timing → ℕ → CallError → Type 0
IsPeriodicError span m at timing delay ce.Illegal = span ≡ 0
IsPeriodicError span m at timing delay error = (0 < span) × IsSubmitError m at timing delay error
