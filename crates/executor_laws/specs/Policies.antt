-- What holds of policies, the shutdown, sweeps and kept tasks in each history.
-- Where a definition names a class, its source is the Java SE 17 documentation of that class.
-- Where it names no source, it is this project's rule.
use Rattle.std.specs.Prelude.{◌≡◌, ℕ, ◌+◌, ◌<◌, ◌≤◌, ◌&&◌, ◌||◌, ◌↔◌, Bool, true, false, List, [], ◌∷◌, ◌++◌, Some, slice_get, nat_lt}
use Rattle.std.specs.List.{list_any}
use Rattle.sched_time.specs.declared.policies.Which.{Which}
use Rattle.sched_time.specs.declared.policies.Which.TheVariants as p
use Rattle.queue_code.specs.declared.call.CodeCall.{CodeCall}
use Rattle.queue_code.specs.declared.call.CodeCall.TheVariants as c
use Rattle.sched_time.specs.declared.policies.Policies.{Policies}
use Rattle.executor_model.specs.declared.types.Refusal.{Refusal}
use Rattle.executor_model.specs.declared.types.Answer.{Answer}
use Rattle.executor_model.specs.declared.types.Answer.TheVariants as a
use Rattle.queue_code.specs.Calls.{Planned, IsOrderly, task_count}
use Rattle.executor_model.specs.View.{View, is_waiting, is_running}
use Rattle.executor_model.specs.Answers.{is_swept, is_queued, swept}
use Rattle.sched_time.specs.Policies.{default_policies}
use Rattle.executor_model.specs.Histories.{HistoryEntry, IsHistoryOf, happenings, made, now_of, starts, due_of, is_submit, is_cancel, is_end, is_finish_with, is_ended, cancels, is_sweep, meets, is_kept, policies_of, was_shut, was_stopped, view_of_history}
use Rattle.executor_laws.specs.Laws.{Starts}

-- after a task is ended, by a line of its own or at the end of its run, nothing of it starts
-- (this project's rule)
abbrev pub NothingStartsAfterAnEnd : Type 0
NothingStartsAfterAnEnd = (calls : List Planned) (workers : ℕ) (past between : List HistoryEntry) (end start : HistoryEntry) (w k n d : ℕ)
    → Starts calls workers (between ++ end ∷ past) start w k n d → (is_end k end.ends || is_finish_with is_ended k end.answer) ≡ true → ⊥

-- a task is cancelled once: by a cancel, by a sweep or at the end of its run
abbrev pub TasksAreCancelledOnce : Type 0
TasksAreCancelledOnce = (calls : List Planned) (workers : ℕ) (past between : List HistoryEntry) (first second : HistoryEntry) (k : ℕ)
    → IsHistoryOf calls workers (second ∷ between ++ first ∷ past) → cancels k first.answer first.ends ≡ true → cancels k second.answer second.ends ≡ true → ⊥

-- the policies

-- the value of one of the policies
abbrev pub value_of : Which → Policies → Bool
value_of p.Continue policies = policies.continues
value_of p.Execute policies = policies.executes
value_of p.Remove policies = policies.removes

-- two policies are one
abbrev pub is_same : Which → Which → Bool
is_same p.Continue p.Continue = true
is_same p.Execute p.Execute = true
is_same p.Remove p.Remove = true
is_same _ _ = false

-- an answer says that a policy was set
abbrev pub sets : Which → Answer → Bool
sets which (a.Policy other value) = is_same which other
sets which _ = false

-- the policy was set to this value, and not set after
pub record SetLast (past : List HistoryEntry) (which : Which) (value : Bool) : Type 0 where
  pub later : List HistoryEntry
  pub e : HistoryEntry
  pub before : List HistoryEntry
  pub parts : past ≡ later ++ e ∷ before
  pub set : e.answer ≡ a.Policy which value
  pub none : list_any (λ f. sets which f.answer) later ≡ false

-- a policy has the value that it was set to last, and its default where it was never set
abbrev pub PoliciesAreTheLastSet : Type 0
PoliciesAreTheLastSet = (past : List HistoryEntry) (which : Which)
    → ((value : Bool) → SetLast past which value → value_of which (policies_of past) ≡ value)
    × (list_any (λ f. sets which f.answer) past ≡ false → value_of which (policies_of past) ≡ value_of which default_policies)

-- the shutdowns

-- a call shuts the executor down, orderly or at once
abbrev pub shuts_down : CodeCall → Bool
shuts_down c.Shutdown = true
shuts_down c.ShutdownNow = true
shuts_down _ = false

-- a call shuts the executor down at once
abbrev pub stops_at_once : CodeCall → Bool
stops_at_once c.ShutdownNow = true
stops_at_once _ = false

-- a call that was made passes a test
pub record WasMade (test : CodeCall → Bool) (calls : List Planned) (past : List HistoryEntry) : Type 0 where
  pub place : ℕ
  pub moment : ℕ
  pub call : CodeCall
  pub there : slice_get calls place ≡ Some (moment, call)
  pub passes : test call ≡ true
  pub before : place < made (happenings past)

-- a call that was made is a shutdown, orderly or at once
abbrev pub ShutdownWasMade : List Planned → List HistoryEntry → Type 0
ShutdownWasMade calls past = WasMade shuts_down calls past

-- the executor is shut exactly when a shutdown was made, orderly or at once, and stopped exactly when one at once was made
abbrev pub ShutIsAShutdown : Type 0
ShutIsAShutdown = (calls : List Planned) (workers : ℕ) (past : List HistoryEntry) → IsHistoryOf calls workers past
    → ((was_shut past ≡ true) ↔ ShutdownWasMade calls past) × ((was_stopped past ≡ true) ↔ WasMade stops_at_once calls past)

-- no task is accepted once the executor is shut
-- (ExecutorService: "An ExecutorService can be shut down, which will cause it to reject new tasks.")
abbrev pub NothingIsAcceptedOnceShut : Type 0
NothingIsAcceptedOnceShut = (calls : List Planned) (workers : ℕ) (past : List HistoryEntry) (e : HistoryEntry) (k : ℕ) → IsHistoryOf calls workers (e ∷ past) → was_shut past ≡ true → is_submit k e.answer ≡ true → ⊥

-- a task that is refused does not start, neither before nor after
-- (ScheduledExecutorService.scheduleAtFixedRate: "RejectedExecutionException - if the task cannot be scheduled for
-- execution", "IllegalArgumentException - if period less than or equal to zero")
abbrev pub RefusedTasksDoNotStart : Type 0
RefusedTasksDoNotStart = (calls : List Planned) (workers : ℕ) (later past : List HistoryEntry) (e : HistoryEntry) (k : ℕ) (why : Refusal) → IsOrderly calls
    → IsHistoryOf calls workers (later ++ e ∷ past) → e.answer ≡ a.Refuse k why → starts k (later ++ e ∷ past) ≡ 0

-- after an answer that says that the executor is terminated nothing starts
-- (this project's rule)
abbrev pub NothingStartsOnceTerminated : Type 0
NothingStartsOnceTerminated = (calls : List Planned) (workers : ℕ) (past between : List HistoryEntry) (asked start : HistoryEntry) (w k n d queue running : ℕ) (shut : Bool) → IsOrderly calls
    → Starts calls workers (between ++ asked ∷ past) start w k n d → asked.answer ≡ a.Ask queue running shut true → ⊥

-- once the executor is stopped no task waits
-- (ExecutorService.shutdownNow: "halts the processing of waiting tasks"; that a periodic task which runs then does not wait
-- again: this project's rule)
abbrev pub NothingWaitsOnceStopped : Type 0
NothingWaitsOnceStopped = (calls : List Planned) (workers : ℕ) (past : List HistoryEntry) (k : ℕ) → IsOrderly calls → IsHistoryOf calls workers past → was_stopped past ≡ true → is_waiting ((view_of_history calls past).fate k) ≡ false

-- after a shutdown at once nothing starts
-- (ExecutorService.shutdownNow: "halts the processing of waiting tasks"; of a task that runs then: this project's rule)
abbrev pub NothingStartsAfterAStop : Type 0
NothingStartsAfterAStop = (calls : List Planned) (workers : ℕ) (past between : List HistoryEntry) (stop start : HistoryEntry) (w k n d : ℕ) → IsOrderly calls
    → Starts calls workers (between ++ stop ∷ past) start w k n d → stop.answer ≡ a.ShutdownNow → ⊥

-- a task that stands in the queue, as it waits or is kept, is one of the plan, and so is one that a run of is under way:
-- an ask counts each of them
abbrev pub QueuedAndRunningAreTasks : Type 0
QueuedAndRunningAreTasks = (calls : List Planned) (workers : ℕ) (past : List HistoryEntry) (k : ℕ) → IsOrderly calls → IsHistoryOf calls workers past
    → (is_queued ((view_of_history calls past).fate k) ≡ true → k < task_count calls) × (is_running ((view_of_history calls past).fate k) ≡ true → k < task_count calls)

-- sweeps

-- the numbers ascend, and none is below `low`
abbrev pub AscendsFrom : ℕ → List ℕ → Type 0
AscendsFrom low [] = Unit {0}
AscendsFrom low (k ∷ ks) = (low ≤ k) × AscendsFrom (k + 1) ks

-- a sweep ends, in ascending number, exactly the tasks of the plan that wait and that the policies say, or all that wait where
-- the executor is stopped
abbrev pub SweptAreThose : Type 0
SweptAreThose = (calls : List Planned) (v : View) (policies : Policies)
    → AscendsFrom 0 (swept calls v policies) × ((k : ℕ) → is_end k (swept calls v policies) ≡ (nat_lt k (task_count calls) && is_swept calls v policies k))

-- an answer that sweeps ends the tasks that a sweep ends as all stands after it: the policies, the moment, and whether the
-- executor is stopped; any other answer ends none
abbrev pub SweepsEndThose : Type 0
SweepsEndThose = (calls : List Planned) (workers : ℕ) (past : List HistoryEntry) (e : HistoryEntry) → IsHistoryOf calls workers (e ∷ past)
    → (is_sweep (was_shut past) e.answer ≡ true → e.ends ≡ swept calls (record (view_of_history calls past) { moment = now_of calls (happenings (e ∷ past)); stopped = was_stopped (e ∷ past) }) (policies_of (e ∷ past)))
    × (is_sweep (was_shut past) e.answer ≡ false → e.ends ≡ [])

-- kept tasks

-- task k was cancelled while it waited and the remove policy was false, and since then there was no sweep, and no purge or start
-- that meets it at the due moment that it had
pub record KeptSince (calls : List Planned) (past : List HistoryEntry) (k : ℕ) : Type 0 where
  pub later : List HistoryEntry
  pub cancel : HistoryEntry
  pub before : List HistoryEntry
  pub parts : past ≡ later ++ cancel ∷ before
  pub effective : is_cancel k cancel.answer ≡ true
  pub waited : is_waiting ((view_of_history calls before).fate k) ≡ true
  pub stays : (policies_of before).removes ≡ false
  pub rests : (after : List HistoryEntry) (e : HistoryEntry) (between : List HistoryEntry) → later ≡ after ++ e ∷ between
      → (is_sweep (was_shut (between ++ cancel ∷ before)) e.answer ≡ false)
      × (meets (view_of_history calls (between ++ cancel ∷ before)) (due_of calls before k) k e.answer ≡ false)

-- a task is kept exactly when it was cancelled so and has not left since
abbrev pub KeptByPositions : Type 0
KeptByPositions = (calls : List Planned) (workers : ℕ) (past : List HistoryEntry) (k : ℕ) → IsHistoryOf calls workers past → ((is_kept calls past k ≡ true) ↔ KeptSince calls past k)
