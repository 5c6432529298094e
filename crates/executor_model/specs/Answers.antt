-- The table of the answers, read on a view.
-- The order of the cases, and the answers to a wrong event, are this project's rule.
-- Where a definition names a class, its source is the Java SE 17 documentation of that class.
-- Where it names no source, it is this project's rule.
use Rattle.std.specs.Prelude.{ℕ, ◌-◌, ◌==◌, ◌&&◌, ◌||◌, not, max, nat_lt, nat_le, Bool, true, false, if◌then◌else◌, List, [], Option, Some, None, slice_get}
use Rattle.std.specs.Option.{option_map_or}
use Rattle.std.specs.List.{filter}
use Rattle.sched_time.specs.Times.{longest}
use Rattle.sched_time.specs.Policies.{set_policy}
use Rattle.sched_time.specs.declared.timing.Timing.{Timing}
use Rattle.sched_time.specs.declared.timing.Timing.TheVariants as t
use Rattle.sched_time.specs.declared.policies.Which.{Which}
use Rattle.sched_time.specs.declared.policies.Which.TheVariants as p
use Rattle.sched_time.specs.declared.timing.Ending.{Ending}
use Rattle.sched_time.specs.declared.timing.Ending.TheVariants as e
use Rattle.queue_code.specs.declared.call.CodeCall.{CodeCall}
use Rattle.queue_code.specs.declared.call.CodeCall.TheVariants as c
use Rattle.sched_time.specs.declared.policies.Policies.{Policies}
use Rattle.executor_model.specs.declared.types.Happening.{Happening}
use Rattle.executor_model.specs.declared.types.Happening.TheVariants as h
use Rattle.executor_model.specs.declared.types.Kind.{Kind}
use Rattle.executor_model.specs.declared.types.Kind.TheVariants as kind
use Rattle.executor_model.specs.declared.types.Refusal.TheVariants as refusal
use Rattle.executor_model.specs.declared.types.EventError.TheVariants as x
use Rattle.executor_model.specs.declared.types.CancelEffect.{CancelEffect}
use Rattle.executor_model.specs.declared.types.CancelEffect.TheVariants as f
use Rattle.executor_model.specs.declared.types.Outcome.{Outcome}
use Rattle.executor_model.specs.declared.types.Outcome.TheVariants as o
use Rattle.executor_model.specs.declared.types.Answer.{Answer}
use Rattle.executor_model.specs.declared.types.Answer.TheVariants as a
use Rattle.queue_code.specs.Calls.{Planned, how_many, terms_of, due_at, numbers, task_count}
use Rattle.executor_model.specs.View.{Fate, View, is_waiting, is_running, is_cancellable, first_enabled}

-- an answer, and the tasks that it ends, ascending
pub record Reply : Type 0 where
  pub answer : Answer
  pub ends : List ℕ

-- an answer that ends no task
abbrev pub bare : Answer → Reply
bare answer = record { answer = answer; ends = [] }

-- the kind of task that a submission's answer names, by how the task is timed
-- (ScheduledExecutorService: schedule, scheduleAtFixedRate, scheduleWithFixedDelay)
abbrev pub kind_of : Timing → Kind
kind_of t.Once = kind.Schedule
kind_of (t.Rate period) = kind.Rate
kind_of (t.Fixed delay) = kind.Fixed

-- what a cancel does to a task of which this is known: nothing where its submission was not accepted, and
-- nothing where it is over; else it is cancelled, whether it waits or is run
abbrev pub effect_on : Fate → CancelEffect
effect_on fate = if fate.accepted then (if is_cancellable fate then f.Yes else f.No) else f.Absent

-- a sweep

-- the policy is that on removal at a cancel
abbrev pub is_remove : Which → Bool
is_remove p.Remove = true
is_remove _ = false

-- setting a policy sweeps where the executor is shut and the continue or the execute policy is set to false, also
-- where it was false before
abbrev pub setting_sweeps : Bool → Which → Bool → Bool
setting_sweeps shut which value = shut && (not value && not (is_remove which))

-- these policies bar the runs of a waiting task of this timing, which is due at `due`, at the moment `now`: of one that
-- is periodic where periodic tasks do not continue, and of a one-shot one that is not due yet where delayed tasks are not
-- executed
abbrev pub bars_runs : Policies → ℕ → Timing → ℕ → Bool
bars_runs policies now t.Once due = not policies.executes && nat_lt now due
bars_runs policies now (t.Rate period) due = not policies.continues
bars_runs policies now (t.Fixed delay) due = not policies.continues

-- a sweep under these policies ends a waiting task of this timing, which is due at `due`, at the moment `now`: whatever
-- it is where the executor is stopped, and else one whose runs the policies bar
-- (ExecutorService.shutdownNow: "halts the processing of waiting tasks"; all else: this project's rule. Where the executor
-- was stopped before the sweep none waits, as the law `nothing_waits_once_stopped` says of calls that are in order)
abbrev pub is_ended_by : Bool → Policies → ℕ → Timing → ℕ → Bool
is_ended_by stopped policies now timing due = stopped || bars_runs policies now timing due

-- a sweep under these policies ends task k
abbrev pub is_swept : List Planned → View → Policies → ℕ → Bool
is_swept calls v policies k = is_waiting (v.fate k) && is_ended_by v.stopped policies v.moment (terms_of calls k).timing (v.fate k).due

-- the tasks that a sweep under these policies ends, ascending
abbrev pub swept : List Planned → View → Policies → List ℕ
swept calls v policies = filter (is_swept calls v policies) (numbers calls)

-- what is counted for an ask

-- a task stands in the queue: it waits, or is kept
abbrev pub is_queued : Fate → Bool
is_queued fate = is_waiting fate || fate.kept

-- how many tasks stand in the queue
abbrev pub queue_size : List Planned → View → ℕ
queue_size calls v = how_many (λ k. is_queued (v.fate k)) (numbers calls)

-- how many tasks have a run under way
abbrev pub running_count : List Planned → View → ℕ
running_count calls v = how_many (λ k. is_running (v.fate k)) (numbers calls)

-- the executor is shut, and nothing is queued or run (this project's rule, as in ExecutorService.isTerminated:
-- "Returns true if all tasks have completed following shut down.")
abbrev pub is_terminated : Bool → ℕ → ℕ → Bool
is_terminated shut queue running = shut && ((queue == 0) && (running == 0))

-- the answer to a call, in a view whose moment is the call's
-- (a period or a fixed delay that is zero or negative: ScheduledExecutorService.scheduleAtFixedRate and
-- scheduleWithFixedDelay, "IllegalArgumentException"; a submission where the executor is shut:
-- ScheduledExecutorService.schedule, "RejectedExecutionException"; that the first is tested before: this project's
-- rule; ExecutorService.shutdown: "no new tasks will be accepted. Invocation has no additional effect if already
-- shut down."; ExecutorService.shutdownNow: "halts the processing of waiting tasks")
abbrev pub called : List Planned → View → CodeCall → Reply
called calls v (c.Submit task timing delay) =
    bare (if v.shut then a.Refuse task refusal.Rejected else a.Submit task (kind_of timing) (due_at (terms_of calls task) 0 None))
called calls v (c.Illegal task) = bare (a.Refuse task refusal.Illegal)
called calls v (c.Cancel task) = bare (a.Cancel task (effect_on (v.fate task)))
called calls v (c.SetPolicy which value) =
    record { answer = a.Policy which value; ends = if setting_sweeps v.shut which value then swept calls v (set_policy which value v.policies) else [] }
called calls v c.Shutdown = if v.shut then bare a.ShutdownAgain else record { answer = a.Shutdown; ends = swept calls v v.policies }
called calls v c.ShutdownNow = record { answer = a.ShutdownNow; ends = swept calls (record v { stopped = true }) v.policies }
called calls v c.Ask =
    bare (a.Ask (queue_size calls v) (running_count calls v) v.shut (is_terminated v.shut (queue_size calls v) (running_count calls v)))

-- the answer to a worker without work that asks for a task: the first enabled one, or idle where none is
abbrev pub start_answer : View → ℕ → Option ℕ → Answer
start_answer v w None = a.Idle w
start_answer v w (Some k) = a.Start w k (v.fate k).starts (v.fate k).due

-- what comes after a run of a periodic task, where the run after it would be due at some moment: the task waits
-- for it, or ends where periodic tasks do not go on
-- (this project's rule, as ScheduledThreadPoolExecutor.setContinueExistingPeriodicTasksAfterShutdownPolicy has such a
-- policy)
abbrev pub next_run : Bool → ℕ → Outcome
next_run stops due = if stops then o.Ended else o.Again due

-- the outcome of a run that ended with a value, where the run after it would be due at some moment, and periodic
-- tasks maybe do not go on: the one run of a one-shot task is its last
-- (ScheduledExecutorService.schedule: "a value-returning one-shot task"; scheduleAtFixedRate and
-- scheduleWithFixedDelay: "The sequence of task executions continues indefinitely until one of the following
-- exceptional completions occur")
abbrev pub outcome_of_value : Bool → Timing → ℕ → ℕ → Outcome
outcome_of_value stops t.Once due value = o.Done value
outcome_of_value stops (t.Rate period) due value = next_run stops due
outcome_of_value stops (t.Fixed delay) due value = next_run stops due

-- the outcome of a run, by how its task is timed, when the run after it would be due, and how the run ended:
-- a failure is the end of each task
-- (ScheduledExecutorService.scheduleAtFixedRate and scheduleWithFixedDelay: "An execution of the task throws an
-- exception. [..] Subsequent executions are suppressed."; of a one-shot task: this project's rule)
abbrev pub outcome_of : Bool → Timing → ℕ → Ending → Outcome
outcome_of stops timing due (e.Value value) = outcome_of_value stops timing due value
outcome_of stops timing due (e.Fault code) = o.Failed code

-- the outcome of a run whose task was maybe cancelled: then it is dropped, whatever the run gave
abbrev pub outcome_in : Bool → Bool → Timing → ℕ → Ending → Outcome
outcome_in cancelled stops timing due ending = if cancelled then o.Dropped else outcome_of stops timing due ending

-- periodic tasks do not go on: the executor is stopped, or it is shut and its policy says so
abbrev pub stops_periodic : Bool → Bool → Policies → Bool
stops_periodic shut stopped policies = stopped || (shut && not policies.continues)

-- the due moment of the run of task k that would come after a finish at the view's moment
abbrev pub due_next : List Planned → View → ℕ → ℕ
due_next calls v k = due_at (terms_of calls k) (v.fate k).starts (Some v.moment)

-- the answer to a worker that finishes: an error where it has no work, and else the run that it started
-- last, with its outcome
abbrev pub finish_answer : List Planned → View → ℕ → Ending → Option ℕ → Answer
finish_answer calls v w ending None = a.Error x.NotRunning
finish_answer calls v w ending (Some k) = a.Finish w k ((v.fate k).starts - 1) (outcome_in (v.fate k).cancelled (stops_periodic v.shut v.stopped v.policies) (terms_of calls k).timing (due_next calls v k) ending)

-- a clock is accepted where it does not go back and is within the limit
abbrev pub is_accepted : ℕ → ℕ → Bool
is_accepted now moment = nat_le now moment && nat_le moment longest

-- the moment after a happening, given the next call: the greatest of the accepted clocks and the calls made
abbrev pub moment_after : ℕ → Option Planned → Happening → ℕ
moment_after now call h.Call = option_map_or (λ p. max now p.0) call now
moment_after now call (h.Clock moment) = if is_accepted now moment then moment else now
moment_after now call _ = now

-- the answer to a happening; a call past the last one never comes, and a purge is answered so in each view
abbrev pub reply : List Planned → ℕ → View → Happening → Reply
reply calls workers v h.Call =
    option_map_or (λ p. called calls (record v { moment = max v.moment p.0 }) p.1) (slice_get calls v.made) (bare a.Clock)
reply calls workers v (h.Clock moment) =
    bare (if nat_lt moment v.moment then a.Error x.Backward else (if nat_lt longest moment then a.Error x.TooFar else a.Clock))
reply calls workers v (h.Start w) =
    bare (if nat_lt w workers then option_map_or (λ _. a.Error x.Busy) (v.work w) (start_answer v w (first_enabled v (numbers calls))) else a.Error x.NoWorker)
reply calls workers v (h.Finish w ending) =
    bare (if nat_lt w workers then finish_answer calls v w ending (v.work w) else a.Error x.NoWorker)
reply calls workers v (h.Cancel k) =
    bare (if nat_lt k (task_count calls) then a.Outside k (effect_on (v.fate k)) else a.Error x.NoTask)
reply calls workers v h.Purge = bare a.Purge
