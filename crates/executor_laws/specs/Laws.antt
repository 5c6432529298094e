-- What holds of each history that means some calls.
-- Where a definition names a class, its source is the Java SE 17 documentation of that class.
-- Where it names no source, it is this project's rule.
use Rattle.std.specs.Prelude.{◌≡◌, ℕ, ◌+◌, ◌*◌, ◌<◌, ◌≤◌, true, List, ◌∷◌, ◌++◌, ◌⊎◌, Some, slice_get}
use Rattle.std.specs.List.{list_any}
use Rattle.sched_time.specs.declared.timing.Timing.TheVariants as t
use Rattle.queue_code.specs.declared.call.CodeCall.TheVariants as c
use Rattle.executor_model.specs.declared.types.Outcome.TheVariants as o
use Rattle.executor_model.specs.declared.types.Event.{Event}
use Rattle.executor_model.specs.declared.types.Happening.{Happening}
use Rattle.executor_model.specs.declared.types.Answer.TheVariants as a
use Rattle.queue_code.specs.Calls.{Planned, IsOrderly, task_count}
use Rattle.executor_model.specs.View.{is_enabled, precedes}
use Rattle.executor_model.specs.Histories.{HistoryEntry, IsHistoryOf, starts, MayCome, happenings, is_cancel, cancels, is_finish, view_of_history, due_of, now_of, answer}
use Rattle.executor_model.specs.State.{after, view_of_state}
use Rattle.executor_model.specs.Flows.{flow, history_of}
use Rattle.executor_laws.specs.Positions.{FinishedLast}

-- a start stands in the history, and this is what it says
pub record Starts (calls : List Planned) (workers : ℕ) (past : List HistoryEntry) (e : HistoryEntry) (w k n d : ℕ) : Type 0 where
  pub later : List HistoryEntry
  pub means : IsHistoryOf calls workers (later ++ e ∷ past)
  pub start : e.answer ≡ a.Start w k n d

-- no start stands at a moment below its due moment
-- (ScheduledThreadPoolExecutor: "Delayed tasks execute no sooner than they are enabled")
abbrev pub NoStartIsEarly : Type 0
NoStartIsEarly = (calls : List Planned) (workers : ℕ) (past : List HistoryEntry) (e : HistoryEntry) (w k n d : ℕ)
    → Starts calls workers past e w k n d → d ≤ now_of calls (happenings (e ∷ past))

-- where a task starts, each other one of the plan that is enabled comes after it
-- (this project's rule; at the same due moment as in ScheduledThreadPoolExecutor: "in first-in-first-out
-- (FIFO) order of submission")
abbrev pub StartsAreInOrder : Type 0
StartsAreInOrder = (calls : List Planned) (workers : ℕ) (past : List HistoryEntry) (e : HistoryEntry) (w k n d j : ℕ)
    → Starts calls workers past e w k n d → j < task_count calls → is_enabled (view_of_history calls past) j ≡ true
    → (j ≡ k) ⊎ (precedes (view_of_history calls past) k j ≡ true)

-- of tasks that are due at the same moment the one that was submitted first starts, also where they have run before
-- (ScheduledThreadPoolExecutor: "Tasks scheduled for exactly the same execution time are enabled in
-- first-in-first-out (FIFO) order of submission."; that a periodic task keeps its place is this project's rule)
abbrev pub TiesGoBySubmission : Type 0
TiesGoBySubmission = (calls : List Planned) (workers : ℕ) (past : List HistoryEntry) (e : HistoryEntry) (w k n d j : ℕ)
    → Starts calls workers past e w k n d → j < task_count calls → is_enabled (view_of_history calls past) j ≡ true → due_of calls past j ≡ d → k ≤ j

-- the run n of a task at a fixed rate is due at its submission plus its initial delay plus n periods
-- (ScheduledExecutorService.scheduleAtFixedRate: "executions will commence after initialDelay, then
-- initialDelay + period, then initialDelay + 2 * period, and so on")
abbrev pub RateRunsAreDue : Type 0
RateRunsAreDue = (calls : List Planned) (workers : ℕ) (past : List HistoryEntry) (e : HistoryEntry) (w k n d place moment initial period : ℕ) → IsOrderly calls
    → slice_get calls place ≡ Some (moment, c.Submit k (t.Rate period) initial) → Starts calls workers past e w k n d
    → d ≡ moment + initial + n * period

-- the first run of a task with a fixed delay is due at its submission plus its initial delay, and each other one
-- a delay after the last finish before it
-- (ScheduledExecutorService.scheduleWithFixedDelay: "becomes enabled first after the given initial delay, and
-- subsequently with the given delay between the termination of one execution and the commencement of the next")
abbrev pub FixedRunsAreDue : Type 0
FixedRunsAreDue = (calls : List Planned) (workers : ℕ) (past : List HistoryEntry) (e : HistoryEntry) (w k n d place moment initial delay : ℕ) → IsOrderly calls
    → slice_get calls place ≡ Some (moment, c.Submit k (t.Fixed delay) initial) → Starts calls workers past e w k n d
    → (n ≡ 0 → d ≡ moment + initial) × (0 < n → (finished : ℕ) × FinishedLast calls past k finished × (d ≡ finished + delay))

-- the run after a finish is due when its answer says
abbrev pub AgainIsDue : Type 0
AgainIsDue = (calls : List Planned) (workers : ℕ) (past : List HistoryEntry) (e : HistoryEntry) (w k n d : ℕ) → IsHistoryOf calls workers (e ∷ past)
    → e.answer ≡ a.Finish w k n (o.Again d) → d ≡ due_of calls (e ∷ past) k

-- between two starts of a task stands its finish
-- (ScheduledThreadPoolExecutor: "Successive executions of a periodic task scheduled via scheduleAtFixedRate or
-- scheduleWithFixedDelay do not overlap.")
abbrev pub RunsDoNotOverlap : Type 0
RunsDoNotOverlap = (calls : List Planned) (workers : ℕ) (past between : List HistoryEntry) (first second : HistoryEntry) (v w k m n d f : ℕ)
    → Starts calls workers (between ++ first ∷ past) second w k n d → first.answer ≡ a.Start v k m f
    → list_any (λ e. is_finish k e.answer) between ≡ true

-- after a run that failed nothing of its task starts
-- (ScheduledExecutorService.scheduleAtFixedRate and scheduleWithFixedDelay: "An execution of the task throws an
-- exception. [..] Subsequent executions are suppressed.")
abbrev pub NothingStartsAfterAFailure : Type 0
NothingStartsAfterAFailure = (calls : List Planned) (workers : ℕ) (past between : List HistoryEntry) (finish start : HistoryEntry) (v w k m n d code : ℕ)
    → Starts calls workers (between ++ finish ∷ past) start w k n d → finish.answer ≡ a.Finish v k m (o.Failed code) → ⊥

-- after a task is cancelled, by a cancel with an effect, by a sweep or at the end of its run, nothing of it starts
-- (this project's rule)
abbrev pub NothingStartsAfterACancel : Type 0
NothingStartsAfterACancel = (calls : List Planned) (workers : ℕ) (past between : List HistoryEntry) (cancel start : HistoryEntry) (w k n d : ℕ)
    → Starts calls workers (between ++ cancel ∷ past) start w k n d → cancels k cancel.answer cancel.ends ≡ true → ⊥

-- at most one cancel of a task has an effect (this project's rule)
abbrev pub CancelsHaveOneEffect : Type 0
CancelsHaveOneEffect = (calls : List Planned) (workers : ℕ) (past between : List HistoryEntry) (first second : HistoryEntry) (k : ℕ)
    → IsHistoryOf calls workers (second ∷ between ++ first ∷ past) → is_cancel k first.answer ≡ true → is_cancel k second.answer ≡ true → ⊥

-- a task whose one run ended with a value does not start again
-- (ScheduledExecutorService.schedule: "a value-returning one-shot task")
abbrev pub NothingStartsOnceDone : Type 0
NothingStartsOnceDone = (calls : List Planned) (workers : ℕ) (past between : List HistoryEntry) (finish start : HistoryEntry) (v w k m n d value : ℕ)
    → Starts calls workers (between ++ finish ∷ past) start w k n d → finish.answer ≡ a.Finish v k m (o.Done value) → ⊥

-- a one-shot task has run 0 alone, which is due at its submission plus its delay
-- (ScheduledExecutorService.schedule: "a value-returning one-shot task that becomes enabled after the given delay")
abbrev pub OneShotsRunOnce : Type 0
OneShotsRunOnce = (calls : List Planned) (workers : ℕ) (past : List HistoryEntry) (e : HistoryEntry) (w k n d place moment delay : ℕ) → IsOrderly calls
    → slice_get calls place ≡ Some (moment, c.Submit k t.Once delay) → Starts calls workers past e w k n d
    → (n ≡ 0) × (d ≡ moment + delay)

-- a one-shot task does not start a second time
-- (ScheduledExecutorService.schedule: "a value-returning one-shot task")
abbrev pub OneShotsStartOnce : Type 0
OneShotsStartOnce = (calls : List Planned) (workers : ℕ) (past between : List HistoryEntry) (first second : HistoryEntry) (v w k m n d f place moment delay : ℕ) → IsOrderly calls
    → slice_get calls place ≡ Some (moment, c.Submit k t.Once delay) → Starts calls workers (between ++ first ∷ past) second w k n d
    → first.answer ≡ a.Start v k m f → ⊥

-- the runs of a task are numbered by its starts (this project's rule)
abbrev pub RunsAreNumbered : Type 0
RunsAreNumbered = (calls : List Planned) (workers : ℕ) (past : List HistoryEntry) (e : HistoryEntry) (w k n d : ℕ) → Starts calls workers past e w k n d → n ≡ starts k past

-- a task whose submission is illegal does not start
-- (that a period or a fixed delay of zero or less is illegal: ScheduledExecutorService.scheduleAtFixedRate and
-- scheduleWithFixedDelay, "IllegalArgumentException")
abbrev pub IllegalTasksDoNotStart : Type 0
IllegalTasksDoNotStart = (calls : List Planned) (workers : ℕ) (past : List HistoryEntry) (e : HistoryEntry) (w k n d place moment : ℕ) → IsOrderly calls
    → slice_get calls place ≡ Some (moment, c.Illegal k) → Starts calls workers past e w k n d → ⊥

-- each position: the answer is the one that the history before it has
abbrev pub AnswersByPosition : Type 0
AnswersByPosition = (calls : List Planned) (workers : ℕ) (later past : List HistoryEntry) (e : HistoryEntry) → IsHistoryOf calls workers (later ++ e ∷ past)
    → (e.answer ≡ (answer calls workers past e.happening).answer) × (e.ends ≡ (answer calls workers past e.happening).ends)

-- the happenings of some events have just one history that means the calls
abbrev pub OneHistory : Type 0
OneHistory = (calls : List Planned) (workers : ℕ) (events : List Event) → IsOrderly calls
    → IsHistoryOf calls workers (history_of calls workers events) × (happenings (history_of calls workers events) ≡ flow calls events)
    × ((past : List HistoryEntry) → IsHistoryOf calls workers past → happenings past ≡ flow calls events → past ≡ history_of calls workers events)

-- some happenings of which each may come where it stands have a history that means the calls
abbrev pub FlowsAreAnswered : Type 0
FlowsAreAnswered = (calls : List Planned) (workers : ℕ) (happened : List Happening)
    → ((later past : List Happening) (happening : Happening) → happened ≡ later ++ happening ∷ past → MayCome calls past happening)
    → (past : List HistoryEntry) × (happenings past ≡ happened) × IsHistoryOf calls workers past

-- some happenings, in whatever order they came, have at most one history that means the calls
abbrev pub HistoriesAreOne : Type 0
HistoriesAreOne = (calls : List Planned) (workers : ℕ) (past other : List HistoryEntry) → IsHistoryOf calls workers past → IsHistoryOf calls workers other
    → happenings past ≡ happenings other → past ≡ other

-- a state answers as the history that led to it
abbrev pub StatesAnswer : Type 0
StatesAnswer = (calls : List Planned) (workers : ℕ) (past : List HistoryEntry) → IsHistoryOf calls workers past
    → view_of_state calls (after calls workers (happenings past)) ≡ view_of_history calls past
