-- What the definitions by recursion say of the positions in a history.
-- All of it is this project's rule.
use Rattle.std.specs.Prelude.{◌≡◌, ℕ, ◌+◌, ◌<◌, ◌≤◌, ◌==◌, Bool, true, false, List, ◌∷◌, ◌++◌, ◌⊎◌, ◌↔◌, not, length, map, take, replicate, Option, Some, None, slice_get}
use Rattle.std.specs.List.{list_any, filter}
use Rattle.sched_time.specs.Times.{longest}
use Rattle.sched_time.specs.declared.timing.Timing.{Timing}
use Rattle.queue_code.specs.declared.call.CodeCall.{CodeCall}
use Rattle.queue_code.specs.declared.call.CodeCall.TheVariants as c
use Rattle.executor_model.specs.declared.types.Event.{Event}
use Rattle.executor_model.specs.declared.types.Event.TheVariants as v
use Rattle.executor_model.specs.declared.types.Happening.{Happening}
use Rattle.executor_model.specs.declared.types.Happening.TheVariants as h
use Rattle.executor_model.specs.declared.types.Answer.{Answer}
use Rattle.executor_model.specs.declared.types.Answer.TheVariants as a
use Rattle.queue_code.specs.Calls.{Planned, how_many, numbers, task_count, IsOrderly, terms_of}
use Rattle.executor_model.specs.View.{View, is_waiting, is_enabled, precedes, first_enabled}
use Rattle.executor_model.specs.Histories.{HistoryEntry, IsHistoryOf, MayCome, happenings, is_call, is_finish, last_finish, view_of_history, made, now_of, work_of}
use Rattle.executor_model.specs.Within.{latest_due}
use Rattle.executor_model.specs.Flows.{reached, flow, happening_of}

-- ---- the work of a worker

-- an answer says that worker w was given a task to run
abbrev pub starts_by : ℕ → Answer → Bool
starts_by w (a.Start worker task run due) = worker == w
starts_by w _ = false

-- an answer says that worker w finished its task
abbrev pub finishes_by : ℕ → Answer → Bool
finishes_by w (a.Finish worker task run outcome) = worker == w
finishes_by w _ = false

-- a start of a task by a worker stands in the history, and no finish by the worker after it
pub record StartedLast (past : List HistoryEntry) (w k : ℕ) : Type 0 where
  pub later : List HistoryEntry
  pub e : HistoryEntry
  pub before : List HistoryEntry
  pub parts : past ≡ later ++ e ∷ before
  pub run : ℕ
  pub due : ℕ
  pub start : e.answer ≡ a.Start w k run due
  pub unfinished : list_any (λ f. finishes_by w f.answer) later ≡ false

-- the work of a worker is the task of its last start, where no finish came after it; where a start has no finish after it,
-- its task is the work
abbrev pub WorkIsTheLastStart : Type 0
WorkIsTheLastStart = (calls : List Planned) (workers : ℕ) (past : List HistoryEntry) (w k : ℕ) → IsHistoryOf calls workers past
    → (work_of w past ≡ Some k → (start : StartedLast past w k) × (list_any (λ e. starts_by w e.answer) start.later ≡ false))
    × (StartedLast past w k → work_of w past ≡ Some k)

-- one while it works
abbrev pub busy : Option ℕ → ℕ
busy None = 0
busy (Some k) = 1

-- a worker that works has started once more than it finished, and any other one as often
abbrev pub StartsExceedFinishes : Type 0
StartsExceedFinishes = (calls : List Planned) (workers : ℕ) (past : List HistoryEntry) (w : ℕ) → IsHistoryOf calls workers past
    → how_many (λ e. starts_by w e.answer) past ≡ busy (work_of w past) + how_many (λ e. finishes_by w e.answer) past

-- ---- the moment

-- an entry is a call that was made, or an accepted clock, and this is its moment
abbrev pub HasMoment : List Planned → HistoryEntry → List HistoryEntry → ℕ → Type 0
HasMoment calls e before t =
    ((e.happening ≡ h.Call) × ((p : Planned) × (slice_get calls (made (happenings before)) ≡ Some p) × (p.0 ≡ t)))
    ⊎ ((e.happening ≡ h.Clock t) × (e.answer ≡ a.Clock))

-- such an entry stands in the history
pub record Shows (calls : List Planned) (past : List HistoryEntry) (t : ℕ) : Type 0 where
  pub later : List HistoryEntry
  pub e : HistoryEntry
  pub before : List HistoryEntry
  pub parts : past ≡ later ++ e ∷ before
  pub moment : HasMoment calls e before t

-- now is the greatest moment of the calls made and the accepted clocks, and 0 before any
abbrev pub NowIsTheGreatest : Type 0
NowIsTheGreatest = (calls : List Planned) (workers : ℕ) (past : List HistoryEntry) → IsHistoryOf calls workers past
    → ((t : ℕ) → Shows calls past t → t ≤ now_of calls (happenings past))
    × ((now_of calls (happenings past) ≡ 0) ⊎ Shows calls past (now_of calls (happenings past)))

-- ---- the first enabled task

-- a task of the plan is enabled, and each other enabled one comes after it
pub record IsFirstEnabled (calls : List Planned) (v : View) (k : ℕ) : Type 0 where
  pub below : k < task_count calls
  pub enabled : is_enabled v k ≡ true
  pub least : (j : ℕ) → j < task_count calls → is_enabled v j ≡ true → (j ≡ k) ⊎ (precedes v k j ≡ true)

-- the first enabled task is the one that is enabled and precedes each other enabled task of the plan
abbrev pub FirstIsTheLeast : Type 0
FirstIsTheLeast = (calls : List Planned) (v : View) (k : ℕ)
    → (first_enabled v (numbers calls) ≡ Some k → IsFirstEnabled calls v k) × (IsFirstEnabled calls v k → first_enabled v (numbers calls) ≡ Some k)

-- there is none exactly when no task of the plan is enabled
abbrev pub NoneIsEnabled : Type 0
NoneIsEnabled = (calls : List Planned) (v : View)
    → (first_enabled v (numbers calls) ≡ None → (j : ℕ) → j < task_count calls → is_enabled v j ≡ false)
    × (((j : ℕ) → j < task_count calls → is_enabled v j ≡ false) → first_enabled v (numbers calls) ≡ None)

-- ---- the calls that a clock reaches

-- of the calls from `first` on, a clock of moment t reaches exactly those whose moment is at most t, and they
-- are a front of those calls
abbrev pub ReachedIsAFront : Type 0
ReachedIsAFront = (calls : List Planned) (first t : ℕ) → IsOrderly calls
    → ((n : ℕ) (p : Planned) → first ≤ n → slice_get calls n ≡ Some p → ((n < first + reached calls first t) ↔ (p.0 ≤ t)))
    × (first ≤ length calls → first + reached calls first t ≤ length calls)

-- ---- the submissions

-- a call is the submission of this number
abbrev pub IsSubmissionOf : ℕ → CodeCall → Type 0
IsSubmissionOf k (c.Submit task timing delay) = task ≡ k
IsSubmissionOf k (c.Illegal task) = task ≡ k
IsSubmissionOf k _ = ⊥

-- a call is the submission of task k, and no other call is; k submissions stand before it
pub record HasSubmission (calls : List Planned) (k : ℕ) : Type 0 where
  pub place : ℕ
  pub call : Planned
  pub there : slice_get calls place ≡ Some call
  pub submits : IsSubmissionOf k call.1
  pub number : k ≡ task_count (take place calls)
  pub only : (n : ℕ) (p : Planned) → slice_get calls n ≡ Some p → IsSubmissionOf k p.1 → n ≡ place

-- the tasks of a plan are those that a call submits, each by just one call
abbrev pub TasksAreSubmitted : Type 0
TasksAreSubmitted = (calls : List Planned) (k : ℕ) → IsOrderly calls
    → (k < task_count calls → HasSubmission calls k)
    × ((n : ℕ) (p : Planned) → slice_get calls n ≡ Some p → IsSubmissionOf k p.1 → k < task_count calls)

-- the terms of a task are those of its submission: its timing, and it is first due its delay after the call
abbrev pub TermsAreItsOwn : Type 0
TermsAreItsOwn = (calls : List Planned) (n moment k : ℕ) (timing : Timing) (delay : ℕ) → IsOrderly calls
    → slice_get calls n ≡ Some (moment, c.Submit k timing delay) → terms_of calls k ≡ record { timing = timing; first = moment + delay }

-- ---- the flow of events

-- a happening is an event
abbrev pub is_event : Happening → Bool
is_event happening = not (is_call happening)

-- the events of a flow are the events given, in their order
abbrev pub FlowKeepsTheEvents : Type 0
FlowKeepsTheEvents = (calls : List Planned) (events : List Event) → filter is_event (flow calls events) ≡ map happening_of events

-- the event is a clock that shows t, and after these happenings it is accepted
abbrev pub IsAcceptedClock : List Planned → List Happening → Event → ℕ → Type 0
IsAcceptedClock calls past event t = (event ≡ v.Clock t) × (now_of calls past ≤ t) × (t ≤ longest)

-- `count` calls are made between some happenings and an event: before an accepted clock those that are not
-- made yet and whose moment is at most its own, and before any other event none
pub record IsMadeBefore (calls : List Planned) (past : List Happening) (event : Event) (count : ℕ) : Type 0 where
  pub within : made past + count ≤ length calls
  pub clock : (t n : ℕ) (p : Planned) → IsAcceptedClock calls past event t → made past ≤ n → slice_get calls n ≡ Some p
      → ((n < made past + count) ↔ (p.0 ≤ t))
  pub other : ((t : ℕ) → IsAcceptedClock calls past event t → ⊥) → count ≡ 0

-- the flow of one event more is longer by the event and by the calls that are made before it, and nothing else
abbrev pub FlowMakesWhatIsReached : Type 0
FlowMakesWhatIsReached = (calls : List Planned) (before : List Event) (event : Event) → IsOrderly calls
    → (count : ℕ) × IsMadeBefore calls (flow calls before) event count
    × (flow calls (event ∷ before) ≡ happening_of event ∷ (replicate count h.Call ++ flow calls before))

-- each happening of a flow may come after those before it
abbrev pub FlowMayCome : Type 0
FlowMayCome = (calls : List Planned) (events : List Event) (later past : List Happening) (happening : Happening) → IsOrderly calls
    → flow calls events ≡ later ++ happening ∷ past → MayCome calls past happening

-- ---- the tasks that wait

-- a call that was made is the submission of task k
pub record WasSubmitted (calls : List Planned) (past : List Happening) (k : ℕ) : Type 0 where
  pub place : ℕ
  pub call : Planned
  pub there : slice_get calls place ≡ Some call
  pub submits : IsSubmissionOf k call.1
  pub before : place < made past

-- a task that waits, as an enabled one does, is one of the plan, and the call that submits it was made
abbrev pub WaitingIsATask : Type 0
WaitingIsATask = (calls : List Planned) (workers : ℕ) (past : List HistoryEntry) (k : ℕ) → IsOrderly calls → IsHistoryOf calls workers past
    → is_waiting ((view_of_history calls past).fate k) ≡ true → (k < task_count calls) × WasSubmitted calls (happenings past) k

-- a task that waits is not due later than the latest due moment
abbrev pub WaitingIsDueInTime : Type 0
WaitingIsDueInTime = (calls : List Planned) (workers : ℕ) (past : List HistoryEntry) (k : ℕ) → IsOrderly calls → IsHistoryOf calls workers past
    → is_waiting ((view_of_history calls past).fate k) ≡ true → ((view_of_history calls past).fate k).due ≤ latest_due

-- ---- the last finish of a task

-- a finish of task k stands in the history, and no finish of it after; the moment before it is t
pub record FinishedLast (calls : List Planned) (past : List HistoryEntry) (k t : ℕ) : Type 0 where
  pub later : List HistoryEntry
  pub e : HistoryEntry
  pub before : List HistoryEntry
  pub parts : past ≡ later ++ e ∷ before
  pub finish : is_finish k e.answer ≡ true
  pub none : list_any (λ f. is_finish k f.answer) later ≡ false
  pub moment : t ≡ now_of calls (happenings before)

-- the last finish is the one with no other after it, at its moment; there is none exactly when no finish stands
abbrev pub LastFinishIsTheLast : Type 0
LastFinishIsTheLast = (calls : List Planned) (past : List HistoryEntry) (k : ℕ)
    → ((t : ℕ) → ((last_finish calls k past ≡ Some t) ↔ FinishedLast calls past k t))
    × ((last_finish calls k past ≡ None) ↔ (list_any (λ e. is_finish k e.answer) past ≡ false))

-- a finish does not move now: the moment before it is its own
abbrev pub FinishKeepsNow : Type 0
FinishKeepsNow = (calls : List Planned) (workers : ℕ) (past : List HistoryEntry) (e : HistoryEntry) (k : ℕ) → IsHistoryOf calls workers (e ∷ past)
    → is_finish k e.answer ≡ true → now_of calls (happenings (e ∷ past)) ≡ now_of calls (happenings past)
