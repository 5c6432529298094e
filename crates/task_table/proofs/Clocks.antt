-- The steps of a clock, and of the events that are answered by an error.
use Rattle.std.proofs.Common.{◌≡◌, ℕ, ◌<◌, ◌≤◌, nat_lt, nat_le, Bool, true, false, cond, List, Option, Some, refl, sym, ap, ◌∙◌, arith, subst}
use Rattle.std.specs.Prelude.{None, slice_index_or}
use Rattle.std.specs.Option.{option_map_or}
use Rattle.std.proofs.lemmas.Bool.{and_parts, leb-true, le-ltb, lt-ltb}
use Rattle.std.proofs.lemmas.Bool.Decides.{nat_tests}
use Rattle.sched_time.specs.Times.{longest}
use Rattle.executor_model.specs.declared.types.Happening.{Happening}
use Rattle.executor_model.specs.declared.types.Happening.TheVariants as h
use Rattle.executor_model.specs.declared.types.EventError.{EventError}
use Rattle.executor_model.specs.declared.types.EventError.TheVariants as x
use Rattle.executor_model.specs.declared.types.Answer.TheVariants as a
use Rattle.queue_code.specs.Calls.{Planned, numbers}
use Rattle.executor_model.specs.View.{first_enabled}
use Rattle.executor_model.specs.Answers.{Reply, bare, is_accepted, start_answer}
use Rattle.executor_model.specs.Histories.{happenings}
use Rattle.executor_model.specs.State.{State, after, reply_of, state_after, view_of_state}
use Rattle.executor_model.proofs.Errors.{errors_change_nothing}
use Rattle.executor_model.proofs.Keeping.{kept_stays}
use Rattle.task_table.specs.Tables.{TableView, workers_of, WorkIs, Shows, EventSteps}
use Rattle.task_table.specs.Changes.{at_moment}
use Rattle.task_table.specs.Runs.{IsStartError}
use Rattle.task_table.proofs.FormedWork.{option_within}
use Rattle.task_table.proofs.Standing.{takes}

-- an event that is answered by an error leaves the table as it is
pub refuses : (m : TableView) (y : Happening) (error : EventError) → ((calls : List Planned) (s : State) → Shows m s → reply_of calls (workers_of m) s y ≡ bare (a.Error error)) → EventSteps m m y (bare (a.Error error))
refuses m y error says calls past stands =
    let s = after calls (workers_of m) (happenings past) in
    let said = says calls s stands.shows in
    let still : state_after calls s y (bare (a.Error error)) ≡ s =
    sym (ap (state_after calls s y) said) ∙ errors_change_nothing calls (workers_of m) s y error (ap (λ (r : Reply). r.answer) said)
    in
    takes m m calls past y (bare (a.Error error)) stands.means refl said (subst (Shows m) (sym still) stands.shows)

-- ---- a clock

-- the reply to a clock, by whether it goes back, and whether it is past the limit
clock_reply : (calls : List Planned) (workers : ℕ) (s : State) (t : ℕ) (back far : Bool) → nat_lt t s.moment ≡ back → nat_lt longest t ≡ far →
    reply_of calls workers s (h.Clock t) ≡ bare (cond back (a.Error x.Backward) (cond far (a.Error x.TooFar) a.Clock))
clock_reply calls workers s t back far p q = λ i. bare (cond (p i) (a.Error x.Backward) (cond (q i) (a.Error x.TooFar) a.Clock))

-- a moment that is not before this one, and within the limit, is accepted
pub accepts : (now t : ℕ) → now ≤ t → t ≤ longest → is_accepted now t ≡ true
accepts now t ahead near = grind (arith, nat_tests)

-- a clock before the moment
pub clock_back : (m : TableView) (t : ℕ) → t < m.moment → EventSteps m m (h.Clock t) (bare (a.Error x.Backward))
clock_back m t before =
    refuses m (h.Clock t) x.Backward (λ calls s shows. clock_reply calls (workers_of m) s t true (nat_lt longest t) (lt-ltb t s.moment (subst (λ n. t < n) (sym shows.moment) before)) refl)

-- a clock past the limit
pub clock_far : (m : TableView) (t : ℕ) → m.moment ≤ t → longest < t → EventSteps m m (h.Clock t) (bare (a.Error x.TooFar))
clock_far m t ahead far =
    refuses m (h.Clock t) x.TooFar (λ calls s shows. clock_reply calls (workers_of m) s t false true (le-ltb t s.moment (subst (λ n. n ≤ t) (sym shows.moment) ahead)) (lt-ltb longest t far))

-- the state after an accepted clock
clock_state : (calls : List Planned) (s : State) (t : ℕ) → is_accepted s.moment t ≡ true → record s { moment = t } ≡ state_after calls s (h.Clock t) (bare a.Clock)
clock_state calls s t accepted =
    let moment : t ≡ cond (is_accepted s.moment t) t s.moment = sym (ap (λ b. cond b t s.moment) accepted) in
    λ i. record s { moment = moment i; tasks = λ k. record (s.tasks k) { kept = sym (kept_stays (view_of_state calls s) k a.Clock refl refl refl) i } }

-- the same tasks are shown at another moment
pub moved_shown : (m : TableView) (s : State) (t : ℕ) → Shows m s → Shows (at_moment m t) (record s { moment = t })
moved_shown m s t shows = record { moment = refl; policies = shows.policies; shut = shows.shut; stopped = shows.stopped; held = shows.held; known = shows.known; work = shows.work }

-- a clock that is accepted
pub clock_steps : (m : TableView) (t : ℕ) → is_accepted m.moment t ≡ true → EventSteps m (at_moment m t) (h.Clock t) (bare a.Clock)
clock_steps m t accepted calls past stands =
    let s = after calls (workers_of m) (happenings past) in
    let shows : Shows m s = stands.shows in
    let here : is_accepted s.moment t ≡ true = ap (λ n. is_accepted n t) shows.moment ∙ accepted in
    let parts = and_parts (nat_le s.moment t) (nat_le t longest) here in
    let said : reply_of calls (workers_of m) s (h.Clock t) ≡ bare a.Clock =
    clock_reply calls (workers_of m) s t false false (le-ltb t s.moment (leb-true s.moment t parts.0)) (le-ltb longest t (leb-true t longest parts.1))
    in
    takes m (at_moment m t) calls past (h.Clock t) (bare a.Clock) stands.means refl said (subst (Shows (at_moment m t)) (clock_state calls s t here) (moved_shown m s t shows))

-- ---- a start that is refused

-- the reply to a start, by whether there is such a worker, its work, and the first enabled task
pub start_reply : (calls : List Planned) (workers w : ℕ) (s : State) (there : Bool) (work first : Option ℕ) → nat_lt w workers ≡ there → s.workers w ≡ work → first_enabled (view_of_state calls s) (numbers calls) ≡ first →
    reply_of calls workers s (h.Start w) ≡ bare (cond there (option_map_or (λ _. a.Error x.Busy) work (start_answer (view_of_state calls s) w first)) (a.Error x.NoWorker))
start_reply calls workers w s there work first l e f = λ i. bare (cond (l i) (option_map_or (λ _. a.Error x.Busy) (e i) (start_answer (view_of_state calls s) w (f i))) (a.Error x.NoWorker))

-- a start by a worker that there is not
pub start_none : (m : TableView) (w : ℕ) → workers_of m ≤ w → EventSteps m m (h.Start w) (bare (a.Error x.NoWorker))
start_none m w past_end = refuses m (h.Start w) x.NoWorker (λ calls s shows. start_reply calls (workers_of m) w s false (s.workers w) _ (le-ltb w (workers_of m) past_end) refl refl)

-- a start by a worker that works
pub start_busy : (m : TableView) (w slot : ℕ) → w < workers_of m → slice_index_or m.work w None ≡ Some slot → EventSteps m m (h.Start w) (bare (a.Error x.Busy))
start_busy m w slot there busy = refuses m (h.Start w) x.Busy (λ calls s shows.
    let work = subst (λ o. WorkIs m.slots o (s.workers w)) busy (shows.work w) in
    start_reply calls (workers_of m) w s true (Some work.0.number) _ (lt-ltb w (workers_of m) there) work.2 refl)

-- a start that is refused
pub start_refused : (m : TableView) (w : ℕ) (error : EventError) → IsStartError m w error → EventSteps m m (h.Start w) (bare (a.Error error))
start_refused m w x.NoWorker is = start_none m w is
start_refused m w x.Busy is = start_busy m w is.0 (option_within m.work w is.0 is.1) is.1
start_refused m w x.Backward is = absurd is
start_refused m w x.TooFar is = absurd is
start_refused m w x.NotRunning is = absurd is
start_refused m w x.NoTask is = absurd is
