-- The steps of a finish: by a worker that there is not, by one without work, and by one that works.
use Rattle.std.proofs.Common.{◌≡◌, ℕ, ◌+◌, ◌<◌, ◌≤◌, ◌==◌, ◌&&◌, ◌||◌, Bool, true, false, cond, List, length, Option, Some, None, refl, sym, ap, ◌∙◌, arith, subst}
use Rattle.std.specs.Prelude.{slice_index_or, slice_set, not}
use Rattle.std.proofs.lemmas.Bool.{eq-eqb, lt-ltb, le-ltb, false_from_ne_true}
use Rattle.std.proofs.lemmas.List.{length-set}
use Rattle.std.proofs.lemmas.Option.{same_Some}
use Rattle.sched_time.specs.declared.timing.Ending.{Ending}
use Rattle.executor_model.specs.declared.types.EventError.{EventError}
use Rattle.executor_model.specs.declared.types.EventError.TheVariants as x
use Rattle.task_table.specs.Runs.{IsFinishError, IsLeft}
use Rattle.executor_model.specs.declared.types.Happening.TheVariants as h
use Rattle.executor_model.specs.declared.types.Outcome.{Outcome}
use Rattle.executor_model.specs.declared.types.Outcome.TheVariants as o
use Rattle.executor_model.specs.declared.types.Answer.TheVariants as a
use Rattle.executor_model.specs.declared.task.Stage.TheVariants as ph
use Rattle.executor_model.specs.declared.task.Task.{Task}
use Rattle.queue_code.specs.Calls.{Planned, terms_of}
use Rattle.executor_model.specs.Answers.{bare, finish_answer, outcome_in, stops_periodic}
use Rattle.executor_model.specs.Histories.{HistoryEntry, happenings, is_ended, work_after}
use Rattle.executor_model.specs.State.{State, after, view_of_state, state_after, task_after, finish_task, end_task, due_past}
use Rattle.executor_model.proofs.Keeping.{kept_stays}
use Rattle.executor_model.proofs.Tables.{at_set}
use Rattle.executor_model.proofs.Workers.{task_finishes}
use Rattle.task_table.specs.declared.seat.Seat.{Seat}
use Rattle.task_table.specs.Seats.{task_in, slot_of}
use Rattle.task_table.specs.Tables.{TableView, workers_of, WorkIs, Shows, Stands, Takes, EventSteps}
use Rattle.task_table.specs.Changes.{put, ended, finished}
use Rattle.task_table.specs.Formed.{IsFormed}
use Rattle.task_table.proofs.Written.{ChangesOne}
use Rattle.task_table.proofs.Standing.{Known, takes}
use Rattle.task_table.proofs.Knowing.{known}
use Rattle.task_table.proofs.Shown.{takes_error, put_shown}

-- ---- by a worker that does not work

-- by one that there is not
pub finish_none : (m : TableView) (w : ℕ) (ending : Ending) → workers_of m ≤ w → EventSteps m m (h.Finish w ending) (bare (a.Error x.NoWorker))
finish_none m w ending past_end calls past stands =
    let s = after calls (workers_of m) (happenings past) in
    takes_error m calls past (h.Finish w ending) x.NoWorker stands
    (ap (λ b. bare (cond b (finish_answer calls (view_of_state calls s) w ending (s.workers w)) (a.Error x.NoWorker))) (le-ltb w (workers_of m) past_end))

-- by one without work
pub finish_idle : (m : TableView) (w : ℕ) (ending : Ending) → w < workers_of m → slice_index_or m.work w None ≡ None → EventSteps m m (h.Finish w ending) (bare (a.Error x.NotRunning))
finish_idle m w ending low free calls past stands =
    let s = after calls (workers_of m) (happenings past) in
    let idle : s.workers w ≡ None = subst (λ o. WorkIs m.slots o (s.workers w)) free (stands.shows.work w) in
    takes_error m calls past (h.Finish w ending) x.NotRunning stands
    (λ i. bare (cond (lt-ltb w (workers_of m) low i) (finish_answer calls (view_of_state calls s) w ending (idle i)) (a.Error x.NoWorker)))

-- ---- the tasks after the end of a run

-- a task that is not the worker's
stays_finish : (calls : List Planned) (s : State) (w n run : ℕ) (outcome : Outcome) (k : ℕ) → (n == k) ≡ false → task_after calls s (bare (a.Finish w n run outcome)) k ≡ s.tasks k
stays_finish calls s w n run outcome k apart = λ i. record (cond (apart i) (finish_task (terms_of calls k).timing s.moment outcome (s.tasks k)) (s.tasks k)) {
  cancelled = (apart i && is_ended outcome) || (s.tasks k).cancelled;
  kept = kept_stays (view_of_state calls s) k (a.Finish w n run outcome) refl refl refl i;
}

-- what the end of a run leaves of a task is what the table makes of it
ended_is : (outcome : Outcome) (due : ℕ) (x : Seat) → record (end_task outcome due (task_in x)) { cancelled = is_ended outcome || x.cancelled; kept = x.kept } ≡ task_in (ended outcome due x)
ended_is (o.Done value) due x = refl
ended_is (o.Failed code) due x = refl
ended_is o.Dropped due x = refl
ended_is o.Ended due x = refl
ended_is (o.Again next) due x = λ i. record (task_in (ended (o.Again next) due x)) { run = more x.run i }
  where
    more : (n : ℕ) → 1 + n ≡ n + 1
    more n = omega arith

-- the worker's task
finish_here : (calls : List Planned) (s : State) (w run now due : ℕ) (outcome : Outcome) (x : Seat) → s.tasks x.number ≡ task_in x → (terms_of calls x.number).timing ≡ x.timing → s.moment ≡ now → due ≡ due_past x.timing x.due now →
    task_after calls s (bare (a.Finish w x.number run outcome)) x.number ≡ task_in (ended outcome due x)
finish_here calls s w run now due outcome x task timed moment next =
    let n = x.number in
    let kept = kept_stays (view_of_state calls s) n (a.Finish w n run outcome) refl refl refl ∙ ap (λ (y : Task). y.kept) task in
    (λ i. record (cond (eq-eqb n n refl i) (finish_task (timed i) (moment i) outcome (task i)) (task i)) { cancelled = (eq-eqb n n refl i && is_ended outcome) || (task i).cancelled; kept = kept i })
    ∙ (ended_is outcome (due_past x.timing x.due now) x ∙ ap (λ d. task_in (ended outcome d x)) (sym next))

-- ---- by a worker that works

-- what the work of the workers is once one of them ended its run
works_after : (slots : List (Option Seat)) (work : List (Option ℕ)) (w n run : ℕ) (outcome : Outcome) (workers : ℕ → Option ℕ) → w < length work → ((u : ℕ) → WorkIs slots (slice_index_or work u None) (workers u)) →
    (u : ℕ) → WorkIs slots (slice_index_or (slice_set work w None) u None) (work_after u (a.Finish w n run outcome) (workers u))
works_after slots work w n run outcome workers low works u = subst (λ q. WorkIs slots q (work_after u (a.Finish w n run outcome) (workers u))) (sym (at_set work w u None None low)) (by (w == u))
  where
    by : (b : Bool) → WorkIs slots (cond b None (slice_index_or work u None)) (cond b None (workers u))
    by true = refl
    by false = works u

-- the table shows the state after a finish
finish_shown : (m : TableView) (w slot run due : ℕ) (x : Seat) (outcome : Outcome) (ending : Ending) (calls : List Planned) (s : State) → IsFormed m → w < workers_of m → slot_of m.slots slot ≡ Some x → (terms_of calls x.number).timing ≡ x.timing →
    due ≡ due_past x.timing x.due m.moment → Shows m s → Shows (finished m w slot x outcome due) (state_after calls s (h.Finish w ending) (bare (a.Finish w x.number run outcome)))
finish_shown m w slot run due x outcome ending calls s formed low there timed next shows =
    let tasks = λ (k : ℕ). task_after calls s (bare (a.Finish w x.number run outcome)) k in
    let one : ChangesOne x.number s.tasks tasks = λ k apart. stays_finish calls s w x.number run outcome k apart in
    let y = ended outcome due x in
    let after_it = put_shown m slot x y s tasks formed.apart there (same_number outcome) shows one (finish_here calls s w run m.moment due outcome x (shows.held slot x there) timed shows.moment next) in
    record {
      moment = after_it.moment;
      policies = after_it.policies;
      shut = after_it.shut;
      stopped = after_it.stopped;
      held = after_it.held;
      known = after_it.known;
      work = works_after (put m slot y).slots m.work w x.number run outcome s.workers low after_it.work;
    }
  where
    same_number : (outcome : Outcome) → (ended outcome due x).number ≡ x.number
    same_number (o.Done value) = refl
    same_number (o.Failed code) = refl
    same_number o.Dropped = refl
    same_number o.Ended = refl
    same_number (o.Again next) = refl

-- by a worker that works, where what is known of the state is given
finish_known : (m : TableView) (w slot due : ℕ) (x : Seat) (ending : Ending) (outcome : Outcome) → IsFormed m → w < workers_of m → slice_index_or m.work w None ≡ Some slot → slot_of m.slots slot ≡ Some x →
    due ≡ due_past x.timing x.due m.moment → outcome ≡ outcome_in x.cancelled (stops_periodic m.shut m.stopped m.policies) x.timing due ending →
    (calls : List Planned) (past : List HistoryEntry) → Stands m calls past → Known calls (after calls (workers_of m) (happenings past)) →
    Takes (finished m w slot x outcome due) calls past (h.Finish w ending) (bare (a.Finish w x.number x.run outcome))
finish_known m w slot due x ending outcome formed low works there next is calls past stands knows =
    let s = after calls (workers_of m) (happenings past) in
    let n = x.number in
    let shows = stands.shows in
    let task = shows.held slot x there in
    let staff = formed.staffed w slot works in
    let runs : (s.tasks n).phase ≡ ph.Running = ap (λ (y : Task). y.phase) task ∙ (ap (λ (y : Seat). y.phase) (same_Some x staff.0 (sym there ∙ staff.1)) ∙ staff.2) in
    let work = subst (λ o. WorkIs m.slots o (s.workers w)) works (shows.work w) in
    let at_work : s.workers w ≡ Some n = work.2 ∙ ap (λ (y : Seat). Some y.number) (same_Some work.0 x (sym work.1 ∙ there)) in
    let timed : (terms_of calls n).timing ≡ x.timing = sym (knows.timing n (λ q. let clash : ph.Running ≡ ph.Vacant = sym runs ∙ q in cc)) ∙ ap (λ (y : Task). y.timing) task in
    let so : outcome ≡ outcome_in (s.tasks n).cancelled (stops_periodic s.shut s.stopped s.policies) (terms_of calls n).timing (due_past (terms_of calls n).timing (s.tasks n).due s.moment) ending =
    is ∙ (ap (λ d. outcome_in x.cancelled (stops_periodic m.shut m.stopped m.policies) x.timing d ending) next
    ∙ sym (λ i. outcome_in (task i).cancelled (stops_periodic (shows.shut i) (shows.stopped i) (shows.policies i)) (timed i) (due_past (timed i) (task i).due (shows.moment i)) ending))
    in
    let said = task_finishes calls (workers_of m) w n ending outcome s low at_work runs knows.due so ∙ ap (λ (t : Task). bare (a.Finish w n t.run outcome)) task in
    takes m (finished m w slot x outcome due) calls past (h.Finish w ending) (bare (a.Finish w n x.run outcome)) stands.means (length-set m.work w None) said
    (finish_shown m w slot x.run due x outcome ending calls s formed low there timed next shows)

-- by a worker that works
pub finish_steps : (m : TableView) (w slot due : ℕ) (x : Seat) (ending : Ending) (outcome : Outcome) → IsFormed m → w < workers_of m → slice_index_or m.work w None ≡ Some slot → slot_of m.slots slot ≡ Some x →
    due ≡ due_past x.timing x.due m.moment → outcome ≡ outcome_in x.cancelled (stops_periodic m.shut m.stopped m.policies) x.timing due ending →
    EventSteps m (finished m w slot x outcome due) (h.Finish w ending) (bare (a.Finish w x.number x.run outcome))
finish_steps m w slot due x ending outcome formed low works there next is calls past stands =
    finish_known m w slot due x ending outcome formed low works there next is calls past stands (known calls (workers_of m) past stands.orderly stands.means)

-- a finish that is refused
pub finish_refused : (m : TableView) (w : ℕ) (ending : Ending) (error : EventError) → IsFinishError m w error → EventSteps m m (h.Finish w ending) (bare (a.Error error))
finish_refused m w ending x.NoWorker is = finish_none m w ending is
finish_refused m w ending x.NotRunning is = finish_idle m w ending is.0 is.1
finish_refused m w ending x.Backward is = absurd is
finish_refused m w ending x.TooFar is = absurd is
finish_refused m w ending x.Busy is = absurd is
finish_refused m w ending x.NoTask is = absurd is

-- ---- what is left of the task

-- a task whose run is under way is not kept
pub kept_not : (m : TableView) (slot : ℕ) (x : Seat) → IsFormed m → slot_of m.slots slot ≡ Some x → x.phase ≡ ph.Running → x.kept ≡ false
kept_not m slot x formed there runs = false_from_ne_true x.kept (λ kept. absurd (clash (sym runs ∙ ((formed.seated slot x there).kept kept).0)))
  where
    clash : ph.Running ≡ ph.Waiting → ⊥
    clash q = cc

-- where a run comes after it, it was not cancelled, and waits; else nothing may come of it any more
pub finish_leaves : (x : Seat) (stops : Bool) (due : ℕ) (ending : Ending) (outcome : Outcome) → x.kept ≡ false → outcome ≡ outcome_in x.cancelled stops x.timing due ending → IsLeft outcome (ended outcome due x)
finish_leaves x stops due ending (o.Done value) kept is = ap (λ b. b || false) kept
finish_leaves x stops due ending (o.Failed code) kept is = ap (λ b. b || false) kept
finish_leaves x stops due ending o.Dropped kept is = ap (λ b. b || false) kept
finish_leaves x stops due ending o.Ended kept is = ap (λ b. b || false) kept
finish_leaves x stops due ending (o.Again next) kept is = by x.cancelled is
  where
    clash : o.Again next ≡ o.Dropped → ⊥
    clash q = cc

    by : (b : Bool) → o.Again next ≡ outcome_in b stops x.timing due ending → not b ≡ true
    by true q = absurd (clash q)
    by false q = refl
