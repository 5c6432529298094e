-- The end of a run, as one look at a core tells it, and the step that it is.
use Rattle.std.proofs.Common.{zero, suc, ◌≡◌, ℕ, ◌<◌, Bool, true, List, [], ◌∷◌, length, Option, Some, None, refl, sym, ap, ◌∙◌, arith, subst}
use Rattle.std.specs.Prelude.{slice_index_or}
use Rattle.std.proofs.lemmas.Bool.{false≢true}
use Rattle.std.proofs.lemmas.List.{length-set}
use Rattle.std.proofs.lemmas.Option.{none-some, same_Some}
use Rattle.sched_time.specs.declared.timing.Ending.{Ending}
use Rattle.queue_code.specs.Calls.{Planned, terms_of}
use Rattle.executor_model.specs.declared.types.Happening.TheVariants as h
use Rattle.executor_model.specs.declared.types.Answer.TheVariants as a
use Rattle.executor_model.specs.declared.types.Outcome.{Outcome}
use Rattle.executor_model.specs.declared.types.Outcome.TheVariants as o
use Rattle.executor_model.specs.declared.task.Task.{Task}
use Rattle.executor_model.specs.declared.task.Stage.{Stage}
use Rattle.executor_model.specs.declared.task.Stage.TheVariants as ph
use Rattle.executor_model.specs.Answers.{bare, outcome_in, stops_periodic}
use Rattle.executor_model.specs.State.{vacant, after, due_past, reply_of}
use Rattle.executor_model.specs.Histories.{happenings}
use Rattle.executor_model.proofs.Workers.{task_finishes}
use Rattle.task_table.specs.declared.seat.Seat.{Seat}
use Rattle.task_table.specs.declared.answers.Ended.{Ended}
use Rattle.task_table.specs.declared.answers.RunEnd.{RunEnd as TableEnd}
use Rattle.task_table.specs.Seats.{task_in, slot_of, is_running_in}
use Rattle.task_table.specs.Tables.{TableView, WorkIs, Takes as TableTakes}
use Rattle.task_table.specs.Changes.{ended, finished}
use Rattle.task_table.specs.Runs.{Ends}
use Rattle.task_table.specs.Runs.{IsEndOf}
use Rattle.task_table.proofs.Written.{slot_within}
use Rattle.executor_core.specs.plan_table.Numbered.{task_at, tasks_at}
use Rattle.executor_core.specs.declared.foreseen.RunEnd.{RunEnd}
use Rattle.executor_core.specs.Foresight.{run_end, end_of_work, end_in}
use Rattle.executor_core.specs.CoreView.{CoreView, state_of}
use Rattle.executor_core.specs.own.Ends.{table_end}
use Rattle.executor_core.specs.own.Invariants.{core_of, IsPlaced, ArePlaced, IsCore}
use Rattle.executor_core.specs.own.OwnSteps.{Takes}
use Rattle.executor_core.proofs.Reaching.{read_task, core_known}
use Rattle.executor_core.proofs.Placing.{put_placed, put_empty}
use Rattle.executor_core.proofs.Landing.{StaysGone, stays_gone, lands, stays}

-- a worker with a task is one of the core
pub busy_within : (work : List (Option ℕ)) (w k : ℕ) → slice_index_or work w None ≡ Some k → w < length work
busy_within [] w k q = cc
busy_within (first ∷ work) zero k q = omega arith
busy_within (first ∷ work) (suc w) k q = omega (arith, busy_within work w k q)

-- a run of a task in this phase is under way
pub runs_is : (p : Stage) → is_running_in p ≡ true → p ≡ ph.Running
runs_is ph.Running q = refl
runs_is ph.Vacant q = absurd (false≢true q)
runs_is ph.Waiting q = absurd (false≢true q)
runs_is ph.Done q = absurd (false≢true q)
runs_is ph.Failed q = absurd (false≢true q)
runs_is ph.Dropped q = absurd (false≢true q)

-- ---- the reply

-- what comes of a run of the task in a slot
abbrev pub outcome_at : TableView → Ending → Seat → Outcome
outcome_at t ending x = outcome_in x.cancelled (stops_periodic t.shut t.stopped t.policies) x.timing (due_past x.timing x.due t.moment) ending

-- what is known of the task of a worker
pub record AtWork (t : TableView) (k : ℕ) : Type 0 where
  pub task : Seat
  pub there : slot_of t.slots k ≡ Some task
  pub runs : task.phase ≡ ph.Running

pub at_work : (calls : List Planned) (limit taken count : ℕ) (t : TableView) (sought : Bool) (w k : ℕ) (f : IsCore (core_of calls limit taken count t) t sought) → slice_index_or t.work w None ≡ Some k → AtWork t k
at_work calls limit taken count t sought w k f busy =
    let own : Option ℕ = (after calls (length t.work) (happenings f.past)).workers w in
    let is : WorkIs t.slots (Some k) own = subst (λ q. WorkIs t.slots q own) busy (f.reached.stands.shows.work w) in
    let knows = core_known calls limit taken count t f.past f.reached f.placed in
    record {
      task = is.0;
      there = is.1;
      runs = ap (λ (y : Task). y.phase) (sym (read_task t.slots k ∙ ap task_at is.1)) ∙ knows.sound.at_work w k busy;
    }

-- what a finish by a worker with this task is answered
pub finish_said : (calls : List Planned) (limit taken count : ℕ) (t : TableView) (sought : Bool) (w k : ℕ) (ending : Ending) (x : Seat) (f : IsCore (core_of calls limit taken count t) t sought) → slice_index_or t.work w None ≡ Some k →
    slot_of t.slots k ≡ Some x → x.phase ≡ ph.Running → reply_of calls (length t.work) (state_of (core_of calls limit taken count t)) (h.Finish w ending) ≡ bare (a.Finish w k x.run (outcome_at t ending x))
finish_said calls limit taken count t sought w k ending x f busy there runs =
    let knows = core_known calls limit taken count t f.past f.reached f.placed in
    let task : slice_index_or (tasks_at t.slots) k vacant ≡ task_in x = read_task t.slots k ∙ ap task_at there in
    let phase : (slice_index_or (tasks_at t.slots) k vacant).phase ≡ ph.Running = ap (λ (y : Task). y.phase) task ∙ runs in
    let timing : (terms_of calls k).timing ≡ x.timing = sym (knows.timing k (λ e. let clash : ph.Running ≡ ph.Vacant = sym phase ∙ e in cc)) ∙ ap (λ (y : Task). y.timing) task in
    let out : outcome_at t ending x ≡ outcome_in (slice_index_or (tasks_at t.slots) k vacant).cancelled (stops_periodic t.shut t.stopped t.policies) (terms_of calls k).timing (due_past (terms_of calls k).timing (slice_index_or (tasks_at t.slots) k vacant).due t.moment) ending =
    λ i. outcome_in (sym task i).cancelled (stops_periodic t.shut t.stopped t.policies) (sym timing i) (due_past (sym timing i) (sym task i).due t.moment) ending
    in
    task_finishes calls (length t.work) w k ending (outcome_at t ending x) (state_of (core_of calls limit taken count t)) (busy_within t.work w k busy) busy phase knows.due out
    ∙ ap (λ (y : Task). bare (a.Finish w k y.run (outcome_at t ending x))) task

-- ---- what a look tells

-- the end of a run as the core tells it
abbrev pub core_end : TableEnd → RunEnd
core_end e = record { task = e.task.slot; run = e.run; due = e.due; outcome = e.outcome }

-- the end that the table tells is the one that the core holds
pub end_is_told : (calls : List Planned) (limit taken count : ℕ) (t : TableView) (w : ℕ) (ending : Ending) (e : TableEnd) → IsEndOf t w ending e → Some (core_end e) ≡ end_in (core_of calls limit taken count t) (h.Finish w ending)
end_is_told calls limit taken count t w ending e is =
    let m = core_of calls limit taken count t in
    let k = e.task.slot in
    let task : slice_index_or (tasks_at t.slots) k vacant ≡ task_in is.task = read_task t.slots k ∙ ap task_at is.there in
    let told : core_end e ≡ run_end m k ending (task_in is.task) = λ i. record { task = k; run = is.run i; due = is.due i; outcome = is.outcome i } in
    ap Some told ∙ (ap (λ y. Some (run_end m k ending y)) (sym task) ∙ ap (end_of_work m ending) (sym is.works))

-- the end that the core holds is one of its table
pub told_is_end : (calls : List Planned) (limit taken count : ℕ) (t : TableView) (sought : Bool) (w : ℕ) (ending : Ending) (end : RunEnd) (f : IsCore (core_of calls limit taken count t) t sought) → Some end ≡ end_in (core_of calls limit taken count t) (h.Finish w ending) →
    IsEndOf t w ending (table_end end)
told_is_end calls limit taken count t sought w ending end f = by (slice_index_or t.work w None) refl
  where
    m : CoreView
    m = core_of calls limit taken count t

    by : (q : Option ℕ) → slice_index_or t.work w None ≡ q → Some end ≡ end_of_work m ending q → IsEndOf t w ending (table_end end)
    by None busy is = absurd (none-some end (sym is))
    by (Some k) busy is =
        let at = at_work calls limit taken count t sought w k f busy in
        let x = at.task in
        let task : slice_index_or (tasks_at t.slots) k vacant ≡ task_in x = read_task t.slots k ∙ ap task_at at.there in
        let same : run_end m k ending (task_in x) ≡ end = ap (λ y. run_end m k ending y) (sym task) ∙ sym (same_Some end (run_end m k ending (slice_index_or (tasks_at t.slots) k vacant)) is) in
        let named : k ≡ x.number = sym (f.placed k x at.there).named in
        let here : IsEndOf t w ending (table_end (run_end m k ending (task_in x))) = record {
          within = busy_within t.work w k busy;
          works = busy;
          task = x;
          there = at.there;
          number = named;
          run = refl;
          due = refl;
          outcome = refl;
          runs = ap is_running_in at.runs;
        }
        in
        subst (λ e. IsEndOf t w ending (table_end e)) same here

-- ---- the step

-- a task whose run has ended stands where it stood
ended_placed : (taken slot due : ℕ) (outcome : Outcome) (x : Seat) → IsPlaced taken slot x → x.phase ≡ ph.Running → IsPlaced taken slot (ended outcome due x)
ended_placed taken slot due (o.Done value) x here runs = record { named = here.named; submitted = λ e. cc; below = here.below; begun = λ e. absurd cc }
ended_placed taken slot due (o.Failed code) x here runs = record { named = here.named; submitted = λ e. cc; below = here.below; begun = λ e. absurd cc }
ended_placed taken slot due o.Dropped x here runs = record { named = here.named; submitted = λ e. cc; below = here.below; begun = λ e. absurd cc }
ended_placed taken slot due o.Ended x here runs = record { named = here.named; submitted = λ e. cc; below = here.below; begun = λ e. absurd cc }
ended_placed taken slot due (o.Again next) x here runs = record { named = here.named; submitted = λ e. cc; below = omega (arith, here.begun runs); begun = λ e. absurd cc }

ends_in : (calls : List Planned) (limit taken count : ℕ) (t : TableView) (sought : Bool) (w slot run due : ℕ) (ending : Ending) (outcome : Outcome) (x : Seat) (f : IsCore (core_of calls limit taken count t) t sought) → slot_of t.slots slot ≡ Some x → x.phase ≡ ph.Running →
    TableTakes (finished t w slot x outcome due) calls f.past (h.Finish w ending) (bare (a.Finish w slot run outcome)) →
    Takes (core_of calls limit taken count t) (core_of calls limit taken count (finished t w slot x outcome due)) (h.Finish w ending) (a.Finish w slot run outcome) × IsCore (core_of calls limit taken count (finished t w slot x outcome due)) (finished t w slot x outcome due) sought
ends_in calls limit taken count t sought w slot run due ending outcome x f there runs takes =
    let u = finished t w slot x outcome due in
    let y = ended outcome due x in
    let low = slot_within t.slots slot x there in
    let placed : ArePlaced taken u.slots = put_placed taken t.slots slot y low f.placed (ended_placed taken slot due outcome x (f.placed slot x there) runs) in
    let width : length u.work ≡ length t.work = length-set t.work w None in
    let size : length u.slots ≡ length t.slots = length-set t.slots slot (Some y) in
    let gone : StaysGone calls t u f.past (h.Finish w ending) = stays_gone calls count t u f.past (h.Finish w ending) f.reached (λ i q. ((put_empty t.slots slot i y low q).1, tt)) in (
      lands calls limit taken count count t u sought (h.Finish w ending) (a.Finish w slot run outcome) f tt width takes gone placed refl,
      stays calls limit taken count count t u sought (h.Finish w ending) (bare (a.Finish w slot run outcome)) f tt width takes gone placed refl size f.moment f.made f.ahead,
    )

-- a worker's run ends
pub ends : (calls : List Planned) (limit taken count : ℕ) (t u : TableView) (sought : Bool) (w : ℕ) (ending : Ending) (e : Ended) (f : IsCore (core_of calls limit taken count t) t sought) → Ends t u w ending e →
    Takes (core_of calls limit taken count t) (core_of calls limit taken count u) (h.Finish w ending) (a.Finish w e.task.slot e.run e.outcome) × IsCore (core_of calls limit taken count u) u sought
ends calls limit taken count t u sought w ending e f did =
    let x : Seat = did.task in
    let due = due_past x.timing x.due t.moment in
    let slot = e.task.slot in
    let runs = runs_is x.phase did.runs in
    let number : e.task.number ≡ slot = did.number ∙ (f.placed slot x did.there).named in
    let takes : TableTakes u calls f.past (h.Finish w ending) (bare (a.Finish w slot e.run e.outcome)) = subst (λ k. TableTakes u calls f.past (h.Finish w ending) (bare (a.Finish w k e.run e.outcome))) number (did.steps calls f.past f.reached.stands) in
    let done = ends_in calls limit taken count t sought w slot e.run due ending e.outcome x f did.there runs (subst (λ v. TableTakes v calls f.past (h.Finish w ending) (bare (a.Finish w slot e.run e.outcome))) did.is takes) in (
      subst (λ v. Takes (core_of calls limit taken count t) (core_of calls limit taken count v) (h.Finish w ending) (a.Finish w slot e.run e.outcome)) (sym did.is) done.0,
      subst (λ v. IsCore (core_of calls limit taken count v) v sought) (sym did.is) done.1,
    )

-- what a finish is answered of which the end was told
pub end_said : (calls : List Planned) (limit taken count : ℕ) (t : TableView) (sought : Bool) (w : ℕ) (ending : Ending) (e : TableEnd) (f : IsCore (core_of calls limit taken count t) t sought) → IsEndOf t w ending e →
    reply_of calls (length t.work) (state_of (core_of calls limit taken count t)) (h.Finish w ending) ≡ bare (a.Finish w e.task.slot e.run e.outcome)
end_said calls limit taken count t sought w ending e f is =
    finish_said calls limit taken count t sought w e.task.slot ending is.task f is.works is.there (runs_is is.task.phase is.runs)
    ∙ (λ i. bare (a.Finish w e.task.slot (sym is.run i) (sym is.outcome i)))

-- its run is below the number of events taken
pub end_below : (calls : List Planned) (limit taken count : ℕ) (t : TableView) (sought : Bool) (w : ℕ) (ending : Ending) (e : TableEnd) (f : IsCore (core_of calls limit taken count t) t sought) → IsEndOf t w ending e → e.run < taken
end_below calls limit taken count t sought w ending e f is = omega (arith, is.run, (f.placed e.task.slot is.task is.there).begun (runs_is is.task.phase is.runs))
