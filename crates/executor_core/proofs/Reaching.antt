-- Where a core stands once its table took a step.
use Rattle.std.proofs.Common.{zero, suc, ◌≡◌, ℕ, List, [], ◌∷◌, length, Option, Some, None, refl, sym, ap, ◌∙◌, subst}
use Rattle.std.specs.Prelude.{slice_index_or}
use Rattle.queue_code.specs.Calls.{Planned}
use Rattle.executor_model.specs.declared.types.Happening.{Happening}
use Rattle.executor_model.specs.Answers.{Reply}
use Rattle.executor_model.specs.Histories.{HistoryEntry, entry_of, happenings, answer, made_after, IsHistoryOf, MayCome}
use Rattle.executor_model.specs.State.{State, vacant, after, next, reply_of}
use Rattle.executor_model.proofs.Agree.{after_agrees, answers_alike}
use Rattle.task_table.specs.declared.seat.Seat.{Seat}
use Rattle.task_table.specs.Seats.{slot_of}
use Rattle.task_table.specs.Tables.{TableView, WorkIs, Takes as TableTakes}
use Rattle.task_table.proofs.Standing.{Known, made_there}
use Rattle.task_table.proofs.Knowing.{known}
use Rattle.executor_core.specs.plan_table.Numbered.{task_at, tasks_at}
use Rattle.executor_core.specs.CoreView.{CoreView, workers_of, state_of}
use Rattle.executor_core.specs.own.Invariants.{core_of, ArePlaced, IsReached}

-- ---- the state that a table shows

-- the task of a number is the one in its slot
pub read_task : (slots : List (Option Seat)) (k : ℕ) → slice_index_or (tasks_at slots) k vacant ≡ task_at (slot_of slots k)
read_task [] k = refl
read_task (o ∷ slots) zero = refl
read_task (o ∷ slots) (suc k) = read_task slots k

-- as many tasks as slots
pub count_tasks : (slots : List (Option Seat)) → length (tasks_at slots) ≡ length slots
count_tasks [] = refl
count_tasks (o ∷ slots) = ap suc (count_tasks slots)

-- a task of the state is the one in its slot
task_there : (calls : List Planned) (taken count : ℕ) (t : TableView) (past : List HistoryEntry) → IsReached calls count t past → ArePlaced taken t.slots → (k : ℕ) →
    (after calls (length t.work) (happenings past)).tasks k ≡ task_at (slot_of t.slots k)
task_there calls taken count t past reached placed k = by (slot_of t.slots k) refl
  where
    s : State
    s = after calls (length t.work) (happenings past)

    by : (o : Option Seat) → slot_of t.slots k ≡ o → s.tasks k ≡ task_at o
    by None q = reached.gone k q
    by (Some x) q = ap s.tasks (sym (placed k x q).named) ∙ reached.stands.shows.held k x q

-- so is the work of a worker
work_there : (taken : ℕ) (slots : List (Option Seat)) (o work : Option ℕ) → ArePlaced taken slots → WorkIs slots o work → work ≡ o
work_there taken slots None work placed is = is
work_there taken slots (Some i) work placed is = is.2 ∙ ap Some (placed i is.0 is.1).named

-- the state to which the history leads is the one that the core shows
pub state_there : (calls : List Planned) (limit taken count : ℕ) (t : TableView) (past : List HistoryEntry) → IsReached calls count t past → ArePlaced taken t.slots →
    after calls (length t.work) (happenings past) ≡ state_of (core_of calls limit taken count t)
state_there calls limit taken count t past reached placed =
    let stands = reached.stands in
    let shows = stands.shows in
    let made = made_there calls (length t.work) past stands.means ∙ reached.front in
    let task : (k : ℕ) → (after calls (length t.work) (happenings past)).tasks k ≡ slice_index_or (tasks_at t.slots) k vacant =
    λ k. task_there calls taken count t past reached placed k ∙ sym (read_task t.slots k)
    in
    let work : (w : ℕ) → (after calls (length t.work) (happenings past)).workers w ≡ slice_index_or t.work w None = λ w. work_there taken t.slots (slice_index_or t.work w None) _ placed (shows.work w) in
    λ i. record {
      made = made i;
      moment = shows.moment i;
      tasks = λ k. task k i;
      workers = λ w. work w i;
      policies = shows.policies i;
      shut = shows.shut i;
      stopped = shows.stopped i;
    }

-- what is known of the state of a core
pub core_known : (calls : List Planned) (limit taken count : ℕ) (t : TableView) (past : List HistoryEntry) → IsReached calls count t past → ArePlaced taken t.slots → Known calls (state_of (core_of calls limit taken count t))
core_known calls limit taken count t past reached placed =
    subst (Known calls) (state_there calls limit taken count t past reached placed) (known calls (length t.work) past reached.stands.orderly reached.stands.means)

-- ---- a step

-- a history with one happening more
abbrev pub longer : List Planned → ℕ → List HistoryEntry → Happening → List HistoryEntry
longer calls workers past y = entry_of y (answer calls workers past y) ∷ past

-- the table stands where the longer history leads
pub reaches : (calls : List Planned) (count : ℕ) (t u : TableView) (past : List HistoryEntry) (y : Happening) (r : Reply) → IsReached calls count t past → MayCome calls (happenings past) y → length u.work ≡ length t.work →
    TableTakes u calls past y r → ((i : ℕ) → slot_of u.slots i ≡ None → (next calls (length t.work) (after calls (length t.work) (happenings past)) y).tasks i ≡ vacant) →
    IsReached calls (made_after count y) u (longer calls (length t.work) past y)
reaches calls count t u past y r reached comes width takes gone =
    let means : IsHistoryOf calls (length t.work) (longer calls (length t.work) past y) = (reached.stands.means, comes, refl, refl) in
    record {
      stands = record {
        orderly = reached.stands.orderly;
        means = subst (λ n. IsHistoryOf calls n (longer calls (length t.work) past y)) (sym width) means;
        shows = takes.shows;
      };
      front = ap (λ n. made_after n y) reached.front;
      gone = λ i q. subst (λ n. (after calls n (y ∷ happenings past)).tasks i ≡ vacant) (sym width) (gone i q);
    }

-- the reply to a happening where the history leads is the one that the table gives
pub there_said : (calls : List Planned) (count : ℕ) (t u : TableView) (past : List HistoryEntry) (y : Happening) (r : Reply) → IsReached calls count t past → length u.work ≡ length t.work → TableTakes u calls past y r →
    reply_of calls (length t.work) (after calls (length t.work) (happenings past)) y ≡ r
there_said calls count t u past y r reached width takes =
    let w = length t.work in
    answers_alike calls w (after calls w (happenings past)) past y (after_agrees calls w past reached.stands.means) ∙ subst (λ n. answer calls n past y ≡ r) width takes.said

-- and so is the one in the state of the core
pub core_said : (calls : List Planned) (limit taken count : ℕ) (t u : TableView) (past : List HistoryEntry) (y : Happening) (r : Reply) → IsReached calls count t past → ArePlaced taken t.slots → length u.work ≡ length t.work → TableTakes u calls past y r →
    reply_of calls (length t.work) (state_of (core_of calls limit taken count t)) y ≡ r
core_said calls limit taken count t u past y r reached placed width takes =
    ap (λ z. reply_of calls (length t.work) z y) (sym (state_there calls limit taken count t past reached placed)) ∙ there_said calls count t u past y r reached width takes

-- what a happening makes of a core, and its reply
pub record Steps (m n : CoreView) (y : Happening) (r : Reply) : Type 0 where
  pub state : state_of n ≡ next m.calls (workers_of m) (state_of m) y
  pub said : reply_of m.calls (workers_of m) (state_of m) y ≡ r

-- a core takes the step that its table takes
pub core_steps : (calls : List Planned) (limit taken count : ℕ) (t u : TableView) (past : List HistoryEntry) (y : Happening) (r : Reply) → IsReached calls count t past → ArePlaced taken t.slots → MayCome calls (happenings past) y →
    length u.work ≡ length t.work → TableTakes u calls past y r → ((i : ℕ) → slot_of u.slots i ≡ None → (next calls (length t.work) (after calls (length t.work) (happenings past)) y).tasks i ≡ vacant) → ArePlaced taken u.slots →
    Steps (core_of calls limit taken count t) (core_of calls limit taken (made_after count y) u) y r
core_steps calls limit taken count t u past y r reached placed comes width takes gone placed_new =
    let w = length t.work in
    let old = state_there calls limit taken count t past reached placed in
    let new = state_there calls limit taken (made_after count y) u (longer calls w past y) (reaches calls count t u past y r reached comes width takes gone) placed_new in
    let here : after calls (length u.work) (y ∷ happenings past) ≡ next calls w (after calls w (happenings past)) y = ap (λ n. after calls n (y ∷ happenings past)) width in
    record {
      state = sym new ∙ (here ∙ ap (λ z. next calls w z y) old);
      said = core_said calls limit taken count t u past y r reached placed width takes;
    }
