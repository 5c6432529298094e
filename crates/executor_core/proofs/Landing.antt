-- The steps of a core, and what stays true of it, by those of its table.
use Rattle.std.proofs.Common.{◌≡◌, ℕ, ◌≤◌, ◌&&◌, ◌||◌, Bool, true, false, List, length, Some, None, refl, sym, ap, ◌∙◌, arith, subst}
use Rattle.std.specs.Prelude.{slice_get}
use Rattle.sched_time.specs.Times.{longest}
use Rattle.queue_code.specs.Calls.{Planned}
use Rattle.executor_model.specs.declared.types.Happening.{Happening}
use Rattle.executor_model.specs.declared.types.Happening.TheVariants as h
use Rattle.executor_model.specs.declared.types.Answer.{Answer}
use Rattle.executor_model.specs.declared.types.Answer.TheVariants as a
use Rattle.executor_model.specs.declared.types.Refusal.{Refusal}
use Rattle.executor_model.specs.declared.task.Task.{Task}
use Rattle.executor_model.specs.Answers.{Reply, bare}
use Rattle.executor_model.specs.Histories.{HistoryEntry, happenings, made_after, is_shutdown, MayCome}
use Rattle.executor_model.specs.State.{State, vacant, after, next, reply_of, task_after}
use Rattle.executor_model.specs.own.Soundness.{NoneDelayed}
use Rattle.executor_model.proofs.Agree.{after_agrees, next_none_delayed}
use Rattle.task_table.specs.Seats.{slot_of}
use Rattle.task_table.specs.Tables.{TableView, Takes as TableTakes}
use Rattle.task_table.proofs.Standing.{Known}
use Rattle.task_table.proofs.Vacancy.{NextIsOther, still_vacant}
use Rattle.executor_core.specs.CoreView.{CoreView, workers_of, state_of}
use Rattle.executor_core.specs.own.Invariants.{core_of, ArePlaced, IsReached, IsCore}
use Rattle.executor_core.specs.own.OwnSteps.{Takes}
use Rattle.executor_core.proofs.Reaching.{count_tasks, core_known, longer, reaches, core_steps}

-- ---- what is not submitted by a step is vacant after it

-- in each empty slot of the table after a step
abbrev pub StaysGone : List Planned → TableView → TableView → List HistoryEntry → Happening → Type 0
StaysGone calls t u past y = (i : ℕ) → slot_of u.slots i ≡ None → (next calls (length t.work) (after calls (length t.work) (happenings past)) y).tasks i ≡ vacant

-- where the next call submits none of these
pub stays_gone : (calls : List Planned) (count : ℕ) (t u : TableView) (past : List HistoryEntry) (y : Happening) → IsReached calls count t past →
    ((i : ℕ) → slot_of u.slots i ≡ None → (slot_of t.slots i ≡ None) × NextIsOther calls (after calls (length t.work) (happenings past)) i y) → StaysGone calls t u past y
stays_gone calls count t u past y reached empty i q =
    let e = empty i q in still_vacant calls (length t.work) (after calls (length t.work) (happenings past)) i y (after_agrees calls (length t.work) past reached.stands.means).sound (reached.gone i e.0) e.1

-- where the submission is refused
pub refused_gone : (calls : List Planned) (count k : ℕ) (why : Refusal) (t u : TableView) (past : List HistoryEntry) → IsReached calls count t past → u.slots ≡ t.slots →
    reply_of calls (length t.work) (after calls (length t.work) (happenings past)) h.Call ≡ bare (a.Refuse k why) → StaysGone calls t u past h.Call
refused_gone calls count k why t u past reached same said i q =
    let s = after calls (length t.work) (happenings past) in
    let there : s.tasks i ≡ vacant = reached.gone i (ap (λ slots. slot_of slots i) (sym same) ∙ q) in
    ap (λ (r : Reply). task_after calls s r i) said ∙ ap (λ (x : Task). record x { kept = (x.kept && true) || false }) there

-- ---- the step

-- a core takes the step that its table takes, where it is answered so
pub lands : (calls : List Planned) (limit taken count more : ℕ) (t u : TableView) (sought : Bool) (y : Happening) (answer : Answer) (f : IsCore (core_of calls limit taken count t) t sought) → MayCome calls (happenings f.past) y →
    length u.work ≡ length t.work → TableTakes u calls f.past y (bare answer) → StaysGone calls t u f.past y → ArePlaced taken u.slots → more ≡ made_after count y → Takes (core_of calls limit taken count t) (core_of calls limit taken more u) y answer
lands calls limit taken count more t u sought y answer f comes width takes gone placed made =
    let steps = core_steps calls limit taken count t u f.past y (bare answer) f.reached f.placed comes width takes gone placed in
    record {
      calls = refl;
      limit = refl;
      taken = refl;
      workers = width;
      state = ap (λ n. state_of (core_of calls limit taken n u)) made ∙ steps.state;
      said = steps.said;
    }

-- no delayed task comes once there is none
pub stays_sought : (m n : CoreView) (y : Happening) (sought : Bool) → Known m.calls (state_of m) → (sought ≡ true → (m.shut ≡ true) × NoneDelayed (state_of m)) → state_of n ≡ next m.calls (workers_of m) (state_of m) y →
    sought ≡ true → (n.shut ≡ true) × NoneDelayed (state_of n)
stays_sought m n y sought knows delayed step is =
    let old = delayed is in
    let r = reply_of m.calls (workers_of m) (state_of m) y in (
      ap (λ (s : State). s.shut) step ∙ either (is_shutdown r.answer) m.shut old.0,
      subst NoneDelayed (sym step) (next_none_delayed m.calls (workers_of m) (state_of m) y knows.sound knows.timing old.0 old.1),
    )
  where
    either : (p q : Bool) → q ≡ true → (p || q) ≡ true
    either true q e = refl
    either false q e = e

-- what is true of a core stays so, after a step that its table takes
pub stays_with : (calls : List Planned) (limit taken count more : ℕ) (t u : TableView) (sought after_it : Bool) (y : Happening) (r : Reply) (f : IsCore (core_of calls limit taken count t) t sought) → MayCome calls (happenings f.past) y →
    length u.work ≡ length t.work → TableTakes u calls f.past y r → StaysGone calls t u f.past y → ArePlaced taken u.slots → more ≡ made_after count y →
    length u.slots ≡ length t.slots → u.moment ≤ longest → more ≤ length calls → ((p : Planned) → slice_get calls more ≡ Some p → u.moment ≤ p.0) →
    (after_it ≡ true → (u.shut ≡ true) × NoneDelayed (state_of (core_of calls limit taken more u))) → IsCore (core_of calls limit taken more u) u after_it
stays_with calls limit taken count more t u sought after_it y r f comes width takes gone placed made size moment within ahead delayed = record {
  shown = refl;
  orderly = f.orderly;
  made = within;
  few = omega (arith, f.few, width);
  taken = f.taken;
  moment = moment;
  ahead = ahead;
  count = count_tasks u.slots ∙ (size ∙ (sym (count_tasks t.slots) ∙ f.count));
  past = longer calls (length t.work) f.past y;
  reached = subst (λ n. IsReached calls n u (longer calls (length t.work) f.past y)) (sym made) (reaches calls count t u f.past y r f.reached comes width takes gone);
  placed = placed;
  delayed = delayed;
}

pub stays : (calls : List Planned) (limit taken count more : ℕ) (t u : TableView) (sought : Bool) (y : Happening) (r : Reply) (f : IsCore (core_of calls limit taken count t) t sought) → MayCome calls (happenings f.past) y →
    length u.work ≡ length t.work → TableTakes u calls f.past y r → StaysGone calls t u f.past y → ArePlaced taken u.slots → more ≡ made_after count y →
    length u.slots ≡ length t.slots → u.moment ≤ longest → more ≤ length calls → ((p : Planned) → slice_get calls more ≡ Some p → u.moment ≤ p.0) → IsCore (core_of calls limit taken more u) u sought
stays calls limit taken count more t u sought y r f comes width takes gone placed made size moment within ahead =
    let steps = core_steps calls limit taken count t u f.past y r f.reached f.placed comes width takes gone placed in
    stays_with calls limit taken count more t u sought sought y r f comes width takes gone placed made size moment within ahead
    (stays_sought (core_of calls limit taken count t) (core_of calls limit taken more u) y sought (core_known calls limit taken count t f.past f.reached f.placed) f.delayed
    (ap (λ n. state_of (core_of calls limit taken n u)) made ∙ steps.state))
