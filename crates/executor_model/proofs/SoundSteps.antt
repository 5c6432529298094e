-- A sound state stays sound after each answer.
use Rattle.std.proofs.Common.{◌≡◌, ℕ, ◌^◌, ◌≤◌, ◌&&◌, ◌||◌, ◌==◌, nat_le, Bool, true, false, cond, inl, inr, List, Option, Some, None, refl, sym, ap, ◌∙◌, arith, subst}
use Rattle.std.specs.Prelude.{slice_get, not}
use Rattle.std.proofs.lemmas.Bool.{false≢true, eqb-true, eq-eqb, and_parts, or_cases, or_left, leb-true}
use Rattle.std.proofs.lemmas.Bool.Decides.{nat_tests}
use Rattle.std.proofs.lemmas.Option.{none-some, same_Some}
use Rattle.executor_model.specs.declared.types.Happening.{Happening}
use Rattle.executor_model.specs.declared.types.Happening.TheVariants as h
use Rattle.executor_model.specs.declared.types.Outcome.{Outcome}
use Rattle.executor_model.specs.declared.types.Outcome.TheVariants as o
use Rattle.executor_model.specs.declared.types.Answer.{Answer}
use Rattle.executor_model.specs.declared.types.Answer.TheVariants as a
use Rattle.executor_model.specs.declared.task.Stage.{Stage}
use Rattle.executor_model.specs.declared.task.Stage.TheVariants as ph
use Rattle.executor_model.specs.declared.task.Task.{Task}
use Rattle.sched_time.specs.declared.timing.Timing.{Timing}
use Rattle.queue_code.specs.Calls.{Planned, terms_of}
use Rattle.executor_model.specs.View.{View, is_waiting}
use Rattle.executor_model.specs.Answers.{Reply, is_accepted, moment_after}
use Rattle.executor_model.specs.Histories.{is_cancel, is_end, is_finish_with, is_ended, is_sweep, meets, kept_after, cancels, work_after}
use Rattle.executor_model.specs.State.{State, view_of_state, state_after, move_task, submit_phase, finish_task}
use Rattle.executor_model.specs.own.Soundness.{IsSound}
use Rattle.executor_model.proofs.Sound.{Finds, or_right, waits_in}

-- ---- a sound state stays sound

-- the phase after a move, where the test of the number is a variable
running_stays : (b : Bool) (timing : Timing) (due : ℕ) (task : Task) → task.phase ≡ ph.Running → (cond b (submit_phase timing due task.phase task) task).phase ≡ ph.Running
running_stays true timing due task q = subst (λ p. (submit_phase timing due p task).phase ≡ ph.Running) (sym q) q
running_stays false timing due task q = q

started_runs : (b : Bool) (task : Task) → task.phase ≡ ph.Running → (cond b (record task { phase = ph.Running }) task).phase ≡ ph.Running
started_runs true task q = refl
started_runs false task q = q

abbrev phase_after : List Planned → State → Answer → ℕ → Stage
phase_after calls s answer k = (move_task (terms_of calls k).timing s.moment k answer (s.tasks k)).phase

at_work_after : (calls : List Planned) (s : State) (answer : Answer) → IsSound s → Finds calls s answer → (w k : ℕ) → work_after w answer (s.workers w) ≡ Some k → phase_after calls s answer k ≡ ph.Running
at_work_after calls s (a.Submit j kind due) sound f w k q = running_stays (j == k) (terms_of calls k).timing due (s.tasks k) (sound.at_work w k q)
at_work_after calls s (a.Start v j n due) sound f w k q =
    let pick : (b : Bool) → cond b (Some j) (s.workers w) ≡ Some k → phase_after calls s (a.Start v j n due) k ≡ ph.Running =
    elim [
      | true ↦ λ q. ap (λ b. (cond b (record (s.tasks k) { phase = ph.Running }) (s.tasks k)).phase) (eq-eqb j k (same_Some j k q))
      | false ↦ λ q. started_runs (j == k) (s.tasks k) (sound.at_work w k q)
    ]
    in
    pick (v == w) q
at_work_after calls s (a.Finish v j n outcome) sound f w k q =
    let runs : (c : Bool) → (j == k) ≡ c → (v == w) ≡ false → s.workers w ≡ Some k → (cond c (finish_task (terms_of calls k).timing s.moment outcome (s.tasks k)) (s.tasks k)).phase ≡ ph.Running =
    elim [
      | true ↦ λ same apart q. absurd (false≢true (sym apart ∙ eq-eqb v w (sound.apart v w k (f.0 ∙ ap Some (eqb-true j k same)) q)))
      | false ↦ λ same apart q. sound.at_work w k q
    ]
    in
    let pick : (b : Bool) → (v == w) ≡ b → cond b None (s.workers w) ≡ Some k → phase_after calls s (a.Finish v j n outcome) k ≡ ph.Running =
    elim [ true ↦ λ is q. absurd (none-some k q) | false ↦ λ is q. runs (j == k) refl is q ]
    in
    pick (v == w) refl q
at_work_after calls s _ sound f w k q = sound.at_work w k q

-- no finish leaves a run under way
pub no_run_again : (timing : Timing) (now : ℕ) (outcome : Outcome) (task : Task) → (finish_task timing now outcome task).phase ≡ ph.Running → ⊥
no_run_again timing now (o.Done value) task q = cc
no_run_again timing now (o.Failed code) task q = cc
no_run_again timing now o.Dropped task q = cc
no_run_again timing now o.Ended task q = cc
no_run_again timing now (o.Again due) task q = cc

-- a task that runs after an answer is that of a worker
staffed_after : (calls : List Planned) (s : State) (answer : Answer) → IsSound s → Finds calls s answer → (k : ℕ) → phase_after calls s answer k ≡ ph.Running → (w : ℕ) × (work_after w answer (s.workers w) ≡ Some k)
staffed_after calls s (a.Submit j kind due) sound f k = λ q. sound.staffed k (submitted (j == k) q)
  where
    unsubmitted : (p : Stage) (task : Task) → task.phase ≡ p → (submit_phase (terms_of calls k).timing due p task).phase ≡ ph.Running → task.phase ≡ ph.Running
    unsubmitted ph.Vacant task is q = absurd cc
    unsubmitted ph.Waiting task is q = q
    unsubmitted ph.Running task is q = q
    unsubmitted ph.Done task is q = q
    unsubmitted ph.Failed task is q = q
    unsubmitted ph.Dropped task is q = q

    submitted : (b : Bool) → (cond b (submit_phase (terms_of calls k).timing due (s.tasks k).phase (s.tasks k)) (s.tasks k)).phase ≡ ph.Running → (s.tasks k).phase ≡ ph.Running
    submitted true q = unsubmitted (s.tasks k).phase (s.tasks k) refl q
    submitted false q = q
staffed_after calls s (a.Start v j n due) sound f k = λ q. by (j == k) refl q
  where
    other : (w : ℕ) (b : Bool) → (v == w) ≡ b → s.workers w ≡ Some k → cond b (Some j) (s.workers w) ≡ Some k
    other w true same q = absurd (none-some k (sym f.0 ∙ (ap s.workers (eqb-true v w same) ∙ q)))
    other w false apart q = q

    by : (b : Bool) → (j == k) ≡ b → (cond b (record (s.tasks k) { phase = ph.Running }) (s.tasks k)).phase ≡ ph.Running → (w : ℕ) × (work_after w (a.Start v j n due) (s.workers w) ≡ Some k)
    by true same q = (v, ap (λ b. cond b (Some j) (s.workers v)) (eq-eqb v v refl) ∙ ap Some (eqb-true j k same))
    by false apart q = let old = sound.staffed k q in (old.0, other old.0 (v == old.0) refl old.1)
staffed_after calls s (a.Finish v j n outcome) sound f k = λ q. by (j == k) refl q
  where
    other : (w : ℕ) (b : Bool) → (v == w) ≡ b → (j == k) ≡ false → s.workers w ≡ Some k → cond b None (s.workers w) ≡ Some k
    other w true same apart q = absurd (false≢true (sym apart ∙ eq-eqb j k (same_Some j k (sym f.0 ∙ (ap s.workers (eqb-true v w same) ∙ q)))))
    other w false same apart q = q

    by : (b : Bool) → (j == k) ≡ b → (cond b (finish_task (terms_of calls k).timing s.moment outcome (s.tasks k)) (s.tasks k)).phase ≡ ph.Running → (w : ℕ) × (work_after w (a.Finish v j n outcome) (s.workers w) ≡ Some k)
    by true same q = absurd (no_run_again (terms_of calls k).timing s.moment outcome (s.tasks k) q)
    by false apart q = let old = sound.staffed k q in (old.0, other old.0 (v == old.0) refl apart old.1)
staffed_after calls s _ sound f k = sound.staffed k

apart_after : (calls : List Planned) (s : State) (answer : Answer) → IsSound s → Finds calls s answer → (v w k : ℕ) →
    work_after v answer (s.workers v) ≡ Some k → work_after w answer (s.workers w) ≡ Some k → v ≡ w
apart_after calls s (a.Start u j n due) sound f v w k p q =
    let clash : (x : ℕ) → j ≡ k → s.workers x ≡ Some k → v ≡ w = λ x same busy.
    let both : ph.Waiting ≡ ph.Running = sym f.1 ∙ (ap (λ i. (s.tasks i).phase) same ∙ sound.at_work x k busy) in absurd cc
    in
    let pick : (b c : Bool) → (u == v) ≡ b → (u == w) ≡ c → cond b (Some j) (s.workers v) ≡ Some k → cond c (Some j) (s.workers w) ≡ Some k → v ≡ w =
    elim [
      | true ↦ elim [ true ↦ λ x y p q. sym (eqb-true u v x) ∙ eqb-true u w y | false ↦ λ x y p q. clash w (same_Some j k p) q ]
      | false ↦ elim [ true ↦ λ x y p q. clash v (same_Some j k q) p | false ↦ λ x y p q. sound.apart v w k p q ]
    ]
    in
    pick (u == v) (u == w) refl refl p q
apart_after calls s (a.Finish u j n outcome) sound f v w k p q =
    let pick : (b c : Bool) → cond b None (s.workers v) ≡ Some k → cond c None (s.workers w) ≡ Some k → v ≡ w =
    elim [
      | true ↦ λ c p q. absurd (none-some k p)
      | false ↦ elim [ true ↦ λ p q. absurd (none-some k q) | false ↦ λ p q. sound.apart v w k p q ]
    ]
    in
    pick (u == v) (u == w) p q
apart_after calls s _ sound f v w k p q = sound.apart v w k p q

-- now does not fall
pub later : (now : ℕ) (next : Option Planned) (happening : Happening) → now ≤ moment_after now next happening
later now None h.Call = omega arith
later now (Some p) h.Call = grind (arith, nat_tests)
later now next (h.Clock moment) =
    let pick : (b : Bool) → is_accepted now moment ≡ b → now ≤ cond b moment now =
    elim [
      | true ↦ λ is. leb-true now moment (and_parts (nat_le now moment) (nat_le moment (2 ^ 62)) is).0
      | false ↦ λ is. omega arith
    ]
    in
    pick (is_accepted now moment) refl
later now next (h.Start worker) = omega arith
later now next (h.Finish worker ending) = omega arith
later now next (h.Cancel task) = omega arith
later now next h.Purge = omega arith

-- the due moment of a task that runs after an answer was reached
run_reached : (calls : List Planned) (s : State) (answer : Answer) → IsSound s → Finds calls s answer → (k : ℕ) → phase_after calls s answer k ≡ ph.Running →
    (move_task (terms_of calls k).timing s.moment k answer (s.tasks k)).due ≤ s.moment
run_reached calls s (a.Submit j kind due) sound f k =
    let pick : (b : Bool) → (cond b (submit_phase (terms_of calls k).timing due (s.tasks k).phase (s.tasks k)) (s.tasks k)).phase ≡ ph.Running → (cond b (submit_phase (terms_of calls k).timing due (s.tasks k).phase (s.tasks k)) (s.tasks k)).due ≤ s.moment =
    elim [ true ↦ λ q. unsubmitted (s.tasks k).phase (s.tasks k) refl q | false ↦ λ q. sound.reached k q ]
    in
    pick (j == k)
  where
    unsubmitted : (p : Stage) (task : Task) → task ≡ s.tasks k → (submit_phase (terms_of calls k).timing due p task).phase ≡ ph.Running → (submit_phase (terms_of calls k).timing due p task).due ≤ s.moment
    unsubmitted ph.Vacant task is q = absurd cc
    unsubmitted ph.Waiting task is q = subst (λ (x : Task). x.due ≤ s.moment) (sym is) (sound.reached k (sym (ap (λ (x : Task). x.phase) is) ∙ q))
    unsubmitted ph.Running task is q = subst (λ (x : Task). x.due ≤ s.moment) (sym is) (sound.reached k (sym (ap (λ (x : Task). x.phase) is) ∙ q))
    unsubmitted ph.Done task is q = subst (λ (x : Task). x.due ≤ s.moment) (sym is) (sound.reached k (sym (ap (λ (x : Task). x.phase) is) ∙ q))
    unsubmitted ph.Failed task is q = subst (λ (x : Task). x.due ≤ s.moment) (sym is) (sound.reached k (sym (ap (λ (x : Task). x.phase) is) ∙ q))
    unsubmitted ph.Dropped task is q = subst (λ (x : Task). x.due ≤ s.moment) (sym is) (sound.reached k (sym (ap (λ (x : Task). x.phase) is) ∙ q))
run_reached calls s (a.Start w j n due) sound f k =
    let pick : (b : Bool) → (j == k) ≡ b → (cond b (record (s.tasks k) { phase = ph.Running }) (s.tasks k)).phase ≡ ph.Running → (cond b (record (s.tasks k) { phase = ph.Running }) (s.tasks k)).due ≤ s.moment =
    elim [ true ↦ λ same q. subst (λ i. (s.tasks i).due ≤ s.moment) (eqb-true j k same) f.3 | false ↦ λ apart q. sound.reached k q ]
    in
    pick (j == k) refl
run_reached calls s (a.Finish w j n outcome) sound f k =
    let pick : (b : Bool) → (cond b (finish_task (terms_of calls k).timing s.moment outcome (s.tasks k)) (s.tasks k)).phase ≡ ph.Running →
    (cond b (finish_task (terms_of calls k).timing s.moment outcome (s.tasks k)) (s.tasks k)).due ≤ s.moment =
    elim [ true ↦ λ q. absurd (no_run_again (terms_of calls k).timing s.moment outcome (s.tasks k) q) | false ↦ λ q. sound.reached k q ]
    in
    pick (j == k)
run_reached calls s _ sound f k = sound.reached k

-- a task whose run was dropped was cancelled, also after an answer
over_after : (calls : List Planned) (s : State) (r : Reply) → IsSound s → Finds calls s r.answer → (k : ℕ) → phase_after calls s r.answer k ≡ ph.Dropped → (cancels k r.answer r.ends || (s.tasks k).cancelled) ≡ true
over_after calls s r sound f k q = by r.answer refl f q
  where
    old : (answer : Answer) → (s.tasks k).phase ≡ ph.Dropped → (cancels k answer r.ends || (s.tasks k).cancelled) ≡ true
    old answer q = or_right (cancels k answer r.ends) (s.tasks k).cancelled (sound.over k q)

    unsubmitted : (due : ℕ) (p : Stage) (task : Task) → task.phase ≡ p → (submit_phase (terms_of calls k).timing due p task).phase ≡ ph.Dropped → task.phase ≡ ph.Dropped
    unsubmitted due ph.Vacant task is q = absurd cc
    unsubmitted due ph.Waiting task is q = q
    unsubmitted due ph.Running task is q = q
    unsubmitted due ph.Done task is q = q
    unsubmitted due ph.Failed task is q = q
    unsubmitted due ph.Dropped task is q = q

    submitted : (b : Bool) (due : ℕ) → (cond b (submit_phase (terms_of calls k).timing due (s.tasks k).phase (s.tasks k)) (s.tasks k)).phase ≡ ph.Dropped → (s.tasks k).phase ≡ ph.Dropped
    submitted true due q = unsubmitted due (s.tasks k).phase (s.tasks k) refl q
    submitted false due q = q

    started_over : (b : Bool) → (cond b (record (s.tasks k) { phase = ph.Running }) (s.tasks k)).phase ≡ ph.Dropped → (s.tasks k).phase ≡ ph.Dropped
    started_over true q = absurd cc
    started_over false q = q

    ended : (w j n : ℕ) (outcome : Outcome) (b : Bool) → (j == k) ≡ b → Finds calls s (a.Finish w j n outcome) →
        (cond b (finish_task (terms_of calls k).timing s.moment outcome (s.tasks k)) (s.tasks k)).phase ≡ ph.Dropped →
        ((false || (is_end k r.ends || (b && is_ended outcome))) || (s.tasks k).cancelled) ≡ true
    ended w j n (o.Done value) true same f q = absurd cc
    ended w j n (o.Failed code) true same f q = absurd cc
    ended w j n o.Dropped true same f q = or_right (is_end k r.ends || false) (s.tasks k).cancelled (subst (λ i. (s.tasks i).cancelled ≡ true) (eqb-true j k same) (f.1 refl))
    ended w j n o.Ended true same f q = ap (λ b. b || (s.tasks k).cancelled) (or_right (is_end k r.ends) true refl)
    ended w j n (o.Again next) true same f q = absurd cc
    ended w j n outcome false same f q = or_right (is_end k r.ends || false) (s.tasks k).cancelled (sound.over k q)

    by : (answer : Answer) → answer ≡ r.answer → Finds calls s answer → phase_after calls s answer k ≡ ph.Dropped → (cancels k answer r.ends || (s.tasks k).cancelled) ≡ true
    by (a.Submit j kind due) is f q = old (a.Submit j kind due) (submitted (j == k) due q)
    by (a.Start w j n due) is f q = old (a.Start w j n due) (started_over (j == k) q)
    by (a.Finish w j n outcome) is f q = ended w j n outcome (j == k) refl f q
    by answer is f q = old answer q

-- a kept task was cancelled while it waited, also after an answer
kept_sound : (calls : List Planned) (s : State) (r : Reply) → IsSound s → Finds calls s r.answer → (k : ℕ) → kept_after (view_of_state calls s) k r.answer ≡ true →
    (phase_after calls s r.answer k ≡ ph.Waiting) × ((cancels k r.answer r.ends || (s.tasks k).cancelled) ≡ true)
kept_sound calls s r sound f k q = by r.answer f q
  where
    v : View
    v = view_of_state calls s

    -- what was kept
    old : (answer : Answer) → phase_after calls s answer k ≡ (s.tasks k).phase → (s.tasks k).kept ≡ true → (phase_after calls s answer k ≡ ph.Waiting) × ((cancels k answer r.ends || (s.tasks k).cancelled) ≡ true)
    old answer same kept = (same ∙ (sound.kept k kept).0, or_right (cancels k answer r.ends) (s.tasks k).cancelled (sound.kept k kept).1)

    -- what is kept after an answer that cancels nothing was kept before
    before : (answer : Answer) → is_cancel k answer ≡ false → kept_after v k answer ≡ true → (s.tasks k).kept ≡ true
    before answer none q =
        let parts = and_parts (not (is_sweep s.shut answer)) (((s.tasks k).kept && not (meets v (v.fate k).due k answer)) || (is_cancel k answer && (is_waiting (v.fate k) && not s.policies.removes))) q in
        elim (or_cases ((s.tasks k).kept && not (meets v (v.fate k).due k answer)) (is_cancel k answer && (is_waiting (v.fate k) && not s.policies.removes)) parts.1) [
          | inl x ↦ (and_parts (s.tasks k).kept (not (meets v (v.fate k).due k answer)) x).0
          | inr x ↦ absurd (false≢true (sym none ∙ (and_parts (is_cancel k answer) (is_waiting (v.fate k) && not s.policies.removes) x).0))
        ]

    -- a cancel
    cancel : (answer : Answer) → phase_after calls s answer k ≡ (s.tasks k).phase → kept_after v k answer ≡ true → (phase_after calls s answer k ≡ ph.Waiting) × ((cancels k answer r.ends || (s.tasks k).cancelled) ≡ true)
    cancel answer same q =
        let rest = is_waiting (v.fate k) && not s.policies.removes in
        let parts = and_parts (not (is_sweep s.shut answer)) (((s.tasks k).kept && not (meets v (v.fate k).due k answer)) || (is_cancel k answer && rest)) q in
        elim (or_cases ((s.tasks k).kept && not (meets v (v.fate k).due k answer)) (is_cancel k answer && rest) parts.1) [
          | inl x ↦ old answer same (and_parts (s.tasks k).kept (not (meets v (v.fate k).due k answer)) x).0
          | inr x ↦
              let both = and_parts (is_cancel k answer) rest x in
              let waiting = and_parts (is_waiting (v.fate k)) (not s.policies.removes) both.1 in
              (same ∙ (waits_in calls s k sound waiting.0).0, or_left (cancels k answer r.ends) (s.tasks k).cancelled (or_left (is_cancel k answer) (is_end k r.ends || is_finish_with is_ended k answer) both.0))
        ]

    submit_vacant : (p : Stage) (due : ℕ) (task : Task) → task.phase ≡ p → p ≡ ph.Waiting → (submit_phase (terms_of calls k).timing due p task).phase ≡ p
    submit_vacant p due task is w = subst (λ x. (submit_phase (terms_of calls k).timing due x task).phase ≡ x) (sym w) (is ∙ w)

    submitted : (b : Bool) (due : ℕ) → (s.tasks k).phase ≡ ph.Waiting → (cond b (submit_phase (terms_of calls k).timing due (s.tasks k).phase (s.tasks k)) (s.tasks k)).phase ≡ (s.tasks k).phase
    submitted true due w = submit_vacant (s.tasks k).phase due (s.tasks k) refl w
    submitted false due w = refl

    -- a kept task is not the one that an answer starts or finishes
    apart_start : (j n due w : ℕ) (b : Bool) → (j == k) ≡ b → Finds calls s (a.Start w j n due) → (s.tasks k).kept ≡ true → (cond b (record (s.tasks k) { phase = ph.Running }) (s.tasks k)).phase ≡ (s.tasks k).phase
    apart_start j n due w true same f kept = absurd (false≢true (sym (subst (λ i. (s.tasks i).cancelled ≡ false) (eqb-true j k same) f.2) ∙ (sound.kept k kept).1))
    apart_start j n due w false same f kept = refl

    apart_finish : (j n w : ℕ) (outcome : Outcome) (b : Bool) → (j == k) ≡ b → Finds calls s (a.Finish w j n outcome) → (s.tasks k).kept ≡ true → (cond b (finish_task (terms_of calls k).timing s.moment outcome (s.tasks k)) (s.tasks k)).phase ≡ (s.tasks k).phase
    apart_finish j n w outcome true same f kept =
        let clash : ph.Running ≡ ph.Waiting = sym (subst (λ i. (s.tasks i).phase ≡ ph.Running) (eqb-true j k same) (sound.at_work w j f.0)) ∙ (sound.kept k kept).0 in absurd cc
    apart_finish j n w outcome false same f kept = refl

    by : (answer : Answer) → Finds calls s answer → kept_after v k answer ≡ true → (phase_after calls s answer k ≡ ph.Waiting) × ((cancels k answer r.ends || (s.tasks k).cancelled) ≡ true)
    by (a.Submit j kind due) f q = let kept = before (a.Submit j kind due) refl q in old (a.Submit j kind due) (submitted (j == k) due (sound.kept k kept).0) kept
    by (a.Start w j n due) f q = let kept = before (a.Start w j n due) refl q in old (a.Start w j n due) (apart_start j n due w (j == k) refl f kept) kept
    by (a.Finish w j n outcome) f q = let kept = before (a.Finish w j n outcome) refl q in old (a.Finish w j n outcome) (apart_finish j n w outcome (j == k) refl f kept) kept
    by answer f q = cancel answer refl q

-- a sound state stays sound
pub sound_stays : (calls : List Planned) (s : State) (happening : Happening) (r : Reply) → IsSound s → Finds calls s r.answer → IsSound (state_after calls s happening r)
sound_stays calls s happening r sound f = record {
  at_work = at_work_after calls s r.answer sound f;
  apart = apart_after calls s r.answer sound f;
  staffed = staffed_after calls s r.answer sound f;
  over = over_after calls s r sound f;
  kept = kept_sound calls s r sound f;
  reached = λ k runs. omega (arith, run_reached calls s r.answer sound f k runs, later s.moment (slice_get calls s.made) happening);
}
