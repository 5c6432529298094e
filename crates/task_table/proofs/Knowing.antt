-- What is known where a history of some calls leads.
use Rattle.std.proofs.Common.{◌≡◌, ◌≢◌, ℕ, ◌+◌, ◌<◌, ◌≤◌, ◌==◌, nat_le, zero, suc, Bool, true, false, cond, List, [], ◌∷◌, take, Some, refl, sym, ap, ◌∙◌, arith, subst}
use Rattle.std.proofs.lemmas.Bool.{eqb-true, false_from_ne_true, leb-true}
use Rattle.std.proofs.lemmas.Bool.Decides.{nat_tests}
use Rattle.queue_code.specs.Calls.{Planned, IsOrderly, Terms, task_count, terms_of, submits_task}
use Rattle.executor_model.specs.declared.types.Happening.{Happening}
use Rattle.executor_model.specs.declared.types.Happening.TheVariants as h
use Rattle.executor_model.specs.declared.types.Answer.{Answer}
use Rattle.executor_model.specs.declared.types.Answer.TheVariants as a
use Rattle.executor_model.specs.declared.types.Outcome.{Outcome}
use Rattle.executor_model.specs.declared.types.Outcome.TheVariants as o
use Rattle.executor_model.specs.declared.task.Stage.{Stage}
use Rattle.executor_model.specs.declared.task.Stage.TheVariants as ph
use Rattle.executor_model.specs.declared.task.Task.{Task}
use Rattle.executor_model.specs.Histories.{HistoryEntry, happenings, made, made_after, is_call, IsHistoryOf}
use Rattle.executor_model.specs.State.{State, vacant, after, next, reply_of, move_task, submit_phase, finish_task, end_task, due_past}
use Rattle.executor_model.specs.own.Soundness.{IsDue, TimingsAgree}
use Rattle.executor_model.proofs.Moves.{Fits}
use Rattle.executor_model.proofs.Sound.{reply_finds, fits_all}
use Rattle.executor_model.proofs.Agree.{after_agrees}
use Rattle.executor_model.proofs.Views.{look_is_due}
use Rattle.executor_model.proofs.Tables.{submission, count_grows}
use Rattle.task_table.proofs.Standing.{Known, made_there, view_there}
use Rattle.task_table.proofs.Vacancy.{NextIsOther, still_vacant}

-- ---- timings

ended_timing : (outcome : Outcome) (due : ℕ) (task : Task) → (end_task outcome due task).timing ≡ task.timing
ended_timing (o.Done value) due task = refl
ended_timing (o.Failed code) due task = refl
ended_timing o.Dropped due task = refl
ended_timing o.Ended due task = refl
ended_timing (o.Again next) due task = refl

-- an answer leaves a task with the timing of its terms
moved_timing : (terms : Terms) (now k : ℕ) (answer : Answer) (task : Task) → Fits terms now k task answer → (task.phase ≢ ph.Vacant → task.timing ≡ terms.timing) →
    (move_task terms.timing now k answer task).phase ≢ ph.Vacant → (move_task terms.timing now k answer task).timing ≡ terms.timing
moved_timing terms now k (a.Submit j kind due) task fits agree = by (j == k)
  where
    submitted : (p : Stage) → (submit_phase terms.timing due p task).phase ≢ ph.Vacant → (submit_phase terms.timing due p task).timing ≡ terms.timing
    submitted ph.Vacant used = refl
    submitted p used = agree used

    by : (b : Bool) → (cond b (submit_phase terms.timing due task.phase task) task).phase ≢ ph.Vacant → (cond b (submit_phase terms.timing due task.phase task) task).timing ≡ terms.timing
    by true used = submitted task.phase used
    by false used = agree used
moved_timing terms now k (a.Start w j run due) task fits agree = by (j == k) refl
  where
    by : (b : Bool) → (j == k) ≡ b → (cond b (record task { phase = ph.Running }) task).phase ≢ ph.Vacant → (cond b (record task { phase = ph.Running }) task).timing ≡ terms.timing
    by true is used = agree (λ e. let clash : ph.Waiting ≡ ph.Vacant = sym (fits is) ∙ e in cc)
    by false is used = agree used
moved_timing terms now k (a.Finish w j run outcome) task fits agree = by (j == k) refl
  where
    by : (b : Bool) → (j == k) ≡ b → (cond b (finish_task terms.timing now outcome task) task).phase ≢ ph.Vacant → (cond b (finish_task terms.timing now outcome task) task).timing ≡ terms.timing
    by true is used = ended_timing outcome (due_past terms.timing task.due now) task ∙ agree (λ e. let clash : ph.Running ≡ ph.Vacant = sym (fits is) ∙ e in cc)
    by false is used = agree used
moved_timing terms now k answer task fits agree = agree

-- each task that was submitted has the timing of its terms, wherever a history leads
timings : (calls : List Planned) (workers : ℕ) (past : List HistoryEntry) → IsHistoryOf calls workers past → TimingsAgree calls (after calls workers (happenings past))
timings calls workers [] means = λ k used. absurd (used refl)
timings calls workers (e ∷ past) means = λ k.
    let s = after calls workers (happenings past) in
    let sound = (after_agrees calls workers past means.0).sound in
    let answer = (reply_of calls workers s e.happening).answer in
    moved_timing (terms_of calls k) s.moment k answer (s.tasks k) (fits_all calls s answer sound (reply_finds calls workers s e.happening sound) k) (timings calls workers past means.0 k)

-- ---- what no call made submits is vacant

-- a submission that is next has a number below those that are not submitted after it
next_is_other : (calls : List Planned) (s : State) (n : ℕ) (y : Happening) → IsOrderly calls → task_count (take (made_after s.made y) calls) ≤ n → NextIsOther calls s n y
next_is_other calls s n h.Call orderly above = λ p is task timing delay e.
    let sub = submission calls 0 0 s.made p.0 task timing delay orderly (is ∙ ap (λ call. Some (p.0, call)) e) in
    let one : 1 + s.made ≡ suc s.made = omega arith in
    let front : task_count (take (1 + s.made) calls) ≡ task_count (take (suc s.made) calls) = ap (λ m. task_count (take m calls)) one in
    false_from_ne_true (task == n) (λ same. absurd (omega (arith, above, front, sub.more, eqb-true task n same)))
next_is_other calls s n (h.Clock t) orderly above = tt
next_is_other calls s n (h.Start w) orderly above = tt
next_is_other calls s n (h.Finish w ending) orderly above = tt
next_is_other calls s n (h.Cancel k) orderly above = tt
next_is_other calls s n h.Purge orderly above = tt

count_later : (calls : List Planned) (count : ℕ) (y : Happening) → task_count (take count calls) ≤ task_count (take (made_after count y) calls)
count_later calls count y = by (is_call y)
  where
    by : (b : Bool) → task_count (take count calls) ≤ task_count (take (cond b (1 + count) count) calls)
    by true =
        let one : 1 + count ≡ suc count = omega arith in
        let front : task_count (take (1 + count) calls) ≡ task_count (take (suc count) calls) = ap (λ m. task_count (take m calls)) one in
        omega (arith, front, count_grows calls count)
    by false = omega arith

fresh_there : (calls : List Planned) (workers : ℕ) (past : List HistoryEntry) → IsOrderly calls → IsHistoryOf calls workers past → (k : ℕ) →
    task_count (take (made (happenings past)) calls) ≤ k → (after calls workers (happenings past)).tasks k ≡ vacant
fresh_there calls workers [] orderly means k above = refl
fresh_there calls workers (e ∷ past) orderly means k above =
    let s = after calls workers (happenings past) in
    let now : task_count (take (made_after s.made e.happening) calls) ≤ k = subst (λ m. task_count (take (made_after m e.happening) calls) ≤ k) (sym (made_there calls workers past means.0)) above in
    let before : s.tasks k ≡ vacant = fresh_there calls workers past orderly means.0 k (omega (arith, above, count_later calls (made (happenings past)) e.happening)) in
    still_vacant calls workers s k e.happening (after_agrees calls workers past means.0).sound before (next_is_other calls s k e.happening orderly now)

-- what is known where a history of some calls leads
pub known : (calls : List Planned) (workers : ℕ) (past : List HistoryEntry) → IsOrderly calls → IsHistoryOf calls workers past → Known calls (after calls workers (happenings past))
known calls workers past orderly means = record {
  sound = (after_agrees calls workers past means).sound;
  timing = timings calls workers past means;
  due = subst (IsDue calls) (sym (view_there calls workers past means)) (look_is_due calls past);
  fresh = λ k above. fresh_there calls workers past orderly means k (subst (λ m. task_count (take m calls) ≤ k) (made_there calls workers past means) above);
}

-- ---- numbers

-- no front of the calls has more submissions than they have
front_below : (calls : List Planned) (n : ℕ) → task_count (take n calls) ≤ task_count calls
front_below [] n = none n
  where
    none : (n : ℕ) → task_count (take n []) ≤ 0
    none zero = omega arith
    none (suc n) = omega arith
front_below (p ∷ calls) zero = omega arith
front_below (p ∷ calls) (suc n) = by (submits_task p.1) (front_below calls n)
  where
    by : (b : Bool) → task_count (take n calls) ≤ task_count calls → cond b (1 + task_count (take n calls)) (task_count (take n calls)) ≤ cond b (1 + task_count calls) (task_count calls)
    by true l = omega (arith, l)
    by false l = l

-- a task that is not vacant is one that the calls submit
pub known_number : (calls : List Planned) (s : State) → Known calls s → (k : ℕ) → (s.tasks k ≡ vacant → ⊥) → k < task_count calls
known_number calls s known k used = by (nat_le (task_count calls) k) refl
  where
    by : (b : Bool) → nat_le (task_count calls) k ≡ b → k < task_count calls
    by true is = let above : task_count calls ≤ k = leb-true (task_count calls) k is in absurd (used (known.fresh k (omega (arith, above, front_below calls s.made))))
    by false is = grind (arith, nat_tests, is)
