-- What each reply finds in a sound state.
use Rattle.std.proofs.Common.{◌≡◌, ℕ, ◌+◌, ◌≤◌, ◌&&◌, ◌||◌, ◌==◌, nat_lt, nat_le, Bool, true, false, cond, ◌⊎◌, inl, inr, List, [], ◌∷◌, Option, Some, None, refl, sym, ap, ◌∙◌, arith, subst}
use Rattle.std.specs.Prelude.{slice_get, not, max}
use Rattle.std.specs.Option.{option_map_or}
use Rattle.std.proofs.lemmas.Bool.{false≢true, eqb-true, eq-eqb, and_parts, leb-true}
use Rattle.std.proofs.lemmas.Bool.Decides.{nat_tests}
use Rattle.std.proofs.lemmas.Option.{none-some, same_Some}
use Rattle.queue_code.specs.declared.call.CodeCall.{CodeCall}
use Rattle.queue_code.specs.declared.call.CodeCall.TheVariants as c
use Rattle.executor_model.specs.declared.types.Happening.{Happening}
use Rattle.executor_model.specs.declared.types.Happening.TheVariants as h
use Rattle.executor_model.specs.declared.types.EventError.TheVariants as x
use Rattle.executor_model.specs.declared.types.Refusal.TheVariants as refusal
use Rattle.executor_model.specs.declared.types.Outcome.{Outcome}
use Rattle.executor_model.specs.declared.types.Outcome.TheVariants as o
use Rattle.executor_model.specs.declared.types.Answer.{Answer}
use Rattle.executor_model.specs.declared.types.Answer.TheVariants as a
use Rattle.executor_model.specs.declared.task.Stage.{Stage}
use Rattle.executor_model.specs.declared.task.Stage.TheVariants as ph
use Rattle.sched_time.specs.declared.timing.Timing.{Timing}
use Rattle.sched_time.specs.declared.timing.Timing.TheVariants as t
use Rattle.sched_time.specs.declared.timing.Ending.{Ending}
use Rattle.sched_time.specs.declared.timing.Ending.TheVariants as e
use Rattle.queue_code.specs.Calls.{submits_task, Planned, Terms, terms_of, due_at, numbers, task_count}
use Rattle.executor_model.specs.View.{View, is_enabled, is_running, is_waiting, first_enabled, earlier, precedes}
use Rattle.executor_model.specs.Answers.{bare, called, kind_of, start_answer, finish_answer, effect_on, outcome_in, stops_periodic, due_next}
use Rattle.executor_model.specs.State.{State, view_of_state, seen_phase, was_submitted, due_seen, reply_of}
use Rattle.executor_model.specs.own.Soundness.{IsSound}
use Rattle.executor_model.proofs.Moves.{Fits}
use Rattle.executor_model.proofs.Replies.{IsAnswerTo, accepts_by, by_answer}

-- only a periodic task waits for a further run
abbrev pub IsPeriodicAgain : Timing → Outcome → Type 0
IsPeriodicAgain timing (o.Again due) = timing ≡ t.Once → ⊥
IsPeriodicAgain timing _ = Unit {0}

-- what an answer says of the state that it finds
abbrev pub Finds : List Planned → State → Answer → Type 0
Finds calls s (a.Submit j kind due) = due ≡ due_at (terms_of calls j) 0 None
Finds calls s (a.Start w j n due) = (s.workers w ≡ None) × ((s.tasks j).phase ≡ ph.Waiting) × ((s.tasks j).cancelled ≡ false) × ((s.tasks j).due ≤ s.moment)
Finds calls s (a.Finish w j n outcome) = (s.workers w ≡ Some j) × (outcome ≡ o.Dropped → (s.tasks j).cancelled ≡ true) × IsPeriodicAgain (terms_of calls j).timing outcome
Finds calls s _ = Unit {0}

-- ---- of the first enabled task

from_earlier : (v : View) (i k : ℕ) (q : Option ℕ) → earlier v i q ≡ k → (k ≡ i) ⊎ (q ≡ Some k)
from_earlier v i k None e = inl (sym e)
from_earlier v i k (Some j) e =
    let pick : (b : Bool) → cond b j i ≡ k → (k ≡ i) ⊎ (Some j ≡ Some k) = elim [ true ↦ λ q. inr (ap Some q) | false ↦ λ q. inl (sym q) ] in
    pick (precedes v j i) e

-- the first enabled task is enabled
pub first_is_enabled : (v : View) (ks : List ℕ) (k : ℕ) → first_enabled v ks ≡ Some k → is_enabled v k ≡ true
first_is_enabled v [] k q = absurd (none-some k q)
first_is_enabled v (j ∷ ks) k q =
    let rest = first_is_enabled v ks k in
    let pick : (b : Bool) → is_enabled v j ≡ b → cond b (Some (earlier v j (first_enabled v ks))) (first_enabled v ks) ≡ Some k → is_enabled v k ≡ true =
    elim [
      | true ↦ λ is q. elim (from_earlier v j k (first_enabled v ks) (same_Some (earlier v j (first_enabled v ks)) k q)) [ inl here ↦ ap (is_enabled v) here ∙ is | inr there ↦ rest there ]
      | false ↦ λ is q. rest q
    ]
    in
    pick (is_enabled v j) refl q

next_eqb : (n : ℕ) → (1 + n == n) ≡ false
next_eqb n = grind (arith, nat_tests)

same_eqb : (n : ℕ) → (n == n) ≡ true
same_eqb n = eq-eqb n n refl

pub or_right : (x y : Bool) → y ≡ true → (x || y) ≡ true
or_right true y e = refl
or_right false y e = e

no_and : (x y : Bool) → y ≡ false → (x && y) ≡ false
no_and true y e = e
no_and false y e = refl

-- a task that is seen to wait is in that phase
pub waits : (terms : Terms) (p : Stage) (run due : ℕ) (b kept : Bool) → (p ≡ ph.Dropped → b ≡ true) → is_waiting (seen_phase terms p run due b kept) ≡ true → (p ≡ ph.Waiting) × (b ≡ false)
waits terms p run due true kept over q = absurd (false≢true (sym (no_and (was_submitted p) (not (is_running (seen_phase terms p run due true kept)) && false) (no_and (not (is_running (seen_phase terms p run due true kept))) false refl)) ∙ q))
waits terms ph.Vacant run due false kept over q = absurd (false≢true q)
waits terms ph.Waiting run due false kept over q = (refl, refl)
waits terms ph.Running run due false kept over q = absurd (false≢true (sym (ap (λ b. not (not b) && true) (next_eqb run)) ∙ q))
waits terms ph.Done run due false kept over q = absurd (false≢true (sym (no_and (not (not (1 + run == 1 + run))) false refl) ∙ q))
waits terms ph.Failed run due false kept over q = absurd (false≢true (sym (no_and (not (not (1 + run == 1 + run))) false refl) ∙ q))
waits terms ph.Dropped run due false kept over q = absurd (false≢true (over refl))

-- a task that waits and is not cancelled is seen as one that waits
pub is_seen_waiting : (terms : Terms) (run due : ℕ) (kept : Bool) → is_waiting (seen_phase terms ph.Waiting run due false kept) ≡ true
is_seen_waiting terms run due kept = ap (λ b. not (not b) && true) (same_eqb run)

-- a task that is seen as one that waits does, and is not cancelled
pub waits_in : (calls : List Planned) (s : State) (k : ℕ) → IsSound s → is_waiting ((view_of_state calls s).fate k) ≡ true → ((s.tasks k).phase ≡ ph.Waiting) × ((s.tasks k).cancelled ≡ false)
waits_in calls s k sound q = waits (terms_of calls k) (s.tasks k).phase (s.tasks k).run (s.tasks k).due (s.tasks k).cancelled (s.tasks k).kept (sound.over k) q

-- ---- what each reply finds

call_finds : (calls : List Planned) (s : State) (moment : ℕ) (call : CodeCall) → Finds calls s (called calls (record (view_of_state calls s) { moment = moment }) call).answer
call_finds calls s moment (c.Submit task timing delay) =
    let pick : (b : Bool) → Finds calls s (cond b (a.Refuse task refusal.Rejected) (a.Submit task (kind_of timing) (due_at (terms_of calls task) 0 None))) = elim [ true ↦ tt | false ↦ refl ] in
    pick s.shut
call_finds calls s moment (c.Illegal task) = tt
call_finds calls s moment call = by_answer (Finds calls s) calls (record (view_of_state calls s) { moment = moment }) call (finds call refl)
  where
    finds : (call : CodeCall) → submits_task call ≡ false → (x : Answer) → IsAnswerTo x call → Finds calls s x
    finds call unsubmitted (a.Submit k kind due) is = absurd (false≢true (sym unsubmitted ∙ accepts_by call k due kind is))
    finds call unsubmitted (a.Start w k n due) is = absurd is
    finds call unsubmitted (a.Finish w k n outcome) is = absurd is
    finds call unsubmitted x is = tt

-- an enabled task waits, and its due moment is reached
pub enabled_in : (calls : List Planned) (s : State) (k : ℕ) → IsSound s → is_enabled (view_of_state calls s) k ≡ true → ((s.tasks k).phase ≡ ph.Waiting) × ((s.tasks k).cancelled ≡ false) × ((s.tasks k).due ≤ s.moment)
enabled_in calls s k sound e =
    let v = view_of_state calls s in
    let parts = and_parts (is_waiting (v.fate k)) (nat_le (v.fate k).due v.moment) e in
    let waiting = waits_in calls s k sound parts.0 in
    let due : (v.fate k).due ≡ (s.tasks k).due = ap (λ p. due_seen (terms_of calls k) p (s.tasks k).due) waiting.0 in
    (waiting.0, waiting.1, omega (arith, due, leb-true (v.fate k).due v.moment parts.1))

-- only the outcome of a cancelled task is dropped
drops : (cancelled stops : Bool) (timing : Timing) (due : ℕ) (ending : Ending) → outcome_in cancelled stops timing due ending ≡ o.Dropped → cancelled ≡ true
drops true stops timing due ending q = refl
drops false stops t.Once due (e.Value value) q = cc
drops false true (t.Rate period) due (e.Value value) q = cc
drops false false (t.Rate period) due (e.Value value) q = cc
drops false true (t.Fixed delay) due (e.Value value) q = cc
drops false false (t.Fixed delay) due (e.Value value) q = cc
drops false stops timing due (e.Fault code) q = cc

-- only a periodic task waits for a further run
again : (cancelled stops : Bool) (timing : Timing) (due : ℕ) (ending : Ending) → IsPeriodicAgain timing (outcome_in cancelled stops timing due ending)
again true stops timing due ending = tt
again false stops t.Once due (e.Value value) = tt
again false true (t.Rate period) due (e.Value value) = tt
again false false (t.Rate period) due (e.Value value) = λ q. cc
again false true (t.Fixed delay) due (e.Value value) = tt
again false false (t.Fixed delay) due (e.Value value) = λ q. cc
again false stops timing due (e.Fault code) = tt

-- what each reply finds in a sound state
pub reply_finds : (calls : List Planned) (workers : ℕ) (s : State) (happening : Happening) → IsSound s → Finds calls s (reply_of calls workers s happening).answer
reply_finds calls workers s h.Call sound =
    let pick : (q : Option Planned) → Finds calls s (option_map_or (λ p. called calls (record (view_of_state calls s) { moment = max s.moment p.0 }) p.1) q (bare a.Clock)).answer =
    elim [ None ↦ tt | Some p ↦ call_finds calls s (max s.moment p.0) p.1 ]
    in
    pick (slice_get calls s.made)
reply_finds calls workers s (h.Clock t) sound =
    let pick : (b c : Bool) → Finds calls s (cond b (a.Error x.Backward) (cond c (a.Error x.TooFar) a.Clock)) = elim [ true ↦ λ c. tt | false ↦ elim [ true ↦ tt | false ↦ tt ] ] in
    pick _ _
reply_finds calls workers s (h.Start w) sound =
    let v = view_of_state calls s in
    let first : (q : Option ℕ) → s.workers w ≡ None → first_enabled v (numbers calls) ≡ q → Finds calls s (start_answer v w q) =
    elim [
      | None ↦ λ free is. tt
      | Some k ↦ λ free is. let enabled = enabled_in calls s k sound (first_is_enabled v (numbers calls) k is) in (free, enabled.0, enabled.1, enabled.2)
    ]
    in
    let pick : (b : Bool) (work : Option ℕ) → s.workers w ≡ work → Finds calls s (cond b (option_map_or (λ _. a.Error x.Busy) work (start_answer v w (first_enabled v (numbers calls)))) (a.Error x.NoWorker)) =
    elim [ true ↦ elim [ None ↦ λ free. first (first_enabled v (numbers calls)) free refl | Some k ↦ λ busy. tt ] | false ↦ λ work is. tt ]
    in
    pick (nat_lt w workers) (s.workers w) refl
reply_finds calls workers s (h.Finish w ending) sound =
    let v = view_of_state calls s in
    let pick : (b : Bool) (work : Option ℕ) → s.workers w ≡ work → Finds calls s (cond b (finish_answer calls v w ending work) (a.Error x.NoWorker)) =
    elim [ true ↦ elim [ None ↦ λ is. tt | Some k ↦ λ is. (is, drops (s.tasks k).cancelled (stops_periodic s.shut s.stopped s.policies) (terms_of calls k).timing (due_next calls v k) ending, again (s.tasks k).cancelled (stops_periodic s.shut s.stopped s.policies) (terms_of calls k).timing (due_next calls v k) ending) ] | false ↦ λ work is. tt ]
    in
    pick (nat_lt w workers) (s.workers w) refl
reply_finds calls workers s (h.Cancel k) sound =
    let pick : (b : Bool) → Finds calls s (cond b (a.Outside k (effect_on ((view_of_state calls s).fate k))) (a.Error x.NoTask)) = elim [ true ↦ tt | false ↦ tt ] in
    pick (nat_lt k (task_count calls))
reply_finds calls workers s h.Purge sound = tt

-- what each reply finds of each task, as its move needs it
pub fits_all : (calls : List Planned) (s : State) (answer : Answer) → IsSound s → Finds calls s answer → (k : ℕ) → Fits (terms_of calls k) s.moment k (s.tasks k) answer
fits_all calls s (a.Submit j kind due) sound f k = λ q. subst (λ k. due ≡ due_at (terms_of calls k) 0 None) (eqb-true j k q) f
fits_all calls s (a.Start w j n due) sound f k = λ q. subst (λ k. (s.tasks k).phase ≡ ph.Waiting) (eqb-true j k q) f.1
fits_all calls s (a.Finish w j n outcome) sound f k = λ q. subst (λ k. (s.tasks k).phase ≡ ph.Running) (eqb-true j k q) (sound.at_work w j f.0)
fits_all calls s _ sound f k = tt
