-- When no further run of a task comes.
use Rattle.std.proofs.Common.{zero, suc, ◌≡◌, ℕ, ◌+◌, ◌-◌, ◌<◌, ◌==◌, ◌&&◌, Bool, true, false, cond, inl, inr, List, [], ◌∷◌, ◌++◌, Option, Some, None, refl, sym, ap, ◌∙◌, arith, subst}
use Rattle.std.specs.Prelude.{slice_get, max, not, ◌||◌}
use Rattle.std.specs.Option.{option_map_or}
use Rattle.std.proofs.lemmas.Bool.{false≢true, eqb-true, eq-eqb, and_parts, or_cases}
use Rattle.std.proofs.lemmas.Option.{same_Some}
use Rattle.sched_time.specs.declared.timing.Timing.{Timing}
use Rattle.sched_time.specs.declared.timing.Timing.TheVariants as t
use Rattle.sched_time.specs.declared.timing.Ending.{Ending}
use Rattle.sched_time.specs.declared.timing.Ending.TheVariants as e
use Rattle.queue_code.specs.declared.call.CodeCall.{CodeCall}
use Rattle.queue_code.specs.declared.call.CodeCall.TheVariants as c
use Rattle.executor_model.specs.declared.types.EventError.TheVariants as x
use Rattle.executor_model.specs.declared.types.Happening.{Happening}
use Rattle.executor_model.specs.declared.types.Happening.TheVariants as h
use Rattle.executor_model.specs.declared.types.Answer.{Answer}
use Rattle.executor_model.specs.declared.types.Answer.TheVariants as a
use Rattle.queue_code.specs.Calls.{Planned, Terms, numbers, terms_of}
use Rattle.executor_model.specs.View.{View, is_running, is_over, is_waiting, first_enabled}
use Rattle.executor_model.specs.Answers.{bare, reply, called, start_answer, finish_answer, outcome_of, due_next, stops_periodic, effect_on, outcome_in}
use Rattle.executor_model.specs.Histories.{HistoryEntry, IsHistoryOf, view_of_history, is_submit, is_start, is_finish, is_finish_with, is_done, is_failed, starts, finishes, was_accepted, was_done, was_failed, cancels, was_cancelled}
use Rattle.executor_laws.specs.Laws.{NothingStartsOnceDone, OneShotsRunOnce, OneShotsStartOnce, RunsAreNumbered, IllegalTasksDoNotStart}
use Rattle.executor_laws.specs.Positions.{IsSubmissionOf}
use Rattle.executor_model.proofs.Tables.{submission}
use Rattle.executor_laws.proofs.StartLaws.{means_front}
use Rattle.executor_laws.proofs.Reading.{tasks_are_submitted}
use Rattle.executor_laws.proofs.Replies.{IsOfCall, call_answer}
use Rattle.executor_laws.proofs.Waiting.{call_submits, submit_says, unfinishing}
use Rattle.executor_laws.proofs.Repeats.{started_so, waits_even, due_by, starts_grow}

-- a task that waits is not over
on_of : (calls : List Planned) (past : List HistoryEntry) (k : ℕ) → is_waiting ((view_of_history calls past).fate k) ≡ true → not (was_cancelled k past || (was_failed k past || was_done k past)) ≡ true
on_of calls past k q =
    let f = (view_of_history calls past).fate k in
    (and_parts (not (is_running f)) (not (is_over f)) (and_parts f.accepted (not (is_running f) && not (is_over f)) q).1).1

-- ---- done

done_stays : (k : ℕ) (between past : List HistoryEntry) → was_done k past ≡ true → was_done k (between ++ past) ≡ true
done_stays k [] past q = q
done_stays k (e ∷ between) past q =
    let rest = done_stays k between past q in
    let pick : (b : Bool) → (b || was_done k (between ++ past)) ≡ true = elim [ true ↦ refl | false ↦ rest ] in
    pick (is_finish_with is_done k e.answer)

-- the law that a task that is done does not start again
pub nothing_starts_once_done : NothingStartsOnceDone
nothing_starts_once_done calls workers past between finish start v w k m n d value s is =
    let on = on_of calls (between ++ finish ∷ past) k (started_so calls workers (between ++ finish ∷ past) start w k n d s).waiting in
    let done : was_done k (finish ∷ past) ≡ true = ap (λ b. b || was_done k past) (ap (is_finish_with is_done k) is ∙ ap (λ b. b && true) (eq-eqb k k refl)) in
    let pick : (a b d : Bool) → not (a || (b || d)) ≡ true → d ≡ true → ⊥ =
    elim [ true ↦ λ b d q r. false≢true q | false ↦ elim [ true ↦ λ d q r. false≢true q | false ↦ elim [ true ↦ λ q r. false≢true q | false ↦ λ q r. false≢true r ] ] ]
    in
    pick _ _ _ on (done_stays k between (finish ∷ past) done)

-- ---- the finish of a one-shot task ends it, or it was cancelled before

ends_once : (stops : Bool) (timing : Timing) (due : ℕ) (ending : Ending) → timing ≡ t.Once → (is_failed (outcome_of stops timing due ending) || is_done (outcome_of stops timing due ending)) ≡ true
ends_once stops t.Once due (e.Value value) q = refl
ends_once stops t.Once due (e.Fault code) q = refl
ends_once stops (t.Rate period) due ending q = absurd cc
ends_once stops (t.Fixed delay) due ending q = absurd cc

abbrev Ends : View → ℕ → Answer → Type 0
Ends v k answer = is_finish k answer ≡ true → ((v.fate k).cancelled || (is_finish_with is_failed k answer || is_finish_with is_done k answer)) ≡ true

call_ends : (v : View) (k : ℕ) (answer : Answer) → IsOfCall answer → Ends v k answer
call_ends v k answer of q = absurd (false≢true (sym (unfinishing k answer of) ∙ q))

once_ends : (calls : List Planned) (workers : ℕ) (v : View) (y : Happening) (k : ℕ) → (terms_of calls k).timing ≡ t.Once → Ends v k (reply calls workers v y).answer
once_ends calls workers v h.Call k once =
    let pick : (p : Option Planned) → Ends v k (option_map_or (λ p. called calls (record v { moment = max v.moment p.0 }) p.1) p (bare a.Clock)).answer =
    elim [ None ↦ λ q. absurd (false≢true q) | Some p ↦ call_ends v k _ (call_answer calls (record v { moment = max v.moment p.0 }) p.1) ]
    in
    pick (slice_get calls v.made)
once_ends calls workers v (h.Clock moment) k once =
    let other : (b d : Bool) → Ends v k (cond b (a.Error x.Backward) (cond d (a.Error x.TooFar) a.Clock)) =
    elim [ true ↦ λ d q. absurd (false≢true q) | false ↦ elim [ true ↦ λ q. absurd (false≢true q) | false ↦ λ q. absurd (false≢true q) ] ]
    in
    other _ _
once_ends calls workers v (h.Start u) k once =
    let start : (p : Option ℕ) → Ends v k (start_answer v u p) = elim [ None ↦ λ q. absurd (false≢true q) | Some j ↦ λ q. absurd (false≢true q) ] in
    let other : (b : Bool) (p : Option ℕ) → Ends v k (cond b (option_map_or (λ _. a.Error x.Busy) p (start_answer v u (first_enabled v (numbers calls)))) (a.Error x.NoWorker)) =
    elim [ true ↦ elim [ None ↦ start (first_enabled v (numbers calls)) | Some j ↦ λ q. absurd (false≢true q) ] | false ↦ λ p q. absurd (false≢true q) ]
    in
    other _ _
once_ends calls workers v (h.Finish u ending) k once =
    let stops = stops_periodic v.shut v.stopped v.policies in
    let from : (j : ℕ) → Ends v k (a.Finish u j ((v.fate j).starts - 1) (outcome_in (v.fate j).cancelled stops (terms_of calls j).timing (due_next calls v j) ending)) = λ j q.
    let live : (c : Bool) → (v.fate j).cancelled ≡ c →
    (c || (is_failed (outcome_in c stops (terms_of calls j).timing (due_next calls v j) ending) || is_done (outcome_in c stops (terms_of calls j).timing (due_next calls v j) ending))) ≡ true =
    elim [ true ↦ λ is. refl | false ↦ λ is. ends_once stops (terms_of calls j).timing (due_next calls v j) ending (ap (λ i. (terms_of calls i).timing) (eqb-true j k q) ∙ once) ]
    in
    let out = outcome_in (v.fate j).cancelled stops (terms_of calls j).timing (due_next calls v j) ending in
    ap (λ i. (v.fate i).cancelled || (((j == k) && is_failed out) || ((j == k) && is_done out))) (sym (eqb-true j k q))
    ∙ (ap (λ b. (v.fate j).cancelled || ((b && is_failed out) || (b && is_done out))) q ∙ live (v.fate j).cancelled refl)
    in
    let pick : (b : Bool) (work : Option ℕ) → Ends v k (cond b (finish_answer calls v u ending work) (a.Error x.NoWorker)) =
    elim [ true ↦ elim [ None ↦ λ q. absurd (false≢true q) | Some j ↦ from j ] | false ↦ λ work q. absurd (false≢true q) ]
    in
    pick _ _
once_ends calls workers v (h.Cancel j) k once =
    let pick : (b : Bool) → Ends v k (cond b (a.Outside j (effect_on (v.fate j))) (a.Error x.NoTask)) = elim [ true ↦ λ q. absurd (false≢true q) | false ↦ λ q. absurd (false≢true q) ] in
    pick _
once_ends calls workers v h.Purge k once = λ q. absurd (false≢true q)

-- a one-shot task that finished is over
over_of : (calls : List Planned) (workers : ℕ) (past : List HistoryEntry) (k : ℕ) → IsHistoryOf calls workers past → (terms_of calls k).timing ≡ t.Once
    → 0 < finishes k past → (was_cancelled k past || (was_failed k past || was_done k past)) ≡ true
over_of calls workers [] k m once l = absurd (omega (arith, l))
over_of calls workers (e ∷ past) k m once l =
    let v = view_of_history calls past in
    let ends : Ends v k e.answer = subst (Ends v k) (sym m.2) (once_ends calls workers v e.happening k once) in
    let pick : (b : Bool) → is_finish k e.answer ≡ b → 0 < cond b (1 + finishes k past) (finishes k past) → (was_cancelled k (e ∷ past) || (was_failed k (e ∷ past) || was_done k (e ∷ past))) ≡ true =
    elim [
      | true ↦ λ is l. here (cancels k e.answer e.ends) (was_cancelled k past) (is_finish_with is_failed k e.answer) (is_finish_with is_done k e.answer) (was_failed k past) (was_done k past) (ends is)
      | false ↦ λ is l. there (cancels k e.answer e.ends) (was_cancelled k past) (is_finish_with is_failed k e.answer) (is_finish_with is_done k e.answer) (was_failed k past) (was_done k past) (over_of calls workers past k m.0 once l)
    ]
    in
    pick (is_finish k e.answer) refl l
  where
    or_true : (d : Bool) → (d || true) ≡ true
    or_true true = refl
    or_true false = refl

    here : (x c b d f g : Bool) → (c || (b || d)) ≡ true → ((x || c) || ((b || f) || (d || g))) ≡ true
    here true c b d f g q = refl
    here false true b d f g q = refl
    here false false true d f g q = refl
    here false false false true true g q = refl
    here false false false true false g q = refl
    here false false false false f g q = absurd (false≢true q)

    there : (x c b d f g : Bool) → (c || (f || g)) ≡ true → ((x || c) || ((b || f) || (d || g))) ≡ true
    there true c b d f g q = refl
    there false true b d f g q = refl
    there false false true d f g q = refl
    there false false false d true g q = refl
    there false false false d false true q = or_true d
    there false false false d false false q = absurd (false≢true q)

-- the law that a one-shot task has run 0 alone
pub one_shots_run_once : OneShotsRunOnce
one_shots_run_once calls workers past e w k n d place moment delay orderly is s =
    let start = started_so calls workers past e w k n d s in
    let terms = (submission calls 0 0 place moment k t.Once delay orderly is).terms in
    let even = waits_even calls past k start.waiting in
    let means = (means_front calls workers s.later (e ∷ past) s.means).0 in
    let on = on_of calls past k start.waiting in
    let none : (i : ℕ) → finishes k past ≡ i → finishes k past ≡ 0 =
    elim [
      | zero ↦ λ q. q
      | suc i ↦ λ q. absurd (over_on _ (over_of calls workers past k means (ap (λ (x : Terms). x.timing) terms) (omega (arith, q))) on)
    ]
    in
    (start.run ∙ (even ∙ none (finishes k past) refl), start.due ∙ due_by calls past k _ terms)
  where
    over_on : (b : Bool) → b ≡ true → not b ≡ true → ⊥
    over_on true q r = false≢true r
    over_on false q r = false≢true q

-- the law that a run has the number of the starts before it
pub runs_are_numbered : RunsAreNumbered
runs_are_numbered calls workers past e w k n d s = (started_so calls workers past e w k n d s).run

-- the law that a one-shot task starts once
pub one_shots_start_once : OneShotsStartOnce
one_shots_start_once calls workers past between first second v w k m n d f place moment delay orderly is s start =
    let none = (one_shots_run_once calls workers (between ++ first ∷ past) second w k n d place moment delay orderly is s).0 in
    let run = runs_are_numbered calls workers (between ++ first ∷ past) second w k n d s in
    let one : starts k (first ∷ past) ≡ 1 + starts k past = ap (λ b. cond b (1 + starts k past) (starts k past)) (ap (is_start k) start ∙ eq-eqb k k refl) in
    absurd (omega (arith, none, run, one, starts_grow k between (first ∷ past)))

-- ---- illegal submissions

-- a call is the submission of task k, and legal
abbrev IsLegalSubmissionOf : ℕ → CodeCall → Type 0
IsLegalSubmissionOf k (c.Submit task timing delay) = task ≡ k
IsLegalSubmissionOf k _ = ⊥

record WasLegal (calls : List Planned) (k : ℕ) : Type 0 where
  place : ℕ
  call : Planned
  there : slice_get calls place ≡ Some call
  submits : IsSubmissionOf k call.1
  legal : IsLegalSubmissionOf k call.1

call_is_legal : (calls : List Planned) (v : View) (call : CodeCall) (k : ℕ) → is_submit k (called calls v call).answer ≡ true → IsLegalSubmissionOf k call
call_is_legal calls v (c.Submit task timing delay) k q = call_submits calls v (c.Submit task timing delay) k q
call_is_legal calls v (c.Illegal task) k q = false≢true q
call_is_legal calls v call k q = call_submits calls v call k q

submit_is_legal : (calls : List Planned) (workers : ℕ) (v : View) (y : Happening) (k : ℕ) → is_submit k (reply calls workers v y).answer ≡ true → WasLegal calls k
submit_is_legal calls workers v y k q =
    let s = submit_says calls workers v y k q in
    let call : is_submit k (reply calls workers v h.Call).answer ≡ true = ap (λ z. is_submit k (reply calls workers v z).answer) (sym s.is) ∙ q in
    let told = ap (λ p. is_submit k (option_map_or (λ p. called calls (record v { moment = max v.moment p.0 }) p.1) p (bare a.Clock)).answer) (sym s.there) ∙ call in
    record { place = v.made; call = s.call; there = s.there; submits = s.submits; legal = call_is_legal calls (record v { moment = max v.moment s.call.0 }) s.call.1 k told }

was_legal : (calls : List Planned) (workers : ℕ) (past : List HistoryEntry) (k : ℕ) → IsHistoryOf calls workers past → was_accepted k past ≡ true → WasLegal calls k
was_legal calls workers [] k m q = absurd (false≢true q)
was_legal calls workers (e ∷ past) k m q = elim (or_cases (is_submit k e.answer) (was_accepted k past) q) [
  | inl here ↦ submit_is_legal calls workers (view_of_history calls past) e.happening k (sym (ap (is_submit k) m.2) ∙ here)
  | inr there ↦ was_legal calls workers past k m.0 there
]

-- the law that an illegal task does not start
pub illegal_tasks_do_not_start : IllegalTasksDoNotStart
illegal_tasks_do_not_start calls workers past e w k n d place moment orderly is s =
    let fate = (view_of_history calls past).fate k in
    let start = started_so calls workers past e w k n d s in
    let means = (means_front calls workers s.later (e ∷ past) s.means).0 in
    let legal = was_legal calls workers past k means (and_parts fate.accepted (not (is_running fate) && not (is_over fate)) start.waiting).0 in
    let tasks = tasks_are_submitted calls k orderly in
    let one = tasks.0 (tasks.1 place (moment, c.Illegal k) is refl) in
    let same : legal.place ≡ place = one.only legal.place legal.call legal.there legal.submits ∙ sym (one.only place (moment, c.Illegal k) is refl) in
    let call = same_Some _ _ (sym legal.there ∙ (ap (slice_get calls) same ∙ is)) in
    subst (λ p. IsLegalSubmissionOf k p.1) call legal.legal
