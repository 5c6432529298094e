-- The tasks that wait, and the last finish of a task, read by position.
use Rattle.std.proofs.Common.{◌≡◌, ℕ, ◌<◌, ◌≤◌, Bool, true, false, cond, inl, inr, List, [], ◌∷◌, ◌++◌, Option, Some, None, refl, sym, ap, ◌∙◌, arith, subst}
use Rattle.std.specs.Prelude.{slice_get, max, not, ◌&&◌, ◌||◌}
use Rattle.std.specs.Option.{option_map_or}
use Rattle.std.specs.List.{list_any}
use Rattle.std.proofs.lemmas.Bool.{false≢true, eqb-true, and_parts, or_cases, or_parts, or_from}
use Rattle.std.proofs.lemmas.Option.{none-some, same_Some}
use Rattle.queue_code.specs.declared.call.CodeCall.{CodeCall}
use Rattle.queue_code.specs.declared.call.CodeCall.TheVariants as c
use Rattle.executor_model.specs.declared.types.EventError.TheVariants as x
use Rattle.executor_model.specs.declared.types.Happening.{Happening}
use Rattle.executor_model.specs.declared.types.Happening.TheVariants as h
use Rattle.executor_model.specs.declared.types.Answer.{Answer}
use Rattle.executor_model.specs.declared.types.Answer.TheVariants as a
use Rattle.queue_code.specs.Calls.{Planned, numbers}
use Rattle.executor_model.specs.View.{View, is_running, is_over, first_enabled}
use Rattle.executor_model.specs.Answers.{bare, reply, called, start_answer, finish_answer, moment_after, effect_on}
use Rattle.executor_model.specs.Histories.{HistoryEntry, IsHistoryOf, view_of_history, happenings, made, now_of, is_submit, is_finish, was_accepted, last_finish}
use Rattle.executor_laws.specs.Positions.{IsSubmissionOf, WasSubmitted, WaitingIsATask, WaitingIsDueInTime, FinishedLast, LastFinishIsTheLast, FinishKeepsNow}
use Rattle.executor_laws.proofs.Replies.{IsOfCall, call_answer}
use Rattle.executor_laws.proofs.Reading.{tasks_are_submitted}
use Rattle.executor_model.proofs.Replies.{IsAnswerTo, by_answer}
use Rattle.executor_model.proofs.Within.{dues_within}

-- ---- what an answer that submits a task says of what happened

-- what an answer that submits a task says of the next call
pub record Submits (calls : List Planned) (v : View) (happening : Happening) (k : ℕ) : Type 0 where
  pub call : Planned
  pub is : happening ≡ h.Call
  pub there : slice_get calls v.made ≡ Some call
  pub submits : IsSubmissionOf k call.1

-- a call whose answer accepts task k is the submission of task k
pub call_submits : (calls : List Planned) (v : View) (call : CodeCall) (k : ℕ) → is_submit k (called calls v call).answer ≡ true → IsSubmissionOf k call
call_submits calls v call k = by_answer (λ x. is_submit k x ≡ true → IsSubmissionOf k call) calls v call (by call)
  where
    by : (call : CodeCall) (x : Answer) → IsAnswerTo x call → is_submit k x ≡ true → IsSubmissionOf k call
    by (c.Submit task timing delay) (a.Submit j kind due) is q = sym is ∙ eqb-true j k q
    by call (a.Submit j kind due) is q = absurd is
    by call x is q = absurd (false≢true q)

-- an answer that submits a task is that of a call that does
pub submit_says : (calls : List Planned) (workers : ℕ) (v : View) (y : Happening) (k : ℕ) → is_submit k (reply calls workers v y).answer ≡ true → Submits calls v y k
submit_says calls workers v h.Call k q =
    let pick : (o : Option Planned) → slice_get calls v.made ≡ o → is_submit k (option_map_or (λ p. called calls (record v { moment = max v.moment p.0 }) p.1) o (bare a.Clock)).answer ≡ true → Submits calls v h.Call k =
    elim [
      | None ↦ λ there q. absurd (false≢true q)
      | Some p ↦ λ there q. record { call = p; is = refl; there = there; submits = call_submits calls (record v { moment = max v.moment p.0 }) p.1 k q }
    ]
    in
    pick (slice_get calls v.made) refl q
submit_says calls workers v (h.Clock t) k q =
    let other : (b d : Bool) → is_submit k (cond b (a.Error x.Backward) (cond d (a.Error x.TooFar) a.Clock)) ≡ true → ⊥ = elim [ true ↦ λ d q. false≢true q | false ↦ elim [ true ↦ λ q. false≢true q | false ↦ λ q. false≢true q ] ] in
    absurd (other _ _ q)
submit_says calls workers v (h.Start w) k q =
    let start : (o : Option ℕ) → is_submit k (start_answer v w o) ≡ true → ⊥ = elim [ None ↦ λ q. false≢true q | Some j ↦ λ q. false≢true q ] in
    let other : (b : Bool) (o : Option ℕ) → is_submit k (cond b (option_map_or (λ _. a.Error x.Busy) o (start_answer v w (first_enabled v (numbers calls)))) (a.Error x.NoWorker)) ≡ true → ⊥ =
    elim [ true ↦ elim [ None ↦ λ q. start (first_enabled v (numbers calls)) q | Some j ↦ λ q. false≢true q ] | false ↦ λ o q. false≢true q ]
    in
    absurd (other _ _ q)
submit_says calls workers v (h.Finish w ending) k q =
    let other : (b : Bool) (o : Option ℕ) → is_submit k (cond b (finish_answer calls v w ending o) (a.Error x.NoWorker)) ≡ true → ⊥ =
    elim [ true ↦ elim [ None ↦ λ q. false≢true q | Some j ↦ λ q. false≢true q ] | false ↦ λ o q. false≢true q ]
    in
    absurd (other _ _ q)
submit_says calls workers v (h.Cancel j) k q =
    let other : (b : Bool) → is_submit k (cond b (a.Outside j (effect_on (v.fate j))) (a.Error x.NoTask)) ≡ true → ⊥ = elim [ true ↦ λ q. false≢true q | false ↦ λ q. false≢true q ] in
    absurd (other _ q)
submit_says calls workers v h.Purge k q = absurd (false≢true q)

-- ---- a task whose submission was accepted was submitted by a call that was made

-- one happening more makes no fewer calls
pub made_more : (y : Happening) (past : List Happening) → made past ≤ made (y ∷ past)
made_more h.Call past = omega arith
made_more (h.Clock t) past = omega arith
made_more (h.Start w) past = omega arith
made_more (h.Finish w ending) past = omega arith
made_more (h.Cancel k) past = omega arith
made_more h.Purge past = omega arith

submitted_behind : (calls : List Planned) (y : Happening) (past : List Happening) (k : ℕ) → WasSubmitted calls past k → WasSubmitted calls (y ∷ past) k
submitted_behind calls y past k s = record { place = s.place; call = s.call; there = s.there; submits = s.submits; before = omega (arith, s.before, made_more y past) }

submitted_here : (calls : List Planned) (past : List HistoryEntry) (y : Happening) (k : ℕ) → Submits calls (view_of_history calls past) y k → WasSubmitted calls (y ∷ happenings past) k
submitted_here calls past y k s = record {
  place = made (happenings past);
  call = s.call;
  there = s.there;
  submits = s.submits;
  before = subst (λ z. made (happenings past) < made (z ∷ happenings past)) (sym s.is) (omega arith);
}

-- a task that was accepted was submitted by a call that was made
pub was_submitted : (calls : List Planned) (workers : ℕ) (past : List HistoryEntry) (k : ℕ) → IsHistoryOf calls workers past → was_accepted k past ≡ true → WasSubmitted calls (happenings past) k
was_submitted calls workers [] k m q = absurd (false≢true q)
was_submitted calls workers (e ∷ past) k m q = elim (or_cases (is_submit k e.answer) (was_accepted k past) q) [
  | inl here ↦ submitted_here calls past e.happening k (submit_says calls workers (view_of_history calls past) e.happening k (sym (ap (is_submit k) m.2) ∙ here))
  | inr there ↦ submitted_behind calls e.happening (happenings past) k (was_submitted calls workers past k m.0 there)
]

-- the law that a task that waits is one of the plan
pub waiting_is_a_task : WaitingIsATask
waiting_is_a_task calls workers past k o m q =
    let fate = (view_of_history calls past).fate k in
    let s = was_submitted calls workers past k m (and_parts fate.accepted (not (is_running fate) && not (is_over fate)) q).0 in
    ((tasks_are_submitted calls k o).1 s.place s.call s.there s.submits, s)

-- ---- when a task is due

-- the law that a task that waits is due within 2^63
pub waiting_is_due_in_time : WaitingIsDueInTime
waiting_is_due_in_time calls workers past k o m q = dues_within calls workers past o m k

-- ---- the last finish of a task

-- a finish that stands behind one entry more
finished_behind : (calls : List Planned) (past : List HistoryEntry) (f : HistoryEntry) (k t : ℕ) → is_finish k f.answer ≡ false → FinishedLast calls past k t → FinishedLast calls (f ∷ past) k t
finished_behind calls past f k t other s = record {
  later = f ∷ s.later;
  e = s.e;
  before = s.before;
  parts = ap (λ l. f ∷ l) s.parts;
  finish = s.finish;
  none = or_from (is_finish k f.answer) (list_any (λ g. is_finish k g.answer) s.later) other s.none;
  moment = s.moment;
}

-- where a last finish is known, it stands in the history
pub finish_found : (calls : List Planned) (k : ℕ) (past : List HistoryEntry) (t : ℕ) → last_finish calls k past ≡ Some t → FinishedLast calls past k t
finish_found calls k [] t q = absurd (none-some t q)
finish_found calls k (e ∷ past) t q =
    let pick : (b : Bool) → is_finish k e.answer ≡ b → cond b (Some (now_of calls (happenings past))) (last_finish calls k past) ≡ Some t → FinishedLast calls (e ∷ past) k t =
    elim [
      | true ↦ λ is q. record { later = []; e = e; before = past; parts = refl; finish = is; none = refl; moment = sym (same_Some (now_of calls (happenings past)) t q) }
      | false ↦ λ is q. finished_behind calls past e k t is (finish_found calls k past t q)
    ]
    in
    pick (is_finish k e.answer) refl q

finish_stands : (calls : List Planned) (k : ℕ) (later before : List HistoryEntry) (e : HistoryEntry) → is_finish k e.answer ≡ true → list_any (λ f. is_finish k f.answer) later ≡ false →
    last_finish calls k (later ++ e ∷ before) ≡ Some (now_of calls (happenings before))
finish_stands calls k [] before e is none = ap (λ b. cond b (Some (now_of calls (happenings before))) (last_finish calls k before)) is
finish_stands calls k (f ∷ later) before e is none =
    let parts = or_parts (is_finish k f.answer) (list_any (λ g. is_finish k g.answer) later) none in
    let past = later ++ e ∷ before in
    ap (λ b. cond b (Some (now_of calls (happenings past))) (last_finish calls k past)) parts.0 ∙ finish_stands calls k later before e is parts.1

none_finished : (calls : List Planned) (k : ℕ) (past : List HistoryEntry) → last_finish calls k past ≡ None → list_any (λ e. is_finish k e.answer) past ≡ false
none_finished calls k [] q = refl
none_finished calls k (e ∷ past) q =
    let pick : (b : Bool) → cond b (Some (now_of calls (happenings past))) (last_finish calls k past) ≡ None → (b || list_any (λ f. is_finish k f.answer) past) ≡ false =
    elim [ true ↦ λ q. absurd (none-some _ (sym q)) | false ↦ λ q. none_finished calls k past q ]
    in
    pick (is_finish k e.answer) q

no_last_finish : (calls : List Planned) (k : ℕ) (past : List HistoryEntry) → list_any (λ e. is_finish k e.answer) past ≡ false → last_finish calls k past ≡ None
no_last_finish calls k [] q = refl
no_last_finish calls k (e ∷ past) q =
    let pick : (b : Bool) → (b || list_any (λ f. is_finish k f.answer) past) ≡ false → cond b (Some (now_of calls (happenings past))) (last_finish calls k past) ≡ None =
    elim [ true ↦ λ q. absurd (false≢true (sym q)) | false ↦ λ q. no_last_finish calls k past q ]
    in
    pick (is_finish k e.answer) q

-- the law that the last finish is the one with no other after it
pub last_finish_is_the_last : LastFinishIsTheLast
last_finish_is_the_last calls past k = (
  λ t. (
    finish_found calls k past t,
    λ s. ap (last_finish calls k) s.parts ∙ (finish_stands calls k s.later s.before s.e s.finish s.none ∙ ap Some (sym s.moment)),
  ),
  (none_finished calls k past, no_last_finish calls k past),
)

-- ---- a finish does not move now

-- an answer to a call finishes no run
pub unfinishing : (k : ℕ) (answer : Answer) → IsOfCall answer → is_finish k answer ≡ false
unfinishing k (a.Finish worker task run outcome) of = absurd of
unfinishing k _ of = refl

finish_keeps : (calls : List Planned) (workers : ℕ) (v : View) (y : Happening) (k now : ℕ) (call : Option Planned) → is_finish k (reply calls workers v y).answer ≡ true → moment_after now call y ≡ now
finish_keeps calls workers v h.Call k now call q =
    let pick : (o : Option Planned) → is_finish k (option_map_or (λ p. called calls (record v { moment = max v.moment p.0 }) p.1) o (bare a.Clock)).answer ≡ true → ⊥ =
    elim [ None ↦ λ q. false≢true q | Some p ↦ λ q. false≢true (sym (unfinishing k _ (call_answer calls (record v { moment = max v.moment p.0 }) p.1)) ∙ q) ]
    in
    absurd (pick (slice_get calls v.made) q)
finish_keeps calls workers v (h.Clock t) k now call q =
    let other : (b d : Bool) → is_finish k (cond b (a.Error x.Backward) (cond d (a.Error x.TooFar) a.Clock)) ≡ true → ⊥ = elim [ true ↦ λ d q. false≢true q | false ↦ elim [ true ↦ λ q. false≢true q | false ↦ λ q. false≢true q ] ] in
    absurd (other _ _ q)
finish_keeps calls workers v (h.Start w) k now call q = refl
finish_keeps calls workers v (h.Finish w ending) k now call q = refl
finish_keeps calls workers v (h.Cancel j) k now call q = refl
finish_keeps calls workers v h.Purge k now call q = refl

-- the law that a finish does not move now
pub finish_keeps_now : FinishKeepsNow
finish_keeps_now calls workers past e k m q =
    finish_keeps calls workers (view_of_history calls past) e.happening k (now_of calls (happenings past)) (slice_get calls (made (happenings past))) (sym (ap (is_finish k) m.2) ∙ q)
