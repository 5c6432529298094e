-- A shut executor accepts no task, and a task that is refused does not start.
use Rattle.std.proofs.Common.{◌≡◌, ℕ, ◌<◌, ◌≤◌, Bool, true, false, cond, inl, inr, List, [], ◌∷◌, ◌++◌, Option, Some, None, refl, sym, ap, ◌∙◌, arith, subst}
use Rattle.std.specs.Prelude.{slice_get, max}
use Rattle.std.specs.Option.{option_map_or}
use Rattle.std.proofs.lemmas.Bool.{false≢true, false_from_ne_true, or_cases}
use Rattle.queue_code.specs.declared.call.CodeCall.{CodeCall}
use Rattle.queue_code.specs.declared.call.CodeCall.TheVariants as c
use Rattle.executor_model.specs.declared.types.EventError.TheVariants as x
use Rattle.executor_model.specs.declared.types.Refusal.{Refusal}
use Rattle.executor_model.specs.declared.types.Refusal.TheVariants as refusal
use Rattle.executor_model.specs.declared.types.Happening.{Happening}
use Rattle.executor_model.specs.declared.types.Happening.TheVariants as h
use Rattle.executor_model.specs.declared.types.Answer.{Answer}
use Rattle.executor_model.specs.declared.types.Answer.TheVariants as a
use Rattle.queue_code.specs.Calls.{Planned, IsOrderly, numbers, terms_of, due_at}
use Rattle.executor_model.specs.View.{View, first_enabled}
use Rattle.executor_model.specs.Answers.{bare, reply, called, kind_of, start_answer, finish_answer, effect_on}
use Rattle.executor_model.specs.Histories.{HistoryEntry, IsHistoryOf, view_of_history, happenings, made, is_submit, was_accepted}
use Rattle.executor_model.proofs.Replies.{IsAnswerTo, by_answer}
use Rattle.executor_laws.specs.Positions.{IsSubmissionOf}
use Rattle.executor_laws.specs.TaskWords.{word_after, starts_of_word}
use Rattle.executor_laws.specs.Policies.{NothingIsAcceptedOnceShut, RefusedTasksDoNotStart}
use Rattle.executor_laws.proofs.StartLaws.{means_front}
use Rattle.executor_laws.proofs.Reading.{tasks_are_submitted}
use Rattle.executor_laws.proofs.Waiting.{Submits, call_submits, submit_says, made_more, was_submitted}
use Rattle.executor_laws.proofs.TaskWords.{words_tell_the_history}

-- ---- a shut executor accepts no task

shut_call : (calls : List Planned) (v : View) (call : CodeCall) (k : ℕ) → v.shut ≡ true → is_submit k (called calls v call).answer ≡ true → ⊥
shut_call calls v (c.Submit task timing delay) k shut q =
    let answer : Bool → Answer = λ b. cond b (a.Refuse task refusal.Rejected) (a.Submit task (kind_of timing) (due_at (terms_of calls task) 0 None)) in
    false≢true (ap (λ b. is_submit k (answer b)) (sym shut) ∙ q)
shut_call calls v (c.Illegal task) k shut q = false≢true q
shut_call calls v call k shut q = call_submits calls v call k q

-- once the executor is shut, no answer accepts a task
pub accepts_none : (calls : List Planned) (workers : ℕ) (v : View) (y : Happening) (k : ℕ) → v.shut ≡ true → is_submit k (reply calls workers v y).answer ≡ true → ⊥
accepts_none calls workers v y k shut q =
    let s = submit_says calls workers v y k q in
    let call : is_submit k (reply calls workers v h.Call).answer ≡ true = ap (λ z. is_submit k (reply calls workers v z).answer) (sym s.is) ∙ q in
    let told = ap (λ p. is_submit k (option_map_or (λ p. called calls (record v { moment = max v.moment p.0 }) p.1) p (bare a.Clock)).answer) (sym s.there) ∙ call in
    shut_call calls (record v { moment = max v.moment s.call.0 }) s.call.1 k shut told

-- the law that no task is accepted once the executor is shut
pub nothing_is_accepted_once_shut : NothingIsAcceptedOnceShut
nothing_is_accepted_once_shut calls workers past e k m shut q = accepts_none calls workers (view_of_history calls past) e.happening k shut (sym (ap (is_submit k) m.2) ∙ q)

-- ---- a task that is refused does not start

call_refuses : (calls : List Planned) (v : View) (call : CodeCall) (k : ℕ) (why : Refusal) → (called calls v call).answer ≡ a.Refuse k why → IsSubmissionOf k call
call_refuses calls v call k why = by_answer (λ x. x ≡ a.Refuse k why → IsSubmissionOf k call) calls v call (by call)
  where
    by : (call : CodeCall) (x : Answer) → IsAnswerTo x call → x ≡ a.Refuse k why → IsSubmissionOf k call
    by (c.Submit task timing delay) (a.Refuse j other) is q = cc
    by (c.Illegal task) (a.Refuse j other) is q = cc
    by call (a.Refuse j other) is q = absurd is
    by call x is q = absurd cc

-- a refusal is the answer to a call that submits the task
refuse_says : (calls : List Planned) (workers : ℕ) (v : View) (y : Happening) (k : ℕ) (why : Refusal) → (reply calls workers v y).answer ≡ a.Refuse k why → Submits calls v y k
refuse_says calls workers v h.Call k why q =
    let pick : (o : Option Planned) → slice_get calls v.made ≡ o → (option_map_or (λ p. called calls (record v { moment = max v.moment p.0 }) p.1) o (bare a.Clock)).answer ≡ a.Refuse k why → Submits calls v h.Call k =
    elim [
      | None ↦ λ there q. absurd cc
      | Some p ↦ λ there q. record { call = p; is = refl; there = there; submits = call_refuses calls (record v { moment = max v.moment p.0 }) p.1 k why q }
    ]
    in
    pick (slice_get calls v.made) refl q
refuse_says calls workers v (h.Clock t) k why q =
    let other : (b d : Bool) → cond b (a.Error x.Backward) (cond d (a.Error x.TooFar) a.Clock) ≡ a.Refuse k why → ⊥ = elim [ true ↦ λ d q. cc | false ↦ elim [ true ↦ λ q. cc | false ↦ λ q. cc ] ] in
    absurd (other _ _ q)
refuse_says calls workers v (h.Start u) k why q =
    let start : (o : Option ℕ) → start_answer v u o ≡ a.Refuse k why → ⊥ = elim [ None ↦ λ q. cc | Some j ↦ λ q. cc ] in
    let other : (b : Bool) (o : Option ℕ) → cond b (option_map_or (λ _. a.Error x.Busy) o (start_answer v u (first_enabled v (numbers calls)))) (a.Error x.NoWorker) ≡ a.Refuse k why → ⊥ =
    elim [ true ↦ elim [ None ↦ λ q. start (first_enabled v (numbers calls)) q | Some j ↦ λ q. cc ] | false ↦ λ o q. cc ]
    in
    absurd (other _ _ q)
refuse_says calls workers v (h.Finish u ending) k why q =
    let other : (b : Bool) (o : Option ℕ) → cond b (finish_answer calls v u ending o) (a.Error x.NoWorker) ≡ a.Refuse k why → ⊥ = elim [ true ↦ elim [ None ↦ λ q. cc | Some j ↦ λ q. cc ] | false ↦ λ o q. cc ] in
    absurd (other _ _ q)
refuse_says calls workers v (h.Cancel j) k why q =
    let other : (b : Bool) → cond b (a.Outside j (effect_on (v.fate j))) (a.Error x.NoTask) ≡ a.Refuse k why → ⊥ = elim [ true ↦ λ q. cc | false ↦ λ q. cc ] in
    absurd (other _ q)
refuse_says calls workers v h.Purge k why q = absurd cc

-- two calls that submit a task are one
one_place : (calls : List Planned) (k n m : ℕ) (p q : Planned) → IsOrderly calls → slice_get calls n ≡ Some p → IsSubmissionOf k p.1 → slice_get calls m ≡ Some q → IsSubmissionOf k q.1 → n ≡ m
one_place calls k n m p q o there submits here submits_too =
    let tasks = tasks_are_submitted calls k o in
    let one = tasks.0 (tasks.1 n p there submits) in
    one.only n p there submits ∙ sym (one.only m q here submits_too)

-- no call is unmade
made_grows : (later past : List HistoryEntry) → made (happenings past) ≤ made (happenings (later ++ past))
made_grows [] past = omega arith
made_grows (e ∷ later) past = omega (arith, made_grows later past, made_more e.happening (happenings (later ++ past)))

-- a task that is refused is not accepted, before or after
refused_only : (calls : List Planned) (workers : ℕ) (later past : List HistoryEntry) (e : HistoryEntry) (k : ℕ) (why : Refusal) → IsOrderly calls → IsHistoryOf calls workers (later ++ e ∷ past) → e.answer ≡ a.Refuse k why →
    was_accepted k (later ++ e ∷ past) ≡ true → ⊥
refused_only calls workers [] past e k why o m is q =
    let s = refuse_says calls workers (view_of_history calls past) e.happening k why (sym m.2 ∙ is) in
    elim (or_cases (is_submit k e.answer) (was_accepted k past) q) [
      | inl here ↦ false≢true (ap (is_submit k) (sym is) ∙ here)
      | inr there ↦
          let t = was_submitted calls workers past k m.0 there in
          let same = one_place calls k t.place (made (happenings past)) t.call s.call o t.there t.submits s.there s.submits in
          absurd (omega (arith, t.before, same))
    ]
refused_only calls workers (f ∷ later) past e k why o m is q = elim (or_cases (is_submit k f.answer) (was_accepted k (later ++ e ∷ past)) q) [
  | inl here ↦
      let means = means_front calls workers later (e ∷ past) m.0 in
      let s = refuse_says calls workers (view_of_history calls past) e.happening k why (sym means.2 ∙ is) in
      let t = submit_says calls workers (view_of_history calls (later ++ e ∷ past)) f.happening k (sym (ap (is_submit k) m.2) ∙ here) in
      let same = one_place calls k (made (happenings (later ++ e ∷ past))) (made (happenings past)) t.call s.call o t.there t.submits s.there s.submits in
      let made_once : made (happenings past) < made (e.happening ∷ happenings past) = subst (λ y. made (happenings past) < made (y ∷ happenings past)) (sym s.is) (omega arith) in
      absurd (omega (arith, same, made_once, made_grows later (e ∷ past)))
  | inr there ↦ refused_only calls workers later past e k why o m.0 is there
]

-- the law that a task that is refused does not start
pub refused_tasks_do_not_start : RefusedTasksDoNotStart
refused_tasks_do_not_start calls workers later past e k why o m is =
    let whole = later ++ e ∷ past in
    let told = words_tell_the_history calls workers whole k m in
    let vacant = told.vacant.1 (false_from_ne_true (was_accepted k whole) (refused_only calls workers later past e k why o m is)) in
    sym told.started ∙ ap (λ p. starts_of_word p (word_after calls workers whole k).run) vacant
