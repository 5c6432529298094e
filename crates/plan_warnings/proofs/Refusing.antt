-- A call that is refused, and the cancel of its task.
use Rattle.std.proofs.Common.{◌≡◌, ◌∙◌, ℕ, ◌<◌, Bool, true, false, cond, inl, inr, List, [], ◌∷◌, ◌++◌, None, Some, refl, sym, ap, arith}
use Rattle.std.specs.Prelude.{slice_get, max}
use Rattle.std.specs.Option.{option_map_or}
use Rattle.std.proofs.lemmas.Bool.{false≢true, false_from_ne_true, or_cases}
use Rattle.sched_time.specs.declared.timing.Timing.{Timing}
use Rattle.queue_code.specs.declared.call.CodeCall.{CodeCall}
use Rattle.queue_code.specs.declared.call.CodeCall.TheVariants as c
use Rattle.executor_model.specs.declared.types.Answer.{Answer}
use Rattle.executor_model.specs.declared.types.Answer.TheVariants as a
use Rattle.executor_model.specs.declared.types.CancelEffect.TheVariants as f
use Rattle.executor_model.specs.declared.types.Happening.TheVariants as h
use Rattle.executor_model.specs.declared.types.Refusal.TheVariants as refusal
use Rattle.queue_code.specs.Calls.{Planned, IsOrderly, terms_of, due_at}
use Rattle.executor_model.specs.View.{Fate, is_cancellable}
use Rattle.executor_model.specs.Answers.{bare, called, effect_on, kind_of}
use Rattle.executor_model.specs.Histories.{HistoryEntry, IsHistoryOf, answer, happenings, is_submit, made, view_of_history, was_accepted, was_shut}
use Rattle.executor_laws.specs.Positions.{IsSubmissionOf}
use Rattle.executor_laws.specs.Policies.{shuts_down}
use Rattle.executor_laws.proofs.Policies as policies
use Rattle.executor_laws.proofs.Reading.{tasks_are_submitted}
use Rattle.executor_laws.proofs.StartLaws.{means_front}
use Rattle.executor_laws.proofs.Waiting.{submit_says}
use Rattle.plan_warnings.specs.Refusals.{AnswersCall, IsBehindShutdown, IllegalCallsAreRefused, CallsBehindShutdownsAreRejected, IsRefusedCall, IsRefusedTask, CancelsOfRefusedTasksHaveNoEffect}

-- the answer to a call is that of the table
pub answered : (calls : List Planned) (workers position : ℕ) (past : List HistoryEntry) (e : HistoryEntry) (p : Planned) → AnswersCall calls workers position past e → slice_get calls position ≡ Some p
    → e.answer ≡ (called calls (record (view_of_history calls past) { moment = max (view_of_history calls past).moment p.0 }) p.1).answer
answered calls workers position past e p here there =
    let means = means_front calls workers here.later (e ∷ past) here.means in
    let v = view_of_history calls past in
    means.2 ∙ (ap (λ y. (answer calls workers past y).answer) here.is_call
    ∙ ap (λ o. (option_map_or (λ q. called calls (record v { moment = max v.moment q.0 }) q.1) o (bare a.Clock)).answer) (ap (slice_get calls) here.here ∙ there))

-- behind a shutdown the executor is shut
pub shut_behind : (calls : List Planned) (workers position : ℕ) (past : List HistoryEntry) (e : HistoryEntry) → AnswersCall calls workers position past e → IsBehindShutdown calls position → was_shut past ≡ true
shut_behind calls workers position past e here behind =
    let means = means_front calls workers here.later (e ∷ past) here.means in
    (policies.shut_is_a_shutdown calls workers past means.0).0.1
    (record { place = behind.place; moment = behind.moment; call = behind.call; there = behind.there; passes = behind.shuts; before = omega (arith, behind.before, here.here) })

pub illegal_calls_are_refused : IllegalCallsAreRefused
illegal_calls_are_refused calls workers position moment k past e here there = answered calls workers position past e (moment, c.Illegal k) here there

pub calls_behind_shutdowns_are_rejected : CallsBehindShutdownsAreRejected
calls_behind_shutdowns_are_rejected calls workers position moment k timing delay past e here there behind =
    answered calls workers position past e (moment, c.Submit k timing delay) here there
    ∙ ap (λ b. cond b (a.Refuse k refusal.Rejected) (a.Submit k (kind_of timing) (due_at (terms_of calls k) 0 None))) (shut_behind calls workers position past e here behind)

-- a call that is refused accepts no task
refuses : (calls : List Planned) (workers position moment k j : ℕ) (call : CodeCall) (past : List HistoryEntry) (e : HistoryEntry) → AnswersCall calls workers position past e
    → slice_get calls position ≡ Some (moment, call) → IsRefusedCall calls position k call → is_submit j e.answer ≡ false
refuses calls workers position moment k j (c.Illegal task) past e here there refused = ap (is_submit j) (illegal_calls_are_refused calls workers position moment task past e here there)
refuses calls workers position moment k j (c.Submit task timing delay) past e here there refused =
    ap (is_submit j) (calls_behind_shutdowns_are_rejected calls workers position moment task timing delay past e here there refused.1)
refuses calls workers position moment k j call past e here there refused = absurd refused

-- a call that is refused is a submission
submits : (calls : List Planned) (position k : ℕ) (call : CodeCall) → IsRefusedCall calls position k call → IsSubmissionOf k call
submits calls position k (c.Illegal task) refused = refused
submits calls position k (c.Submit task timing delay) refused = refused.0
submits calls position k call refused = absurd refused

-- a task whose submission is refused is not accepted
pub not_accepted : (calls : List Planned) (workers k : ℕ) (past : List HistoryEntry) → IsOrderly calls → IsRefusedTask calls k → IsHistoryOf calls workers past → was_accepted k past ≡ true → ⊥
not_accepted calls workers k [] o r means q = false≢true q
not_accepted calls workers k (e ∷ past) o r means q = elim (or_cases (is_submit k e.answer) (was_accepted k past) q) [
  | inl here ↦
      let s = submit_says calls workers (view_of_history calls past) e.happening k (sym (ap (is_submit k) means.2) ∙ here) in
      let tasks = tasks_are_submitted calls k o in
      let mine = submits calls r.place k r.call r.refused in
      let one = tasks.0 (tasks.1 r.place (r.moment, r.call) r.there mine) in
      let same = one.only (made (happenings past)) s.call s.there s.submits ∙ sym (one.only r.place (r.moment, r.call) r.there mine) in
      let answers : AnswersCall calls workers r.place past e = record { later = []; means = means; is_call = s.is; here = same } in
      false≢true (sym (refuses calls workers r.place r.moment k k r.call past e answers r.there r.refused) ∙ here)
  | inr there ↦ not_accepted calls workers k past o r means.0 there
]

pub cancels_of_refused_tasks_have_no_effect : CancelsOfRefusedTasksHaveNoEffect
cancels_of_refused_tasks_have_no_effect calls workers position moment k past e o r here there =
    let means = means_front calls workers here.later (e ∷ past) here.means in
    let fate = (view_of_history calls past).fate k in
    let none = false_from_ne_true (was_accepted k past) (not_accepted calls workers k past o r means.0) in
    answered calls workers position past e (moment, c.Cancel k) here there
    ∙ ap (λ b. a.Cancel k (cond b (cond (is_cancellable fate) f.Yes f.No) f.Absent)) none
