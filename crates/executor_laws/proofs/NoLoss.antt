-- A task that was accepted, and neither cancelled nor ended, is never lost.
use Rattle.std.proofs.Common.{◌≡◌, true, false, inl, inr, ◌⊎◌, Some, refl, sym, ap, ◌∙◌}
use Rattle.std.proofs.lemmas.Bool.{false≢true}
use Rattle.executor_model.specs.declared.task.Stage.{Stage}
use Rattle.executor_model.specs.declared.task.Stage.TheVariants as ph
use Rattle.queue_code.specs.Calls.{terms_of}
use Rattle.executor_model.specs.View.{Fate, View, is_waiting}
use Rattle.executor_model.specs.Histories.{happenings, view_of_history, was_done, was_failed, work_of}
use Rattle.executor_model.specs.State.{State, after, view_of_state, seen_phase, was_submitted, is_done_phase, is_failed_phase}
use Rattle.executor_model.proofs.Agree.{Agrees, after_agrees}
use Rattle.executor_model.proofs.Sound.{is_seen_waiting}
use Rattle.executor_laws.specs.Turns.{IsInLine, IsAtWork, NoTaskIsLost}
use Rattle.executor_laws.proofs.Places.{work_is_the_last_start}
use Rattle.executor_laws.proofs.Waiting.{waiting_is_a_task, waiting_is_due_in_time}
use Rattle.executor_laws.proofs.Armed.{waits_armed}

-- the law
pub no_task_is_lost : NoTaskIsLost
no_task_is_lost calls workers past k o m accepted uncancelled = by (s.tasks k).phase refl
  where
    s : State
    s = after calls workers (happenings past)

    agrees : Agrees calls s past
    agrees = after_agrees calls workers past m

    fate : (view_of_state calls s).fate k ≡ (view_of_history calls past).fate k
    fate = ap (λ (v : View). v.fate k) agrees.view

    spared : (s.tasks k).cancelled ≡ false
    spared = ap (λ (f : Fate). f.cancelled) fate ∙ uncancelled

    by : (p : Stage) → (s.tasks k).phase ≡ p → IsInLine calls past k ⊎ (IsAtWork past k ⊎ ((was_done k past ≡ true) ⊎ (was_failed k past ≡ true)))
    by ph.Vacant is = absurd (false≢true (ap was_submitted (sym is) ∙ (ap (λ (f : Fate). f.accepted) fate ∙ accepted)))
    by ph.Waiting is =
        let armed = waits_armed calls workers past k m is in
        let t = s.tasks k in
        let seen : is_waiting ((view_of_state calls s).fate k) ≡ true =
        (λ i. is_waiting (seen_phase (terms_of calls k) (is i) t.run t.due (spared i) t.kept)) ∙ is_seen_waiting (terms_of calls k) t.run t.due t.kept in
        let waits = ap is_waiting (sym fate) ∙ seen in
        inl (record {
          later = armed.later;
          e = armed.e;
          before = armed.before;
          parts = armed.parts;
          arms = armed.arms;
          unstarted = armed.unstarted;
          below = (waiting_is_a_task calls workers past k o m waits).0;
          waits = waits;
          within = waiting_is_due_in_time calls workers past k o m waits;
        })
    by ph.Running is =
        let worker = agrees.sound.staffed k is in
        let work : work_of worker.0 past ≡ Some k = sym (ap (λ (v : View). v.work worker.0) agrees.view) ∙ worker.1 in
        inr (inl (record {
          worker = worker.0;
          started = ((work_is_the_last_start calls workers past worker.0 k m).0 work).0;
          alone = λ w started. agrees.sound.apart w worker.0 k (ap (λ (v : View). v.work w) agrees.view ∙ (work_is_the_last_start calls workers past w k m).1 started) worker.1;
        }))
    by ph.Done is = inr (inr (inl (sym (ap (λ (f : Fate). f.done) fate) ∙ ap is_done_phase is)))
    by ph.Failed is = inr (inr (inr (sym (ap (λ (f : Fate). f.failed) fate) ∙ ap is_failed_phase is)))
    by ph.Dropped is = absurd (false≢true (sym spared ∙ agrees.sound.over k is))
