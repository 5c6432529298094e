-- A cancel from outside with an effect touches its task alone.
use Rattle.std.proofs.Common.{◌≡◌, ℕ, ◌&&◌, ◌||◌, true, false, List, refl, sym, ap, subst}
use Rattle.std.specs.Prelude.{not}
use Rattle.std.proofs.lemmas.Bool.{ne_eqb, eq-eqb}
use Rattle.queue_code.specs.Calls.{Planned, terms_of}
use Rattle.executor_model.specs.declared.types.CancelEffect.TheVariants as f
use Rattle.executor_model.specs.declared.types.Happening.{Happening}
use Rattle.executor_model.specs.declared.types.Happening.TheVariants as h
use Rattle.executor_model.specs.View.{is_waiting}
use Rattle.executor_model.specs.Answers.{bare, effect_on}
use Rattle.executor_model.specs.Histories.{happenings, is_submit}
use Rattle.executor_model.specs.State.{State, view_of_state, seen_task, after, reply_of, state_after}
use Rattle.executor_model.specs.Tasks.{word_phase}
use Rattle.executor_model.proofs.Effects.{live_is_used}
use Rattle.executor_laws.specs.Cancels.{TouchesOneTask, CancelsTouchOneTask}
use Rattle.executor_laws.proofs.WordAnswers.{Says, says}
use Rattle.executor_laws.proofs.WordMoves.{submits_once}
use Rattle.executor_laws.proofs.CancelledTasks.{and_true, cancelled_at, others_stay, enabled_but, ends_but}
use Rattle.executor_laws.proofs.CancelAnswers.{answers_stay, asks_stay}
use Rattle.executor_laws.proofs.CancelNeeds.{needs_turn}

touches_one : (calls : List Planned) (workers : ℕ) (s : State) (j : ℕ) → ((happening : Happening) → is_submit j (reply_of calls workers s happening).answer ≡ true → ⊥) → TouchesOneTask calls workers s (cancelled_at calls s j) j
touches_one calls workers s j used =
    let t = s.tasks j in
    let same = eq-eqb j j refl in
    record {
      rest = refl;
      others = λ k apart. others_stay calls s j k (ne_eqb j k (λ q. apart (sym q)));
      own = λ i. record t { cancelled = ((same i && true) || (false || false)) || t.cancelled; kept = and_true t.kept i || ((same i && true) && (is_waiting ((view_of_state calls s).fate j) && not s.policies.removes)) };
      word = λ i. record { phase = word_phase t.phase; run = t.run; marked = ((same i && true) || (false || false)) || t.cancelled };
      enabled = enabled_but calls s j;
      answers = answers_stay calls workers s j;
      asks = asks_stay calls workers s j;
      ends = ends_but calls workers s j;
      needs = λ happening. (needs_turn calls workers s j happening (used happening)).0;
      instead = λ happening. (needs_turn calls workers s j happening (used happening)).1;
    }

-- the law that a cancel from outside touches one task
pub cancels_touch_one_task : CancelsTouchOneTask
cancels_touch_one_task calls workers past j orderly means said =
    let s = after calls workers (happenings past) in
    let effect : f.Yes ≡ effect_on (seen_task (terms_of calls j) (s.tasks j)) = subst (Says calls s) said (says calls workers s (h.Cancel j)) in
    let used : (happening : Happening) → is_submit j (reply_of calls workers s happening).answer ≡ true → ⊥ =
    λ happening q. live_is_used (terms_of calls j) (s.tasks j) effect (submits_once calls workers past happening j orderly means q).0
    in
    subst (λ r. TouchesOneTask calls workers s (state_after calls s (h.Cancel j) r) j) (sym (ap bare said)) (touches_one calls workers s j used)
