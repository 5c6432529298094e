-- What a core's steps are, given a history in which it stands.
use Rattle.std.proofs.Common.{◌≡◌, ℕ, List, [], ◌∷◌, ◌++◌, refl, sym, ap, ◌∙◌, subst, append_assoc, append-nil}
use Rattle.executor_model.specs.declared.types.Event.{Event}
use Rattle.executor_model.specs.declared.types.Happening.{Happening}
use Rattle.executor_model.specs.declared.types.Line.{Line}
use Rattle.queue_code.specs.Calls.{Planned, IsOrderly}
use Rattle.executor_model.specs.Histories.{HistoryEntry, happenings, made, now_of, IsHistoryOf}
use Rattle.executor_model.specs.State.{State, after, after_from}
use Rattle.executor_model.specs.Flows.{part_of, history_from, lines_from}
use Rattle.executor_core.specs.CoreView.{CoreView, workers_of, state_of, Stands, Steps, Continues, ContinuesWith, ContinuesAny}
use Rattle.executor_model.proofs.Agree.{Agrees, after_agrees}
use Rattle.executor_model.proofs.Flowing.{happenings_from, after_from-append, lines_from-append, part_means, lines_follow}

-- ---- what the core's steps are, given a history in which it stands

-- a core agrees with the history in which it stands
pub stands_agrees : (m : CoreView) (past : List HistoryEntry) → IsHistoryOf m.calls (workers_of m) past → Stands m past → Agrees m.calls (state_of m) past
stands_agrees m past means stands = subst (λ s. Agrees m.calls s past) (sym stands) (after_agrees m.calls (workers_of m) past means)

-- steps of a core, for a history in which it stood and after which they may come
pub steps_continue : (old new : CoreView) (before lines : List Line) (hs : List Happening) → Steps old new before lines hs →
    (past : List HistoryEntry) → IsHistoryOf old.calls (workers_of old) past → Stands old past → IsHistoryOf old.calls (workers_of old) (history_from old.calls (workers_of old) past hs) → ContinuesWith old new before lines hs past
steps_continue old new before lines hs steps past means stands longer_means =
    let calls = old.calls in
    let workers = workers_of old in
    let longer = history_from calls workers past hs in
    let there : state_of new ≡ after calls workers (happenings longer) =
    steps.state ∙ (ap (λ s. after_from calls workers s hs) stands
    ∙ (sym (after_from-append calls workers _ hs (happenings past)) ∙ ap (after calls workers) (sym (happenings_from calls workers past hs))))
    in
    record {
      means = longer_means;
      stands = there ∙ (ap (λ cs. after cs workers (happenings longer)) (sym steps.calls) ∙ ap (λ n. after new.calls n (happenings longer)) (sym steps.workers));
      added = lines_from calls workers (state_of old) hs;
      given = steps.lines;
      spoken = lines_follow calls workers (state_of old) past hs (stands_agrees old past means stands);
    }

-- the steps of an event, for each history in which the core stood
pub core_continues : (old new : CoreView) (before lines : List Line) (event : Event) → IsOrderly old.calls → Steps old new before lines (part_of old.calls old.made old.moment event) →
    (past : List HistoryEntry) → IsHistoryOf old.calls (workers_of old) past → Stands old past → Continues old new before lines event past
core_continues old new before lines event o steps past means stands =
    let calls = old.calls in
    let workers = workers_of old in
    let a = stands_agrees old past means stands in
    let same : part_of calls (made (happenings past)) (now_of calls (happenings past)) event ≡ part_of calls old.made old.moment event = ap (λ w. part_of calls w.made w.moment event) (sym a.view) in
    steps_continue old new before lines (part_of calls old.made old.moment event) steps past means stands
    (subst (λ hs. IsHistoryOf calls workers (history_from calls workers past hs)) same (part_means calls workers past event o means))

-- one step, for each history in which the core stood and after which it may come
pub step_continues : (old new : CoreView) (before lines : List Line) (happening : Happening) → Steps old new before lines (happening ∷ []) → ContinuesAny old new before lines happening
step_continues old new before lines happening steps past means stands may = steps_continue old new before lines (happening ∷ []) steps past means stands (means, may, refl, refl)

-- some steps after others
pub steps_then : (old mid new : CoreView) (a b c : List Line) (hs gs : List Happening) → Steps old mid a b hs → Steps mid new b c gs → Steps old new a c (gs ++ hs)
steps_then old mid new a b c hs gs p q =
    let calls = old.calls in
    let workers = workers_of old in
    let from : (cs : List Planned) (n : ℕ) (s : State) → cs ≡ calls → n ≡ workers → s ≡ after_from calls workers (state_of old) hs →
    (after_from cs n s gs ≡ after_from calls workers (state_of old) (gs ++ hs)) × (lines_from cs n s gs ≡ lines_from calls workers (after_from calls workers (state_of old) hs) gs) =
    λ cs n s x y z. (
      (λ i. after_from (x i) (y i) (z i) gs) ∙ sym (after_from-append calls workers (state_of old) gs hs),
      λ i. lines_from (x i) (y i) (z i) gs,
    )
    in
    let same = from mid.calls (workers_of mid) (state_of mid) p.calls p.workers p.state in
    record {
      calls = q.calls ∙ p.calls;
      limit = q.limit ∙ p.limit;
      workers = q.workers ∙ p.workers;
      state = q.state ∙ same.0;
      lines = q.lines ∙ (ap (λ l. l ++ lines_from mid.calls (workers_of mid) (state_of mid) gs) p.lines
          ∙ (ap (λ l. (a ++ lines_from calls workers (state_of old) hs) ++ l) same.1
          ∙ (append_assoc a (lines_from calls workers (state_of old) hs) (lines_from calls workers (after_from calls workers (state_of old) hs) gs)
          ∙ ap (λ l. a ++ l) (sym (lines_from-append calls workers (state_of old) gs hs)))));
    }

-- no steps leave the core and its lines
pub no_steps : (m : CoreView) (lines : List Line) → Steps m m lines lines []
no_steps m lines = record { calls = refl; limit = refl; workers = refl; state = refl; lines = sym (append-nil lines) }
