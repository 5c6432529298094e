use Rattle.std.proofs.Common.{◌≡◌, ◌+◌, ◌≤◌, ℕ, List, [], ◌∷◌, Option, Some, None, IfNone, refl, ap, ◌∙◌, sym, subst, arith, rules}
use Rattle.executor_model.specs.declared.Happening.{Happening}
use Rattle.executor_model.specs.declared.Happening.TheVariants as h
use Rattle.executor_core.specs.CoreView.{CoreView, room_of}
use Rattle.executor_core.proofs.Parts.{all_happened, left_after, none_happened, part_from}
use Rattle.sched_engine.specs.Pieces.{Output}
use Rattle.sched_engine.specs.own.Pieces.{CountsLines}
use Rattle.sched_engine.specs.own.Turns.{CutsSteps, GivesSteps, answers_to}
use Rattle.sched_engine.proofs.Stepping.{cuts_then, cuts_within, gives_nothing, gives_then, takes}
use Rattle.byte_ends.proofs.Tries.{good_then_bad, good_then_good, no_try}
use Rattle.sched_engine.proofs.one_event.answer_event.Goals as goal

-- what is known in each case is known where there is nothing
where_none : {X : Type 0} (found : Option X) (P : Type 0) → P → IfNone found P
where_none None P known = known
where_none (Some x) P known = tt

pub loop-core-init : goal.loop-core-init
loop-core-init g c =
    let old = c.args.core.now in
    let counted = c.count.new.self in
    let first : Output = record { contents = g.W.Sink.contents c.args.writer.now; text = c.args.draft.now } in
    record {
      clear = c.requires.clear;
      capacity = refl;
      taken = refl;
      counted = c.count.ensures.runs;
      room = subst (λ (m : CoreView). 0 + room_of m ≤ room_of old) (sym c.count.ensures.same) (omega arith);
      steps = ([], gives_nothing old counted first c.count.ensures.same, none_happened old counted c.args.event c.count.ensures.same);
      counts = no_try (g.W.Sink.failed c.args.writer.now) (g.W.Sink.fruitless c.args.writer.now);
    }

pub returns-in_err-count-clause-cut : goal.returns-in_err-count-clause-cut
returns-in_err-count-clause-cut g c =
    let kept = c.loop-core.invariant in
    let old = c.args.core.now in
    let mid = c.loop-core.core in
    let new = c.give.new.core in
    let hs = kept.steps.0 in
    let part = part_from old c.args.event in
    let first : Output = record { contents = g.W.Sink.contents c.args.writer.now; text = c.args.draft.now } in
    let here : Output = record { contents = g.W.Sink.contents c.loop-core.writer; text = c.loop-core.draft } in
    let written = g.W.Sink.contents c.give.new.writer in
    let lines = answers_to mid (h.Call ∷ []) in
    let so_far = cuts_then old mid new hs (h.Call ∷ []) first here written lines c.loop-core.count kept.steps.1 c.give.ensures.steps c.in_err-count.ensures.cut in
    let all = left_after mid new [] lines c.args.event part hs kept.steps.2 (c.loop-core-test.ensures.call refl) c.give.ensures.steps in
    where_none c.from_residual.result _ (subst (λ (l : List Happening). CutsSteps old l first written) (sym all) (cuts_within old (h.Call ∷ hs) (part_from new c.args.event) first written so_far))

pub returns-in_err-count-clause-counts : goal.returns-in_err-count-clause-counts
returns-in_err-count-clause-counts g c =
    let first = c.args.writer.now in
    let after = c.give.new.writer in
    let none : Option ℕ = None in
    let told : none ≡ c.from_residual.result = search rules in
    subst (λ (answer : Option ℕ). CountsLines answer (g.W.Sink.failed first) (g.W.Sink.fruitless first) (g.W.Sink.failed after) (g.W.Sink.fruitless after)) told
    (good_then_bad _ _ _ _ _ _ c.loop-core.invariant.counts c.in_err-count.ensures.counts)

pub loop-core-preserved : goal.loop-core-preserved
loop-core-preserved g c =
    let kept = c.loop-core.invariant in
    let did = c.in_ok-count.ensures in
    let old = c.args.core.now in
    let mid = c.loop-core.core in
    let new = c.give.new.core in
    let hs = kept.steps.0 in
    let count = c.in_ok-count.field-0 in
    let part = part_from old c.args.event in
    let lines = answers_to mid (h.Call ∷ []) in
    let first : Output = record { contents = g.W.Sink.contents c.args.writer.now; text = c.args.draft.now } in
    let here : Output = record { contents = g.W.Sink.contents c.loop-core.writer; text = c.loop-core.draft } in
    let there : Output = record { contents = g.W.Sink.contents c.give.new.writer; text = c.give.new.draft } in
    record {
      clear = did.clear;
      capacity = did.capacity ∙ kept.capacity;
      taken = did.taken ∙ kept.taken;
      counted = did.counted refl;
      room = omega (arith, kept.room, did.room refl);
      steps = (
        h.Call ∷ hs,
        gives_then old mid new hs (h.Call ∷ []) first here there lines c.loop-core.count count kept.steps.1 did.gives.steps did.gives.written did.gives.counted,
        left_after mid new [] lines c.args.event part hs kept.steps.2 (c.loop-core-test.ensures.call refl) did.steps,
      );
      counts = good_then_good _ _ _ _ _ _ kept.counts did.counts;
    }

pub returns-in_err-own-clause-cut : goal.returns-in_err-own-clause-cut
returns-in_err-own-clause-cut g c =
    let kept = c.loop-core.invariant in
    let old = c.args.core.now in
    let mid = c.loop-core.core in
    let new = c.give-2.new.core in
    let hs = kept.steps.0 in
    let happening = c.happening.result in
    let first : Output = record { contents = g.W.Sink.contents c.args.writer.now; text = c.args.draft.now } in
    let here : Output = record { contents = g.W.Sink.contents c.loop-core.writer; text = c.loop-core.draft } in
    let written = g.W.Sink.contents c.give-2.new.writer in
    let lines = answers_to mid (happening ∷ []) in
    let whole = cuts_then old mid new hs (happening ∷ []) first here written lines c.loop-core.count kept.steps.1 c.give-2.ensures.steps c.in_err-own.ensures.cut in
    let all = all_happened mid c.args.event (part_from old c.args.event) hs kept.steps.2 (c.loop-core-test.ensures.event refl) in
    where_none c.from_residual-in_err-own.result _ (subst (λ (l : List Happening). CutsSteps old l first written) (ap (λ x. x ∷ hs) c.happening.ensures ∙ sym all) whole)

pub returns-in_err-own-clause-counts : goal.returns-in_err-own-clause-counts
returns-in_err-own-clause-counts g c =
    let first = c.args.writer.now in
    let after = c.give-2.new.writer in
    let none : Option ℕ = None in
    let told : none ≡ c.from_residual-in_err-own.result = search rules in
    subst (λ (answer : Option ℕ). CountsLines answer (g.W.Sink.failed first) (g.W.Sink.fruitless first) (g.W.Sink.failed after) (g.W.Sink.fruitless after)) told
    (good_then_bad _ _ _ _ _ _ c.loop-core.invariant.counts c.in_err-own.ensures.counts)

pub returns-clause-counts : goal.returns-clause-counts
returns-clause-counts g c = good_then_good _ _ _ _ _ _ c.loop-core.invariant.counts c.in_ok-own.ensures.counts

pub returns-clause-takes : goal.returns-clause-takes
returns-clause-takes g c =
    let kept = c.loop-core.invariant in
    let did = c.in_ok-own.ensures in
    let old = c.args.core.now in
    let mid = c.loop-core.core in
    let new = c.give-2.new.core in
    let hs = kept.steps.0 in
    let own = c.in_ok-own.own in
    let happening = c.happening.result in
    let first : Output = record { contents = g.W.Sink.contents c.args.writer.now; text = c.args.draft.now } in
    let here : Output = record { contents = g.W.Sink.contents c.loop-core.writer; text = c.loop-core.draft } in
    let there : Output = record { contents = g.W.Sink.contents c.give-2.new.writer; text = c.give-2.new.draft } in
    let lines = answers_to mid (happening ∷ []) in
    let gives = gives_then old mid new hs (happening ∷ []) first here there lines c.loop-core.count own kept.steps.1 did.gives.steps did.gives.written did.gives.counted in
    let all = all_happened mid c.args.event (part_from old c.args.event) hs kept.steps.2 (c.loop-core-test.ensures.event refl) in
    takes old c.count.new.self new c.args.event first there (c.loop-core.count + own) c.requires.orderly c.count.ensures.same (did.taken ∙ kept.taken)
    (subst (λ (l : List Happening). GivesSteps old new l first there (c.loop-core.count + own)) (ap (λ x. x ∷ hs) c.happening.ensures ∙ sym all) gives)
