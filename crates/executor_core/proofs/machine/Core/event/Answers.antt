use Rattle.std.proofs.Common.{◌≡◌, ◌+◌, ◌≤◌, [], ◌∷◌, length, refl, sym, ap, ◌∙◌, arith, rules, subst}
use Rattle.std.specs.Prelude.{vec_len, vec_capacity}
use Rattle.queue_code.specs.Calls.{task_count}
use Rattle.executor_model.specs.declared.types.Happening.{Happening}
use Rattle.executor_model.specs.declared.types.Happening.TheVariants as h
use Rattle.executor_model.specs.Flows.{happening_of}
use Rattle.executor_core.specs.CoreView.{CoreView, Steps, room_of}
use Rattle.executor_core.proofs.ErrorSteps.{error_only_counts}
use Rattle.executor_core.proofs.Events.{counted_once, event_continues, uncounted}
use Rattle.executor_core.proofs.Continuing.{no_steps, steps_then}
use Rattle.executor_core.proofs.Parts.{all_happened, left_after, none_happened, part_from}
use Rattle.executor_core.proofs.machine.Core.event.Goals as goal

pub loop-self-init : goal.loop-self-init
loop-self-init g c =
    let old = c.args.self.now in
    let counted = c.count.new.self in
    let lines = c.make_room.new.list.items in
    let fits : vec_len c.make_room.new.list + room_of old ≤ vec_capacity c.make_room.new.list = search rules in
    record {
      taken = refl;
      counted = c.count.ensures.runs;
      capacity = refl;
      room = subst (λ (m : CoreView). vec_len c.make_room.new.list + room_of m ≤ vec_capacity c.make_room.new.list) (sym c.count.ensures.same) fits;
      few = omega arith;
      shrinks = subst (λ (m : CoreView). room_of m ≤ room_of old) (sym c.count.ensures.same) (search rules);
      steps = (
        [],
        subst (λ l. Steps old counted l lines []) c.make_room.ensures.items (uncounted old counted counted lines lines [] c.count.ensures.same (no_steps counted lines)),
        none_happened old counted c.args.event c.count.ensures.same,
      );
    }

pub loop-self-preserved : goal.loop-self-preserved
loop-self-preserved g c =
    let kept = c.loop-self.invariant in
    let did = c.happen.ensures in
    let old = c.args.self.now in
    let mid = c.loop-self.self in
    let new = c.happen.new.self in
    let hs = kept.steps.0 in
    record {
      taken = did.leaves.taken ∙ kept.taken;
      counted = did.counted refl kept.counted;
      capacity = did.capacity ∙ kept.capacity;
      room = omega (arith, kept.room, (did.call refl).lines, did.capacity);
      few = omega (arith, kept.few, (did.call refl).lines);
      shrinks = omega (arith, kept.shrinks, did.leaves.room);
      steps = (
        h.Call ∷ hs,
        steps_then old mid new c.args.out.now.items c.loop-self.out.items c.happen.new.out.items hs (h.Call ∷ []) kept.steps.1 did.steps,
        left_after mid new c.loop-self.out.items c.happen.new.out.items c.args.event (part_from old c.args.event) hs kept.steps.2 (c.loop-self-test.ensures.call refl) did.steps,
      );
    }

pub returns-clause-steps : goal.returns-clause-steps
returns-clause-steps g c =
    let kept = c.loop-self.invariant in
    let did = c.happen-2.ensures in
    let old = c.args.self.now in
    let mid = c.loop-self.self in
    let new = c.happen-2.new.self in
    let hs = kept.steps.0 in
    let event = happening_of c.args.event in
    let last = subst (λ (x : Happening). Steps mid new c.loop-self.out.items c.happen-2.new.out.items (x ∷ [])) c.happening.ensures did.steps in
    let all = all_happened mid c.args.event (part_from old c.args.event) hs kept.steps.2 (c.loop-self-test.ensures.event refl) in
    subst (λ l. Steps old new c.args.out.now.items c.happen-2.new.out.items l) (sym all) (steps_then old mid new c.args.out.now.items c.loop-self.out.items c.happen-2.new.out.items hs (event ∷ []) kept.steps.1 last)

pub returns-clause-history : goal.returns-clause-history
returns-clause-history g c = event_continues c.args.self.now _ _ c.args.out.now.items c.happen-2.new.out.items c.args.event c.self.invariant.orderly.1 c.self.view_is (returns-clause-steps g c)

pub returns-clause-errors : goal.returns-clause-errors
returns-clause-errors g c =
    let did = c.happen-2.ensures in
    let old = c.args.self.now in
    let new = c.happen-2.new.self in
    let steps = returns-clause-steps g c in
    let count = λ (m : CoreView). length m.tasks ≡ task_count m.calls in
    error_only_counts old new c.args.out.now.items c.happen-2.new.out.items c.args.event steps (counted_once old c.count.new.self new c.count.ensures.same (did.leaves.taken ∙ c.loop-self.invariant.taken))
    (did.leaves.tasks ∙ (ap task_count steps.calls ∙ sym (subst count c.self.view_is c.self.invariant.count)))
