use Rattle.std.proofs.Common.{◌≡◌, length, [], ◌∷◌, ◌++◌, ap, ◌∙◌, arith, subst}
use Rattle.executor_model.specs.declared.types.Happening.TheVariants as h
use Rattle.executor_model.specs.declared.types.Answer.TheVariants as a
use Rattle.queue_code.specs.Calls.{task_count}
use Rattle.executor_model.specs.Flows.{answer_line}
use Rattle.executor_core.specs.CoreView.{CoreView}
use Rattle.executor_core.proofs.Events.{one_step}
use Rattle.executor_core.proofs.Continuing.{step_continues}
use Rattle.executor_core.proofs.Rooms.{room_stays}
use Rattle.executor_core.proofs.RunNumbers.{purge_counted}
use Rattle.executor_core.proofs.machine.Core.purge.Goals as goal

pub returns-clause-steps : goal.returns-clause-steps
returns-clause-steps g c =
    one_step c.args.self.now c.take_out_kept.new.self c.args.out.now.items c.push_reserved.new.self.items h.Purge a.Purge c.take_out_kept.ensures.step
    (c.push_reserved.ensures.items ∙ ap (λ line. c.args.out.now.items ++ line ∷ []) c.new.ensures ∙ ap (λ n. c.args.out.now.items ++ answer_line n a.Purge ∷ []) c.now.ensures.value ∙ ap (λ (m : CoreView). c.args.out.now.items ++ answer_line m.moment a.Purge ∷ []) c.self.view_is)

pub returns-clause-history : goal.returns-clause-history
returns-clause-history g c = step_continues c.args.self.now _ c.args.out.now.items c.push_reserved.new.self.items h.Purge (returns-clause-steps g c)

pub returns-clause-leaves : goal.returns-clause-leaves
returns-clause-leaves g c = record {
  taken = c.take_out_kept.ensures.step.taken;
  tasks = subst (λ (m : CoreView). length m.tasks ≡ task_count m.calls) c.self.view_is c.self.invariant.count;
  room = room_stays c.args.self.now c.take_out_kept.new.self c.args.out.now.items c.push_reserved.new.self.items h.Purge (returns-clause-steps g c) c.take_out_kept.ensures.size;
  few = omega (arith, c.push_reserved.ensures.len);
}

pub returns-clause-counted : goal.returns-clause-counted
returns-clause-counted g c = purge_counted c.args.self.now c.take_out_kept.new.self c.args.out.now.items c.push_reserved.new.self.items c.take_out_kept.ensures.step.taken (returns-clause-steps g c)
