use Rattle.std.proofs.Common.{◌≡◌, length, [], ◌∷◌, ◌++◌, ap, ◌∙◌, arith, subst}
use Rattle.executor_model.specs.declared.types.Happening.TheVariants as h
use Rattle.queue_code.specs.Calls.{task_count}
use Rattle.executor_model.specs.Flows.{answer_line}
use Rattle.executor_core.specs.CoreView.{CoreView}
use Rattle.executor_core.proofs.Events.{one_step}
use Rattle.executor_core.proofs.Continuing.{step_continues}
use Rattle.executor_core.proofs.Rooms.{room_stays}
use Rattle.executor_core.proofs.machine.Core.start.Goals as goal

pub returns-clause-steps : goal.returns-clause-steps
returns-clause-steps g c =
    one_step c.args.self.now c.answer_start-answer.new.self c.args.out.now.items c.push_reserved.new.self.items (h.Start c.args.worker) c.answer_start-answer.result c.answer_start-answer.ensures.step
    (c.push_reserved.ensures.items ∙ ap (λ line. c.args.out.now.items ++ line ∷ []) c.new.ensures ∙ ap (λ n. c.args.out.now.items ++ answer_line n c.answer_start-answer.result ∷ []) c.now.ensures.value ∙ ap (λ (m : CoreView). c.args.out.now.items ++ answer_line m.moment c.answer_start-answer.result ∷ []) c.self.view_is)

pub returns-clause-history : goal.returns-clause-history
returns-clause-history g c = step_continues c.args.self.now _ c.args.out.now.items c.push_reserved.new.self.items (h.Start c.args.worker) (returns-clause-steps g c)

pub returns-clause-leaves : goal.returns-clause-leaves
returns-clause-leaves g c = record {
  taken = c.answer_start-answer.ensures.step.taken;
  tasks = subst (λ (m : CoreView). length m.tasks ≡ task_count m.calls) c.self.view_is c.self.invariant.count;
  room = room_stays c.args.self.now c.answer_start-answer.new.self c.args.out.now.items c.push_reserved.new.self.items (h.Start c.args.worker) (returns-clause-steps g c) c.answer_start-answer.ensures.size;
  few = omega (arith, c.push_reserved.ensures.len);
}
