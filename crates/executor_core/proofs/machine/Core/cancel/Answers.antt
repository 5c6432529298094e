use Rattle.std.proofs.Common.{sym, ◌≡◌, length, [], ◌∷◌, ◌++◌, ap, ◌∙◌, arith, subst}
use Rattle.executor_model.specs.declared.types.Happening.TheVariants as h
use Rattle.queue_code.specs.Calls.{task_count}
use Rattle.executor_model.specs.Flows.{answer_line}
use Rattle.executor_model.specs.Answers.{Reply}
use Rattle.executor_model.specs.State.{State}
use Rattle.executor_core.specs.CoreView.{CoreView}
use Rattle.executor_core.proofs.Events.{one_step}
use Rattle.executor_core.proofs.Continuing.{step_continues}
use Rattle.executor_core.proofs.Rooms.{room_stays}
use Rattle.executor_core.proofs.RunNumbers.{cancel_counted}
use Rattle.executor_core.proofs.machine.Core.cancel.Goals as goal

pub returns-clause-steps : goal.returns-clause-steps
returns-clause-steps g c =
    one_step c.args.self.now c.answer_cancel-answer.new.self c.args.out.now.items c.push_reserved.new.self.items (h.Cancel c.args.task) c.answer_cancel-answer.result c.answer_cancel-answer.ensures.step
    (c.push_reserved.ensures.items ∙ ap (λ line. c.args.out.now.items ++ line ∷ []) c.new.ensures ∙ ap (λ n. c.args.out.now.items ++ answer_line n c.answer_cancel-answer.result ∷ []) c.now.ensures.value ∙ ap (λ (m : CoreView). c.args.out.now.items ++ answer_line m.moment c.answer_cancel-answer.result ∷ []) c.self.view_is)

pub returns-clause-history : goal.returns-clause-history
returns-clause-history g c = step_continues c.args.self.now _ c.args.out.now.items c.push_reserved.new.self.items (h.Cancel c.args.task) (returns-clause-steps g c)

pub returns-clause-leaves : goal.returns-clause-leaves
returns-clause-leaves g c = record {
  taken = c.answer_cancel-answer.ensures.step.taken;
  tasks = subst (λ (m : CoreView). length m.tasks ≡ task_count m.calls) c.self.view_is c.self.invariant.count;
  room = room_stays c.args.self.now c.answer_cancel-answer.new.self c.args.out.now.items c.push_reserved.new.self.items (h.Cancel c.args.task) (returns-clause-steps g c) c.answer_cancel-answer.ensures.size;
  few = omega (arith, c.push_reserved.ensures.len);
}

pub returns-clause-effective : goal.returns-clause-effective
returns-clause-effective g c = λ q.
    let did = c.answer_cancel-answer.ensures in
    let is = sym (ap (λ (r : Reply). r.answer) did.step.said) ∙ q in
    let made = ap (λ (s : State). s.made) did.step.state in
    let calls = ap length did.step.calls in
    record {
      lines = omega (arith, c.push_reserved.ensures.len, did.fewer is, made, calls);
      less = omega (arith, did.fewer is, made, calls);
    }

pub returns-clause-counted : goal.returns-clause-counted
returns-clause-counted g c = cancel_counted c.args.self.now c.answer_cancel-answer.new.self c.args.out.now.items c.push_reserved.new.self.items c.args.task c.answer_cancel-answer.ensures.step.taken (returns-clause-steps g c)
