use Rattle.std.proofs.Common.{◌≡◌, [], ◌∷◌, ◌++◌, sym, ap, ◌∙◌, subst}
use Rattle.executor_model.specs.declared.types.Happening.TheVariants as happening
use Rattle.executor_model.specs.declared.types.Answer.{Answer}
use Rattle.executor_model.specs.Flows.{answer_line}
use Rattle.executor_core.specs.CoreView.{CoreView}
use Rattle.executor_core.specs.own.OwnSteps.{Takes}
use Rattle.executor_core.proofs.Events.{one_step}
use Rattle.executor_core.proofs.Continuing.{step_continues}
use Rattle.executor_core.proofs.RunNumbers.{call_counted}
use Rattle.executor_core.proofs.machine.Core.make_call.Goals as goal
use Rattle.executor_core.proofs.machine.Core.make_call.Goals.{in-Submit, in-Illegal, in-Cancel, in-Ask}

-- what a call did, as the core and the answer are named after it
takes_so : (old made new : CoreView) (said answer : Answer) → new ≡ made → answer ≡ said → Takes old made happening.Call said → Takes old new happening.Call answer
takes_so old made new said answer same is takes = subst (λ m. Takes old m happening.Call answer) (sym same) (subst (Takes old made happening.Call) (sym is) takes)

pub returns-clause-steps : goal.returns-clause-steps
returns-clause-steps g c =
    let old = c.args.self.now in
    let new = c.match-call.self in
    let answer = c.match-call.answer in
    let takes : Takes old new happening.Call answer = elim c.match-call.branch [
      | in-Submit w ↦ takes_so old w.submit-answer.new.self new w.submit-answer.result answer w.self-is w.answer-is w.submit-answer.ensures.step
      | in-Illegal w ↦ takes_so old w.refuse-answer.new.self new w.refuse-answer.result answer w.self-is w.answer-is w.refuse-answer.ensures.step
      | in-Cancel w ↦ takes_so old w.cancel_by_plan-answer.new.self new w.cancel_by_plan-answer.result answer w.self-is w.answer-is w.cancel_by_plan-answer.ensures.step
      | in-Ask w ↦ takes_so old w.ask-answer.new.self new w.ask-answer.result answer w.self-is w.answer-is w.ask-answer.ensures.step
    ]
    in
    one_step old new c.args.out.now.items c.push_reserved.new.self.items happening.Call answer takes
    (c.push_reserved.ensures.items ∙ ap (λ line. c.args.out.now.items ++ line ∷ []) c.new.ensures ∙ ap (λ n. c.args.out.now.items ++ answer_line n answer ∷ []) c.now.ensures.value ∙ ap (λ (m : CoreView). c.args.out.now.items ++ answer_line m.moment answer ∷ []) c.self-2.view_is)

pub returns-clause-history : goal.returns-clause-history
returns-clause-history g c = step_continues c.args.self.now _ c.args.out.now.items c.push_reserved.new.self.items happening.Call (returns-clause-steps g c)

pub returns-in-SetPolicy-clause-history : goal.returns-in-SetPolicy-clause-history
returns-in-SetPolicy-clause-history g c = step_continues c.args.self.now c.set_policy.new.self c.args.out.now.items c.set_policy.new.out.items happening.Call c.set_policy.ensures.steps

pub returns-in-Shutdown-clause-history : goal.returns-in-Shutdown-clause-history
returns-in-Shutdown-clause-history g c = step_continues c.args.self.now c.shut_down.new.self c.args.out.now.items c.shut_down.new.out.items happening.Call c.shut_down.ensures.steps

pub returns-in-ShutdownNow-clause-history : goal.returns-in-ShutdownNow-clause-history
returns-in-ShutdownNow-clause-history g c = step_continues c.args.self.now c.shut_down_now.new.self c.args.out.now.items c.shut_down_now.new.out.items happening.Call c.shut_down_now.ensures.steps

pub returns-in-SetPolicy-clause-counted : goal.returns-in-SetPolicy-clause-counted
returns-in-SetPolicy-clause-counted g c = call_counted c.args.self.now c.set_policy.new.self c.args.out.now.items c.set_policy.new.out.items c.set_policy.ensures.taken c.set_policy.ensures.steps

pub returns-in-Shutdown-clause-counted : goal.returns-in-Shutdown-clause-counted
returns-in-Shutdown-clause-counted g c = call_counted c.args.self.now c.shut_down.new.self c.args.out.now.items c.shut_down.new.out.items c.shut_down.ensures.taken c.shut_down.ensures.steps

pub returns-in-ShutdownNow-clause-counted : goal.returns-in-ShutdownNow-clause-counted
returns-in-ShutdownNow-clause-counted g c = call_counted c.args.self.now c.shut_down_now.new.self c.args.out.now.items c.shut_down_now.new.out.items c.shut_down_now.ensures.taken c.shut_down_now.ensures.steps

pub returns-clause-counted : goal.returns-clause-counted
returns-clause-counted g c =
    let old = c.args.self.now in
    let new = c.match-call.self in
    let same : new.taken ≡ old.taken = elim c.match-call.branch [
      | in-Submit w ↦ ap (λ (m : CoreView). m.taken) w.self-is ∙ w.submit-answer.ensures.step.taken
      | in-Illegal w ↦ ap (λ (m : CoreView). m.taken) w.self-is ∙ w.refuse-answer.ensures.step.taken
      | in-Cancel w ↦ ap (λ (m : CoreView). m.taken) w.self-is ∙ w.cancel_by_plan-answer.ensures.step.taken
      | in-Ask w ↦ ap (λ (m : CoreView). m.taken) w.self-is ∙ w.ask-answer.ensures.step.taken
    ]
    in
    call_counted old new c.args.out.now.items c.push_reserved.new.self.items same (returns-clause-steps g c)
