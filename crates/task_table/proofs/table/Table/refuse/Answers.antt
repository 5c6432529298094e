-- The call that is refused takes its step.
use Rattle.std.proofs.Common.{sym, subst}
use Rattle.queue_code.specs.declared.call.CodeCall.TheVariants as c
use Rattle.executor_model.specs.declared.types.Answer.TheVariants as a
use Rattle.executor_model.specs.declared.types.Refusal.TheVariants as refusal
use Rattle.executor_model.specs.Answers.{bare}
use Rattle.task_table.specs.Tables.{CallSteps}
use Rattle.task_table.specs.Changes.{at_moment}
use Rattle.task_table.proofs.Submits.{refuse_steps}
use Rattle.task_table.proofs.table.Table.refuse.Goals as goal

pub returns-clause-steps : goal.returns-clause-steps
returns-clause-steps g k =
    let x = k.args in
    λ number timing delay. subst (λ m. CallSteps x.self.now (at_moment m x.at) (x.at, c.Submit number timing delay) (bare (a.Refuse number refusal.Rejected))) (sym k.self.view_is)
    (refuse_steps x.self.now number x.at delay timing k.requires.shut k.requires.moment)
