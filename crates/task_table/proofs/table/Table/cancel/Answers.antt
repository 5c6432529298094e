-- The cancel takes its step.
use Rattle.std.proofs.Common.{sym, subst}
use Rattle.executor_model.specs.declared.types.Answer.TheVariants as a
use Rattle.executor_model.specs.declared.types.Happening.TheVariants as h
use Rattle.executor_model.specs.Answers.{bare}
use Rattle.task_table.specs.Tables.{EventSteps}
use Rattle.task_table.specs.Ends.{effect_of}
use Rattle.task_table.proofs.Cancels.{cancel_steps}
use Rattle.task_table.proofs.table.Table.cancel.Goals as goal

pub returns-clause-steps : goal.returns-clause-steps
returns-clause-steps g k = λ x there.
    subst (λ r. EventSteps k.args.self.now k.cancel_held.new.self (h.Cancel x.number) (bare (a.Outside x.number r))) (sym (k.cancel_held.ensures.effect x there))
    (subst (λ n. EventSteps k.args.self.now n (h.Cancel x.number) (bare (a.Outside x.number (effect_of x)))) (sym (k.cancel_held.ensures.slots x there)) (cancel_steps k.args.self.now k.args.slot x k.cancel_held.ensures.formed there))
