-- The call takes its step.
use Rattle.std.proofs.Common.{sym, subst, ap, ◌∙◌, arith}
use Rattle.queue_code.specs.declared.call.CodeCall.TheVariants as c
use Rattle.executor_model.specs.declared.types.Answer.TheVariants as a
use Rattle.executor_model.specs.Answers.{bare}
use Rattle.task_table.specs.Tables.{TableView, CallSteps}
use Rattle.task_table.specs.Ends.{effect_of}
use Rattle.task_table.specs.Changes.{at_moment}
use Rattle.task_table.proofs.Cancels.{call_cancel_steps}
use Rattle.task_table.proofs.Worked.{cancel_moment}
use Rattle.task_table.proofs.table.Table.cancel_by_call.Goals as goal

pub pass-requires-clause-moment : goal.pass-requires-clause-moment
pass-requires-clause-moment g k =
    let there = k.requires.there in
    let same = ap (λ (m : TableView). m.moment) (k.cancel_held-effect.ensures.slots there.0 there.1) ∙ cancel_moment k.args.self.now k.args.slot there.0 in
    omega (arith, same, k.requires.moment)

pub returns-clause-steps : goal.returns-clause-steps
returns-clause-steps g k = λ x there.
    let new = k.pass.ensures.slots ∙ ap (λ m. at_moment m k.args.at) (k.cancel_held-effect.ensures.slots x there) in
    subst (λ r. CallSteps k.args.self.now k.pass.new.self (k.args.at, c.Cancel x.number) (bare (a.Cancel x.number r))) (sym (k.cancel_held-effect.ensures.effect x there))
    (subst (λ n. CallSteps k.args.self.now n (k.args.at, c.Cancel x.number) (bare (a.Cancel x.number (effect_of x)))) (sym new)
    (call_cancel_steps k.args.self.now k.args.slot k.args.at x k.cancel_held-effect.ensures.formed there k.requires.moment))
