-- The call takes its step, and ends the tasks that it sweeps.
use Rattle.std.proofs.Common.{sym, subst}
use Rattle.queue_code.specs.declared.call.CodeCall.TheVariants as c
use Rattle.executor_model.specs.declared.types.Answer.TheVariants as a
use Rattle.executor_model.specs.Answers.{bare}
use Rattle.task_table.specs.Tables.{CallSteps, CallStepsBefore}
use Rattle.task_table.specs.Endings.{SweepEnds, numbers_of}
use Rattle.task_table.proofs.Policies.{policy_steps}
use Rattle.task_table.proofs.Sweeps.{policy_sweeps}
use Rattle.task_table.proofs.table.Table.set_policy.Goals as goal

pub returns-then-still-clause-steps : goal.returns-then-still-clause-steps
returns-then-still-clause-steps g k = λ q.
    let x = k.args in
    subst (λ v. CallSteps x.self.now v (x.at, c.SetPolicy x.which x.value) (bare (a.Policy x.which x.value))) (sym k.set.ensures) (policy_steps x.self.now x.at x.which x.value q k.requires.moment)

pub returns-clause-swept : goal.returns-clause-swept
returns-clause-swept g k = λ q. subst (λ m. SweepEnds m k.sweep.new.self k.sweep.new.ends.items) k.set.ensures k.sweep.ensures.ends

pub returns-clause-sweeps : goal.returns-clause-sweeps
returns-clause-sweeps g k = λ q.
    let x = k.args in
    let s = subst (λ m. SweepEnds m k.sweep.new.self k.sweep.new.ends.items) k.set.ensures k.sweep.ensures.ends in
    subst (λ v. CallStepsBefore x.self.now v (x.at, c.SetPolicy x.which x.value) (record { answer = a.Policy x.which x.value; ends = numbers_of k.sweep.new.ends.items })) (sym s.is)
    (policy_sweeps x.self.now x.at x.which x.value (numbers_of k.sweep.new.ends.items) q (k.requires.kept q) k.requires.moment s.ended)
