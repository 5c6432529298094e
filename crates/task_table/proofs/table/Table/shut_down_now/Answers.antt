-- The call takes its step, and ends the tasks that it sweeps.
use Rattle.std.proofs.Common.{sym, subst}
use Rattle.queue_code.specs.declared.call.CodeCall.TheVariants as c
use Rattle.executor_model.specs.declared.types.Answer.TheVariants as a
use Rattle.task_table.specs.Tables.{CallStepsBefore}
use Rattle.task_table.specs.Endings.{SweepEnds, numbers_of}
use Rattle.task_table.proofs.Sweeps.{stop_sweeps}
use Rattle.task_table.proofs.table.Table.shut_down_now.Goals as goal

pub returns-clause-swept : goal.returns-clause-swept
returns-clause-swept g k = subst (λ m. SweepEnds m k.sweep.new.self k.sweep.new.ends.items) k.stop_at.ensures k.sweep.ensures.ends

pub returns-clause-sweeps : goal.returns-clause-sweeps
returns-clause-sweeps g k =
    let x = k.args in
    let s = subst (λ m. SweepEnds m k.sweep.new.self k.sweep.new.ends.items) k.stop_at.ensures k.sweep.ensures.ends in
    subst (λ v. CallStepsBefore x.self.now v (x.at, c.ShutdownNow) (record { answer = a.ShutdownNow; ends = numbers_of k.sweep.new.ends.items })) (sym s.is)
    (stop_sweeps x.self.now x.at (numbers_of k.sweep.new.ends.items) k.requires.kept k.requires.moment s.ended)
