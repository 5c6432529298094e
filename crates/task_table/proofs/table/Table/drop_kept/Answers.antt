-- The kept task is dropped before the sweep, or of a purge.
use Rattle.std.proofs.Common.{ℕ, Option, sym, subst}
use Rattle.std.specs.Prelude.{IfNone}
use Rattle.executor_model.specs.declared.types.Happening.TheVariants as h
use Rattle.executor_model.specs.declared.types.Answer.TheVariants as a
use Rattle.executor_model.specs.Answers.{bare}
use Rattle.task_table.specs.Tables.{StandsBefore, EventStepsBefore}
use Rattle.task_table.proofs.Meeting.{drops}
use Rattle.task_table.proofs.SweepDrops as steps
use Rattle.task_table.proofs.Purges.{purge_drops, purge_steps}
use Rattle.task_table.proofs.table.Table.drop_kept.Goals as goal

pub returns-clause-dropped : goal.returns-clause-dropped
returns-clause-dropped g k =
    let e = k.in_ok-entry.entry in
    let head = k.in_ok-entry.ensures.first in
    drops k.args.self.now k.drop_at.new.self e.slot e.due e.number k.first_kept.ensures.formed head (k.drop_at.ensures.dropped head.task head.there)

pub returns-clause-steps : goal.returns-clause-steps
returns-clause-steps g k = λ calls past p is sweeps before.
    let n = k.args.self.now in
    let head = k.in_ok-entry.ensures.first in
    subst (λ v. StandsBefore v calls past h.Call) (sym (k.drop_at.ensures.dropped head.task head.there))
    (steps.drop_kept n k.in_ok-entry.entry.slot head.task head.there k.first_kept.ensures.formed calls past p is sweeps before)

pub returns-clause-purges : goal.returns-clause-purges
returns-clause-purges g k = λ calls past before.
    let head = k.in_ok-entry.ensures.first in
    subst (λ v. StandsBefore v calls past h.Purge) (sym (k.drop_at.ensures.dropped head.task head.there))
    (purge_drops k.args.self.now k.in_ok-entry.entry.slot head.task head.there k.first_kept.ensures.formed calls past before)

pub returns-in_err-entry-clause-purged : goal.returns-in_err-entry-clause-purged
returns-in_err-entry-clause-purged g k =
    let n = k.args.self.now in
    subst (λ (o : Option ℕ). IfNone o (EventStepsBefore n n h.Purge (bare a.Purge))) (sym k.from_residual.ensures) (purge_steps n k.in_err-entry.ensures.none)
