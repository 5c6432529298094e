-- The kept task is dropped where the start meets it, and else the start meets none.
use Rattle.std.proofs.Common.{◌≡◌, refl, true, sym, subst, ◌∙◌}
use Rattle.executor_model.specs.declared.types.Happening.TheVariants as h
use Rattle.task_table.specs.Tables.{StandsBefore}
use Rattle.task_table.specs.Firsts.{is_met}
use Rattle.task_table.specs.own.Heads.{IsMetBy}
use Rattle.task_table.proofs.Meeting.{none_met, drops}
use Rattle.task_table.proofs.Drops as steps
use Rattle.task_table.proofs.table.Table.drop_met.Goals as goal

pub returns-then-met-clause-dropped : goal.returns-then-met-clause-dropped
returns-then-met-clause-dropped g k =
    let e = k.in_ok-entry.entry in
    let head = k.in_ok-entry.ensures.first in
    drops k.args.self.now k.drop_at.new.self e.slot e.due e.number k.first_kept.ensures.formed head (k.drop_at.ensures.dropped head.task head.there)

pub returns-then-met-clause-met : goal.returns-then-met-clause-met
returns-then-met-clause-met g k =
    let head = k.in_ok-entry.ensures.first in
    let met = k.meets-met.ensures in
    record { task = head.task; there = head.there; kept = head.kept; first = met.first; is = met.is; met = sym (met.told head.task head.dues head.named) ∙ k.if-met.true }

pub returns-then-met-clause-steps : goal.returns-then-met-clause-steps
returns-then-met-clause-steps g k = λ worker free calls past before.
    let n = k.args.self.now in
    let head = k.in_ok-entry.ensures.first in
    let met = k.meets-met.ensures in
    let is : is_met n.moment met.first head.task ≡ true = sym (met.told head.task head.dues head.named) ∙ k.if-met.true in
    subst (λ v. StandsBefore v calls past (h.Start worker)) (sym (k.drop_at.ensures.dropped head.task head.there))
    (steps.drop_met n k.in_ok-entry.entry.slot head.task k.first_kept.ensures.formed head.there head.kept met.first met.is is worker free.0 free.1 calls past before)

pub returns-clause-none : goal.returns-clause-none
returns-clause-none g k =
    let n = k.args.self.now in
    let e = k.in_ok-entry.entry in
    (refl, none_met n e.slot e.due e.number k.in_ok-entry.ensures.first (subst (IsMetBy n e.due e.number) k.if-met.false k.meets-met.ensures))
