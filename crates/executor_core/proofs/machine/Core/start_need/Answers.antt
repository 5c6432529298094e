-- What a start moves, by the first task that is due.
use Rattle.std.proofs.Common.{IfNone, subst}
use Rattle.executor_model.proofs.Tables.{none_of}
use Rattle.task_table.specs.Runs.{IsFree}
use Rattle.executor_core.proofs.Needing.{started_needs, idle_needs}
use Rattle.executor_core.proofs.machine.Core.start_need.Goals as goal

pub returns-in-Some : goal.returns-in-Some
returns-in-Some g c =
    let m = c.self.inside in
    let free = subst (λ o. IfNone o (IsFree m.table c.args.worker)) (none_of c.start_error.result c.if-is_some.ensures) c.start_error.ensures.free in
    let first = c.in-Some.ensures.first in
    started_needs m.calls.items m.limit m.taken m.calls.made m.table m.sought c.args.worker c.in-Some.first.slot first.0 c.args.self.now c.self.invariant c.self.view_is free first.1

pub returns-in-None : goal.returns-in-None
returns-in-None g c =
    let m = c.self.inside in
    let free = subst (λ o. IfNone o (IsFree m.table c.args.worker)) (none_of c.start_error.result c.if-is_some.ensures) c.start_error.ensures.free in
    idle_needs m.calls.items m.limit m.taken m.calls.made m.table m.sought c.args.worker c.args.self.now c.self.invariant c.self.view_is free c.in-None.ensures.none
