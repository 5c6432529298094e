-- What stands in the longer tables is what stood in them.
use Rattle.std.proofs.Common.{List, length, Option, sym, subst}
use Rattle.task_table.specs.declared.seat.Seat.{Seat}
use Rattle.task_table.specs.Tables.{TableView, Stands}
use Rattle.task_table.specs.Orders.{keys}
use Rattle.task_table.specs.own.Queues.{IsTable}
use Rattle.task_table.proofs.Tabled.{tabled_longer, on_ok}
use Rattle.task_table.proofs.Releases.{grown_stands}
use Rattle.task_table.proofs.table.TaskTable+A.reserve.Goals as goal

pub invariant_of-self-2 : goal.invariant_of-self-2
invariant_of-self-2 g c =
    let q = c.self.inside in
    let m : TableView = record { moment = q.moment; slots = q.slots; work = q.work.items; policies = q.policies; shut = q.shut; stopped = q.stopped } in
    subst (λ (s : List (Option Seat)). IsTable _ _ (record m { slots = s }) (keys c.reserve.new.self.entries.entries) (keys c.reserve-2.new.self.entries.entries) (length c.reserve.new.self.entries.entries) (length c.reserve-2.new.self.entries.entries)) (sym (on_ok c.reserve-3.result c.if-is_err-3.ensures.value c.reserve-3.ensures.grown))
    (tabled_longer m q.queue.entries.entries q.kept.entries.entries c.reserve.new.self.entries.entries c.reserve-2.new.self.entries.entries c.args.slots c.ranges.slots.fits c.self.invariant
    (on_ok c.reserve.result c.if-is_err.ensures.value c.reserve.ensures.grown) (on_ok c.reserve-2.result c.if-is_err-2.ensures.value c.reserve-2.ensures.grown))

pub returns-clause-stands : goal.returns-clause-stands
returns-clause-stands g c =
    let q = c.self.inside in
    let m : TableView = record { moment = q.moment; slots = q.slots; work = q.work.items; policies = q.policies; shut = q.shut; stopped = q.stopped } in
    λ calls past stands.
    subst (λ (s : List (Option Seat)). Stands (record m { slots = s }) calls past) (sym (on_ok c.reserve-3.result c.if-is_err-3.ensures.value c.reserve-3.ensures.grown))
    (grown_stands m c.args.slots calls past (subst (λ n. Stands n calls past) (sym c.self.view_is) stands))
