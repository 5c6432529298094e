-- The slot is emptied, and the table stands where it stood.
use Rattle.std.proofs.Common.{◌≡◌, List, length, Option, Some, sym, subst}
use Rattle.task_table.specs.declared.seat.Seat.{Seat}
use Rattle.task_table.specs.Seats.{slot_of}
use Rattle.task_table.specs.Tables.{TableView, Stands, StandsBefore}
use Rattle.task_table.specs.Orders.{keys}
use Rattle.task_table.specs.own.Queues.{IsTable}
use Rattle.task_table.proofs.Tabled.{tabled_emptied}
use Rattle.task_table.proofs.Releases.{release_stands, release_before}
use Rattle.task_table.proofs.table.TaskTable+A.release.Goals as goal

pub invariant_of-self : goal.invariant_of-self
invariant_of-self g k =
    let q = k.self.inside in
    let m : TableView = record { moment = q.moment; slots = q.slots; work = q.work.items; policies = q.policies; shut = q.shut; stopped = q.stopped } in
    let x = k.args in
    let there : slot_of m.slots x.slot ≡ Some k.requires.0 = subst (λ (n : TableView). slot_of n.slots x.slot ≡ Some k.requires.0) (sym k.self.view_is) k.requires.1 in
    subst (λ (s : List (Option Seat)). IsTable _ _ (record m { slots = s }) (keys q.queue.entries.entries) (keys q.kept.entries.entries) (length q.queue.entries.entries) (length q.kept.entries.entries)) (sym k.release.ensures)
    (tabled_emptied m x.slot k.requires.0 (keys q.queue.entries.entries) (keys q.kept.entries.entries) k.self.invariant there k.requires.2)

pub returns-clause-stands : goal.returns-clause-stands
returns-clause-stands g k =
    let q = k.self.inside in
    let m : TableView = record { moment = q.moment; slots = q.slots; work = q.work.items; policies = q.policies; shut = q.shut; stopped = q.stopped } in
    let x = k.args in
    let there : slot_of m.slots x.slot ≡ Some k.requires.0 = subst (λ (n : TableView). slot_of n.slots x.slot ≡ Some k.requires.0) (sym k.self.view_is) k.requires.1 in
    λ calls past stands.
    subst (λ (s : List (Option Seat)). Stands (record m { slots = s }) calls past) (sym k.release.ensures)
    (release_stands m x.slot k.requires.0 k.self.invariant.formed there k.requires.2 calls past (subst (λ n. Stands n calls past) (sym k.self.view_is) stands))

pub returns-clause-stands_before : goal.returns-clause-stands_before
returns-clause-stands_before g k =
    let q = k.self.inside in
    let m : TableView = record { moment = q.moment; slots = q.slots; work = q.work.items; policies = q.policies; shut = q.shut; stopped = q.stopped } in
    let x = k.args in
    let there : slot_of m.slots x.slot ≡ Some k.requires.0 = subst (λ (n : TableView). slot_of n.slots x.slot ≡ Some k.requires.0) (sym k.self.view_is) k.requires.1 in
    λ calls past y before.
    subst (λ (s : List (Option Seat)). StandsBefore (record m { slots = s }) calls past y) (sym k.release.ensures)
    (release_before m x.slot k.requires.0 k.self.invariant.formed there k.requires.2 calls past y (subst (λ n. StandsBefore n calls past y) (sym k.self.view_is) before))
