-- The task leaves the queue.
use Rattle.std.proofs.Common.{List, Option, refl, sym, subst}
use Rattle.task_table.specs.declared.seat.Seat.{Seat}
use Rattle.task_table.specs.Tables.{TableView}
use Rattle.task_table.specs.Changes.{started}
use Rattle.task_table.specs.Firsts.{IsFirstDue}
use Rattle.task_table.specs.Runs.{IsFree}
use Rattle.task_table.specs.own.Queues.{IsTable}
use Rattle.task_table.proofs.Tabled.{tabled_roomy}
use Rattle.task_table.proofs.Worked.{tabled_started}
use Rattle.task_table.proofs.table.Table.begin.Goals as goal

pub invariant_of-self : goal.invariant_of-self
invariant_of-self g k =
    let T = g.Q.TaskQueue in
    let q = k.self.inside in
    let m : TableView = record { moment = q.moment; slots = g.S.Slots.seats q.slots; work = q.work.items; policies = q.policies; shut = q.shut; stopped = q.stopped } in
    let x = k.args in
    let n : TableView = started m x.worker x.slot x.seat in
    let first : IsFirstDue m x.slot x.seat = subst (λ v. IsFirstDue v x.slot x.seat) (sym k.self.view_is) k.requires.first in
    let free = subst (λ v. IsFree v x.worker) (sym k.self.view_is) k.requires.free in
    let may = k.requires.runs in
    subst (λ (s : List (Option Seat)). IsTable T.admits g.S.Slots.may_run (record n { slots = s }) (T.keys k.remove.new.self) (T.keys q.kept) (T.room k.remove.new.self) (T.room q.kept)) (sym k.begin.ensures)
    (tabled_roomy n (T.keys k.remove.new.self) (T.keys q.kept) (T.room q.queue) (T.room q.kept) (T.room k.remove.new.self) (T.room q.kept)
    (tabled_started m x.worker x.slot x.seat (T.keys q.queue) (T.keys q.kept) (T.keys k.remove.new.self) k.self.invariant free.0 free.1 first (g.met.S.Slots.follows x.seat.run may) may k.remove.ensures.removed) k.remove.ensures.room refl)
