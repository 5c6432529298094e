-- The task has an entry again where it goes on.
use Rattle.std.proofs.Common.{◌≡◌, List, Option, Some, None, refl, sym, ap, subst}
use Rattle.std.specs.Prelude.{slice_index_or}
use Rattle.executor_model.specs.State.{due_past}
use Rattle.task_table.specs.declared.seat.Seat.{Seat}
use Rattle.task_table.specs.Seats.{slot_of}
use Rattle.task_table.specs.Tables.{TableView}
use Rattle.task_table.specs.Changes.{finished}
use Rattle.task_table.specs.own.Queues.{IsTable, is_again}
use Rattle.task_table.proofs.Tabled.{tabled_roomy}
use Rattle.task_table.proofs.Worked.{tabled_again, tabled_over, not_again}
use Rattle.task_table.proofs.table.Table.end.Goals as goal

pub invariant_of-self : goal.invariant_of-self
invariant_of-self g k =
    let T = g.Q.TaskQueue in
    let q = k.self.inside in
    let m : TableView = record { moment = q.moment; slots = g.S.Slots.seats q.slots; work = q.work.items; policies = q.policies; shut = q.shut; stopped = q.stopped } in
    let x = k.args in
    let there : slot_of m.slots x.slot ≡ Some x.seat = subst (λ (n : TableView). slot_of n.slots x.slot ≡ Some x.seat) (sym k.self.view_is) k.requires.there in
    let works : slice_index_or m.work x.worker None ≡ Some x.slot = subst (λ (n : TableView). slice_index_or n.work x.worker None ≡ Some x.slot) (sym k.self.view_is) k.requires.works in
    let dues : x.due ≡ due_past x.seat.timing x.seat.due m.moment = subst (λ (n : TableView). x.due ≡ due_past x.seat.timing x.seat.due n.moment) (sym k.self.view_is) k.requires.due in
    let o = k.requires.outcome in
    let n : TableView = finished m x.worker x.slot x.seat x.outcome x.due in
    subst (λ (s : List (Option Seat)). IsTable T.admits g.S.Slots.may_run (record n { slots = s }) (T.keys k.insert.new.self) (T.keys q.kept) (T.room k.insert.new.self) (T.room q.kept)) (sym k.end.ensures)
    (tabled_roomy n (T.keys k.insert.new.self) (T.keys q.kept) (T.room q.queue) (T.room q.kept) (T.room k.insert.new.self) (T.room q.kept)
    (tabled_again m x.worker x.slot x.seat o.0 o.1 x.outcome x.due (T.keys q.queue) (T.keys q.kept) (T.keys k.insert.new.self) k.self.invariant works there dues o.2 (ap is_again k.in-Again.is) k.insert.ensures.inserted)
    k.insert.ensures.room refl)

pub invariant_of-self-in_default : goal.invariant_of-self-in_default
invariant_of-self-in_default g k =
    let T = g.Q.TaskQueue in
    let q = k.self.inside in
    let m : TableView = record { moment = q.moment; slots = g.S.Slots.seats q.slots; work = q.work.items; policies = q.policies; shut = q.shut; stopped = q.stopped } in
    let x = k.args in
    let there : slot_of m.slots x.slot ≡ Some x.seat = subst (λ (n : TableView). slot_of n.slots x.slot ≡ Some x.seat) (sym k.self.view_is) k.requires.there in
    let works : slice_index_or m.work x.worker None ≡ Some x.slot = subst (λ (n : TableView). slice_index_or n.work x.worker None ≡ Some x.slot) (sym k.self.view_is) k.requires.works in
    let dues : x.due ≡ due_past x.seat.timing x.seat.due m.moment = subst (λ (n : TableView). x.due ≡ due_past x.seat.timing x.seat.due n.moment) (sym k.self.view_is) k.requires.due in
    let o = k.requires.outcome in
    let n : TableView = finished m x.worker x.slot x.seat x.outcome x.due in
    subst (λ (s : List (Option Seat)). IsTable T.admits g.S.Slots.may_run (record n { slots = s }) (T.keys q.queue) (T.keys q.kept) (T.room q.queue) (T.room q.kept)) (sym k.end.ensures)
    (tabled_over m x.worker x.slot x.seat o.0 o.1 x.outcome x.due (T.keys q.queue) (T.keys q.kept) k.self.invariant works there dues o.2 (not_again x.outcome k.in_default.not-Again))
