-- The task leaves the queue of kept ones.
use Rattle.std.proofs.Common.{List, Option, refl, sym, subst}
use Rattle.task_table.specs.declared.seat.Seat.{Seat}
use Rattle.task_table.specs.Tables.{TableView}
use Rattle.task_table.specs.Changes.{put, unkept}
use Rattle.task_table.specs.own.Queues.{IsTable}
use Rattle.task_table.proofs.Tabled.{tabled_roomy}
use Rattle.task_table.proofs.Worked.{tabled_unkept}
use Rattle.task_table.proofs.table.Table.drop_at.Goals as goal

pub invariant_of-self : goal.invariant_of-self
invariant_of-self g k =
    let T = g.Q.TaskQueue in
    let q = k.self.inside in
    let t : IsTable T.admits g.S.Slots.may_run k.args.self.now (T.keys q.queue) (T.keys q.kept) (T.room q.queue) (T.room q.kept) =
    subst (λ m. IsTable T.admits g.S.Slots.may_run m (T.keys q.queue) (T.keys q.kept) (T.room q.queue) (T.room q.kept)) k.self.view_is k.self.invariant
    in
    let x = k.args in
    let m : TableView = record { moment = q.moment; slots = g.S.Slots.seats q.slots; work = q.work.items; policies = q.policies; shut = q.shut; stopped = q.stopped } in
    let seat = k.held-seat.result in
    subst (λ (s : List (Option Seat)). IsTable T.admits g.S.Slots.may_run (record m { slots = s }) (T.keys q.queue) (T.keys k.remove.new.self) (T.room q.queue) (T.room k.remove.new.self)) (sym k.unkeep.ensures)
    (subst (λ v. IsTable T.admits g.S.Slots.may_run (put v x.slot (unkept seat)) (T.keys q.queue) (T.keys k.remove.new.self) (T.room q.queue) (T.room k.remove.new.self)) (sym k.self.view_is)
    (tabled_roomy (put x.self.now x.slot (unkept seat)) (T.keys q.queue) (T.keys k.remove.new.self) (T.room q.queue) (T.room q.kept) (T.room q.queue) (T.room k.remove.new.self)
    (tabled_unkept x.self.now x.slot seat (T.keys q.queue) (T.keys q.kept) (T.keys k.remove.new.self) t k.held-seat.ensures.held k.remove.ensures.removed) refl k.remove.ensures.room))
