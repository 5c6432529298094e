-- The task leaves the queue.
use Rattle.std.proofs.Common.{◌≡◌, true, List, Option, Some, refl, sym, ap, subst, ◌∙◌}
use Rattle.std.proofs.Math.ListN.{set}
use Rattle.task_table.specs.declared.seat.Seat.{Seat}
use Rattle.task_table.specs.Seats.{slot_of}
use Rattle.task_table.specs.Tables.{TableView}
use Rattle.task_table.specs.Changes.{put}
use Rattle.task_table.specs.own.Queues.{IsTable}
use Rattle.task_table.proofs.Tabled.{tabled_roomy}
use Rattle.task_table.proofs.Worked.{tabled_ended, ends_as}
use Rattle.task_table.proofs.table.Table.end_seat.Goals as goal

pub invariant_of-self : goal.invariant_of-self
invariant_of-self g k =
    let T = g.Q.TaskQueue in
    let q = k.self.inside in
    let m : TableView = record { moment = q.moment; slots = g.S.Slots.seats q.slots; work = q.work.items; policies = q.policies; shut = q.shut; stopped = q.stopped } in
    let x = k.args in
    let y : Seat = record x.seat { cancelled = true } in
    let there : slot_of m.slots x.slot ≡ Some x.seat = subst (λ (n : TableView). slot_of n.slots x.slot ≡ Some x.seat) (sym k.self.view_is) k.requires.there in
    subst (λ (s : List (Option Seat)). IsTable T.admits g.S.Slots.may_run (record m { slots = s }) (T.keys k.remove.new.self) (T.keys q.kept) (T.room k.remove.new.self) (T.room q.kept))
    (sym (k.cancel.ensures ∙ ap (λ (z : Seat). set m.slots x.slot (Some z)) (ends_as x.seat)))
    (tabled_roomy (put m x.slot y) (T.keys k.remove.new.self) (T.keys q.kept) (T.room q.queue) (T.room q.kept) (T.room k.remove.new.self) (T.room q.kept)
    (tabled_ended m x.slot x.seat (T.keys q.queue) (T.keys q.kept) (T.keys k.remove.new.self) k.self.invariant there k.remove.ensures.removed) k.remove.ensures.room refl)
