-- The task comes among the kept ones where it stays, and leaves the queue.
use Rattle.std.proofs.Common.{◌≡◌, ◌&&◌, List, Option, Some, None, refl, sym, ap, subst, ◌∙◌}
use Rattle.std.specs.Prelude.{not}
use Rattle.std.proofs.Math.ListN.{set}
use Rattle.task_table.specs.declared.seat.Seat.{Seat}
use Rattle.task_table.specs.Seats.{slot_of, is_waiting_in}
use Rattle.task_table.specs.Tables.{TableView}
use Rattle.task_table.specs.Changes.{put, cancelled, cancelled_keeping}
use Rattle.task_table.specs.Orders.{with_key}
use Rattle.task_table.specs.own.Queues.{IsTable}
use Rattle.task_table.proofs.Tabled.{tabled_roomy}
use Rattle.task_table.proofs.Worked.{tabled_kept, tabled_gone}
use Rattle.task_table.proofs.table.Table.cancel_seat.Goals as goal
use Rattle.task_table.proofs.table.Table.cancel_seat.Goals.{then-keeps, else-keeps}

pub invariant_of-self : goal.invariant_of-self
invariant_of-self g k =
    let T = g.Q.TaskQueue in
    let q = k.self.inside in
    let m : TableView = record { moment = q.moment; slots = g.S.Slots.seats q.slots; work = q.work.items; policies = q.policies; shut = q.shut; stopped = q.stopped } in
    let x = k.args in
    let there : slot_of m.slots x.slot ≡ Some x.seat = subst (λ (n : TableView). slot_of n.slots x.slot ≡ Some x.seat) (sym k.self.view_is) k.requires.there in
    let after = k.remove.new.self in
    let kept = k.if-keeps.self-inside.kept in
    let done : TableView = put m x.slot (cancelled m.policies.removes x.seat) in
    let keeps_is : k.stays_queued-keeps.result ≡ (is_waiting_in x.seat.phase && not m.policies.removes) = k.stays_queued-keeps.ensures in
    let done_is : record m { slots = g.S.Slots.seats k.cancel.new.self } ≡ done =
    ap (λ (l : List (Option Seat)). record m { slots = l }) (k.cancel.ensures ∙ ap (λ b. set m.slots x.slot (Some (cancelled_keeping b x.seat))) keeps_is)
    in
    elim k.if-keeps.branch [
      | then-keeps w ↦
          subst (λ n. IsTable T.admits g.S.Slots.may_run n (T.keys after) (T.keys kept) (T.room after) (T.room kept)) (sym (ap (λ s. record { moment = s.moment; slots = g.S.Slots.seats s.slots; work = s.work.items; policies = s.policies; shut = s.shut; stopped = s.stopped }) w.self-inside-is ∙ done_is))
          (tabled_roomy done (T.keys after) (T.keys kept) (T.room q.queue) (T.room q.kept) (T.room after) (T.room kept)
          (tabled_kept m x.slot x.seat (T.keys q.queue) (T.keys q.kept) (T.keys after) (T.keys kept) k.self.invariant there k.requires.live (sym keeps_is ∙ w.if-keeps.true)
          (λ i. ap (λ s. with_key (T.keys s.queue) x.slot None i) (sym w.self-inside-is) ∙ k.remove.ensures.removed i)
          (λ i. w.insert.ensures.inserted i ∙ ap (λ s. T.keys s.kept i) (sym w.self-inside-is)))
          (k.remove.ensures.room ∙ ap (λ s. T.room s.queue) w.self-inside-is) (ap (λ s. T.room s.kept) w.self-inside-is ∙ w.insert.ensures.room))
      | else-keeps w ↦
          subst (λ n. IsTable T.admits g.S.Slots.may_run n (T.keys after) (T.keys kept) (T.room after) (T.room kept)) (sym (ap (λ s. record { moment = s.moment; slots = g.S.Slots.seats s.slots; work = s.work.items; policies = s.policies; shut = s.shut; stopped = s.stopped }) w.self-inside-is ∙ done_is))
          (subst (λ h. IsTable T.admits g.S.Slots.may_run done (T.keys after) (T.keys h) (T.room after) (T.room h)) (sym (ap (λ s. s.kept) w.self-inside-is))
          (tabled_roomy done (T.keys after) (T.keys q.kept) (T.room q.queue) (T.room q.kept) (T.room after) (T.room q.kept)
          (tabled_gone m x.slot x.seat (T.keys q.queue) (T.keys q.kept) (T.keys after) k.self.invariant there k.requires.live (sym keeps_is ∙ w.if-keeps.false)
          (λ i. ap (λ s. with_key (T.keys s.queue) x.slot None i) (sym w.self-inside-is) ∙ k.remove.ensures.removed i))
          (k.remove.ensures.room ∙ ap (λ s. T.room s.queue) w.self-inside-is) refl))
    ]
