-- The queues have an entry for the task that comes.
use Rattle.std.proofs.Common.{ℕ, List, length, Option, refl, sym, ap, subst, ◌∙◌}
use Rattle.task_table.specs.declared.seat.Seat.{Seat}
use Rattle.task_table.specs.declared.image.Image.{Image}
use Rattle.task_table.specs.Seats.{IsNew}
use Rattle.task_table.specs.Tables.{TableView}
use Rattle.task_table.specs.Orders.{keys, with_key}
use Rattle.task_table.specs.own.Queues.{IsTable, key_where}
use Rattle.task_table.specs.own.Restoring.{Fits, placed}
use Rattle.task_table.proofs.Tabled.{tabled_roomy}
use Rattle.task_table.proofs.Placing.{tabled_placed, may_run}
use Rattle.task_table.proofs.restoring.TaskTable+A.place.Goals as goal

pub invariant_of-self : goal.invariant_of-self
invariant_of-self g c =
    let q = c.self.inside in
    let x : Image = record { slot = c.args.slot; worker = c.args.worker; seat = c.args.seat } in
    let m : TableView = record { moment = q.moment; slots = q.slots; work = q.work.items; policies = q.policies; shut = q.shut; stopped = q.stopped } in
    let fits : Fits m x = subst (λ (v : TableView). Fits v x) (sym c.self.view_is) c.requires.fits in
    let fresh : IsNew m.slots x.seat.number = subst (λ (v : TableView). IsNew v.slots x.seat.number) (sym c.self.view_is) c.requires.new in
    subst (λ (s : List (Option Seat)). IsTable _ _ (record m { slots = s; work = c.staff.new.work.items }) (keys c.enter.new.queue.entries.entries) (keys c.enter-2.new.queue.entries.entries) (length c.enter.new.queue.entries.entries) (length c.enter-2.new.queue.entries.entries)) (sym {A = List (Option Seat)} c.put.ensures)
    (subst (λ (w : List (Option ℕ)). IsTable _ _ (record (placed m x) { work = w }) (keys c.enter.new.queue.entries.entries) (keys c.enter-2.new.queue.entries.entries) (length c.enter.new.queue.entries.entries) (length c.enter-2.new.queue.entries.entries)) (sym {A = List (Option ℕ)} c.staff.ensures)
    (tabled_roomy (placed m x) (keys c.enter.new.queue.entries.entries) (keys c.enter-2.new.queue.entries.entries) (length q.queue.entries.entries) (length q.kept.entries.entries) (length c.enter.new.queue.entries.entries) (length c.enter-2.new.queue.entries.entries)
    (tabled_placed m x (keys q.queue.entries.entries) (keys q.kept.entries.entries) (keys c.enter.new.queue.entries.entries) (keys c.enter-2.new.queue.entries.entries) c.self.invariant fresh fits refl (may_run m x fits)
    (λ i. ap (λ b. with_key (keys q.queue.entries.entries) x.slot (key_where b x.seat) i) (sym c.waits-waiting.ensures) ∙ c.enter.ensures.entered i) c.enter-2.ensures.entered)
    c.enter.ensures.room c.enter-2.ensures.room))
