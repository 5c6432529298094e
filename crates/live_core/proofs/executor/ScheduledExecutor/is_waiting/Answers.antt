-- The slot that holds the task tells, also where that is its own.
use Rattle.std.proofs.Common.{◌∙◌, false, sym, ap}
use Rattle.std.specs.Option.{option_map_or}
use Rattle.task_table.specs.Seats.{task_in, slot_of, waits}
use Rattle.live_core.specs.Lives.{LiveView}
use Rattle.live_core.specs.Said.{is_waiting_there}
use Rattle.live_core.proofs.Waiting.{waits_told}
use Rattle.live_core.proofs.executor.ScheduledExecutor.is_waiting.Goals as goal

pub returns-in-Some-clause-there : goal.returns-in-Some-clause-there
returns-in-Some-clause-there g c = λ q.
    let e = c.self.inside in
    let m : LiveView = record { table = e.table; count = e.count; accepted = e.accepted; earliest = e.earliest; ended = e.ended.items } in
    let slot = c.in-Some.slot in
    c.waits_in.ensures ∙ (ap (λ (v : LiveView). option_map_or (λ x. waits (task_in x)) (slot_of v.table.slots slot) false) (sym c.self.view_is)
    ∙ waits_told m c.args.task slot e.count e.notes.entries c.self.invariant.noted.index c.in-Some.ensures (ap (λ (v : LiveView). is_waiting_there v.table c.args.task) c.self.view_is ∙ q))
