-- The kept tasks that the start meets are gone, and it takes its step.
use Rattle.task_table.proofs.Spent.{may_run}
use Rattle.live_core.proofs.Alive.{alive_started}
use Rattle.live_core.proofs.Workers.{start_numbers, noted_started, runs_started, steps_started}
use Rattle.live_core.proofs.Leaving.{leaves_same, leaves_more}
use Rattle.live_core.proofs.running.begin_run.Goals as goal

pub start-requires-clause-runs : goal.start-requires-clause-runs
start-requires-clause-runs g c = may_run c.drop_met.new.table

pub returns-clause-noted : goal.returns-clause-noted
returns-clause-noted g c = λ count ended_room noted.
    let n = c.drop_met.new.notes in
    noted_started c.drop_met.new.table c.start.new.self c.args.worker c.in-Ok.begun count n.free n.entries n.slot_room ended_room c.in-Ok.ensures.started (c.drop_met.ensures.noted count ended_room noted)

pub returns-clause-runs : goal.returns-clause-runs
returns-clause-runs g c = runs_started c.drop_met.new.table c.start.new.self c.args.worker c.in-Ok.begun c.in-Ok.ensures.started

pub returns-clause-steps : goal.returns-clause-steps
returns-clause-steps g c = steps_started c.args.table.now c.drop_met.new.table c.start.new.self c.args.worker c.in-Ok.begun c.requires.free c.drop_met.ensures.sheds c.in-Ok.ensures.started

pub returns-clause-alive : goal.returns-clause-alive
returns-clause-alive g c = λ alive. alive_started c.drop_met.new.table c.start.new.self c.args.worker c.in-Ok.begun c.in-Ok.ensures.started (c.drop_met.ensures.alive alive)

pub returns-clause-leaves : goal.returns-clause-leaves
returns-clause-leaves g c =
    let mid = c.drop_met.new.table in
    let new = c.start.new.self in
    leaves_more c.args.table.now.slots mid.slots new.slots c.drop_met.ensures.leaves (leaves_same mid.slots new.slots (start_numbers mid new c.args.worker c.in-Ok.begun c.in-Ok.ensures.started))
