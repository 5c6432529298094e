-- The finish takes its step, also once the slot of the task is emptied.
use Rattle.live_core.proofs.Alive.{alive_finished}
use Rattle.live_core.proofs.Workers.{finish_numbers, noted_finished, steps_finished}
use Rattle.live_core.proofs.Leaving.{leaves_same, leaves_more}
use Rattle.live_core.proofs.running.end_run.Goals as goal

pub release_left-requires-clause-noted : goal.release_left-requires-clause-noted
release_left-requires-clause-noted g c =
    let known = c.requires.noted in
    let n = c.args.notes.now in
    (known.0, known.1, noted_finished c.args.table.now c.finish.new.self c.args.worker c.args.ending c.in-Ok.ended known.0 n.free n.entries n.slot_room known.1 c.in-Ok.ensures.ended known.2)

pub returns-in-Ok-clause-noted : goal.returns-in-Ok-clause-noted
returns-in-Ok-clause-noted g c = λ count ended_room noted.
    let n = c.args.notes.now in
    c.release_left.ensures.noted count ended_room
    (noted_finished c.args.table.now c.finish.new.self c.args.worker c.args.ending c.in-Ok.ended count n.free n.entries n.slot_room ended_room c.in-Ok.ensures.ended noted)

pub returns-in-Ok-clause-steps : goal.returns-in-Ok-clause-steps
returns-in-Ok-clause-steps g c =
    steps_finished c.args.table.now c.finish.new.self c.release_left.new.table c.args.worker c.args.ending c.in-Ok.ended c.in-Ok.ensures.ended c.release_left.ensures.slots c.release_left.ensures.stands

pub returns-in-Ok-clause-alive : goal.returns-in-Ok-clause-alive
returns-in-Ok-clause-alive g c =
    alive_finished c.args.table.now c.finish.new.self c.release_left.new.table c.args.worker c.args.ending c.in-Ok.ended c.in-Ok.ensures.ended c.release_left.ensures.slots

pub returns-in-Ok-clause-leaves : goal.returns-in-Ok-clause-leaves
returns-in-Ok-clause-leaves g c =
    let old = c.args.table.now in
    let mid = c.finish.new.self in
    leaves_more old.slots mid.slots c.release_left.new.table.slots (leaves_same old.slots mid.slots (finish_numbers old mid c.args.worker c.args.ending c.in-Ok.ended c.in-Ok.ensures.ended)) c.release_left.ensures.leaves
