use Rattle.snapshot_text.proofs.Tasks.{no_due, no_place, no_told, past_due, past_place, past_timing, task_read}
use Rattle.snapshot_text.proofs.task.split_task.Goals as goal

pub returns-in_default : goal.returns-in_default
returns-in_default c = no_place c.args.bytes.now c.in_default.ensures

pub returns-in_default-split_two : goal.returns-in_default-split_two
returns-in_default-split_two c =
    past_place c.args.bytes.now c.in-Some.rest.now (c.in-Some.place.0, c.in-Some.place.1) c.in-Some.ensures (no_due c.in-Some.rest.now c.in_default-split_two.ensures)

pub returns-in_default-split_timing : goal.returns-in_default-split_timing
returns-in_default-split_timing c =
    past_place c.args.bytes.now c.in-Some.rest.now (c.in-Some.place.0, c.in-Some.place.1) c.in-Some.ensures
    (past_due c.in-Some.rest.now c.in-Some-split_two.rest.now c.in-Some-split_two.next c.in-Some-split_two.ensures
    (no_told c.in-Some-split_two.rest.now c.in_default-split_timing.ensures))

pub returns-in_default-split_standing : goal.returns-in_default-split_standing
returns-in_default-split_standing c =
    past_place c.args.bytes.now c.in-Some.rest.now (c.in-Some.place.0, c.in-Some.place.1) c.in-Some.ensures
    (past_due c.in-Some.rest.now c.in-Some-split_two.rest.now c.in-Some-split_two.next c.in-Some-split_two.ensures
    (past_timing c.in-Some-split_two.rest.now c.in-Some-split_timing.rest.now c.in-Some-split_timing.timing c.in-Some-split_timing.ensures c.in_default-split_standing.ensures))

pub returns : goal.returns
returns c =
    let whole = task_read c.args.bytes.now c.in-Some.rest.now c.in-Some-split_two.rest.now c.in-Some-split_timing.rest.now c.in-Some-split_standing.rest.now
    (c.in-Some.place.0, c.in-Some.place.1) c.in-Some-split_two.next c.in-Some-split_timing.timing c.in-Some-split_standing.standing
    c.in-Some.ensures c.in-Some-split_two.ensures c.in-Some-split_timing.ensures c.in-Some-split_standing.ensures in
    rw c.image.ensures whole
