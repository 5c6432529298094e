-- Where no slot is empty, each holds a task.
use Rattle.std.proofs.Common.{ℕ, ◌+◌, vec_capacity, ap, arith}
use Rattle.std.specs.Prelude.{◌*◌}
use Rattle.live_core.specs.Said.{AreTaken}
use Rattle.live_core.proofs.Noted.{noted_full, twice_on_ok, always_on_err}
use Rattle.live_core.proofs.room.make_slot.Goals as goal

pub returns-then-slots-ge1073741824-clause-full : goal.returns-then-slots-ge1073741824-clause-full
returns-then-slots-ge1073741824-clause-full g c =
    let n = c.args.notes.now in
    noted_full c.args.table.now.slots c.args.count n.free n.entries n.slot_room (vec_capacity c.args.ended.now) c.requires.noted (omega (arith, c.free_slots.ensures, c.if-free_slots-gt0.false))

pub returns-clause-full : goal.returns-clause-full
returns-clause-full g c =
    let n = c.args.notes.now in
    always_on_err c.grow.result (noted_full c.args.table.now.slots c.args.count n.free n.entries n.slot_room (vec_capacity c.args.ended.now) c.requires.noted (omega (arith, c.free_slots.ensures, c.if-free_slots-gt0.false)))

pub returns-clause-size : goal.returns-clause-size
returns-clause-size g c =
    let n = c.args.notes.now in
    let all : AreTaken c.args.table.now.slots = noted_full c.args.table.now.slots c.args.count n.free n.entries n.slot_room (vec_capacity c.args.ended.now) c.requires.noted (omega (arith, c.free_slots.ensures, c.if-free_slots-gt0.false)) in
    twice_on_ok c.grow.result c.args.table.now c.grow.new.table _ (ap (λ (n : ℕ). 2 * n + 4) c.slots-slots.ensures) all c.grow.ensures.grown
