-- Each slot is taken, and then there are more.
use Rattle.std.proofs.Common.{◌≡◌, length, arith}
use Rattle.live_core.specs.Said.{AreTaken}
use Rattle.timers.specs.own.Rooms.{seen}
use Rattle.timers.proofs.Roomy.{are_taken, room_made, room_there, always_on_err}
use Rattle.timers.proofs.room.make_room.Goals as goal

pub returns-then-slots-ge1073741824-clause-full : goal.returns-then-slots-ge1073741824-clause-full
returns-then-slots-ge1073741824-clause-full g c = are_taken c.args.executor.now.table.slots c.len.result c.len-slots.result c.len.ensures.tasks (omega (arith, c.len-slots.ensures, c.args.user_data.now.ok.0, c.requires.size)) c.if-len-slots.false

pub returns-clause-made : goal.returns-clause-made
returns-clause-made g c =
    let t = c.args.executor.now.table in
    let is : c.len-slots.result ≡ length t.slots = omega (arith, c.len-slots.ensures, c.args.user_data.now.ok.0, c.requires.size) in
    let all : AreTaken t.slots = are_taken t.slots c.len.result c.len-slots.result c.len.ensures.tasks is c.if-len-slots.false in
    room_made c.grow.result (seen c.args.executor.now c.args.user_data.now.items) (seen c.grow.new.executor c.grow.new.user_data.items) c.len-slots.result c.half_more.result is c.half_more.ensures c.requires.unshut all
    c.grow.ensures.grown c.grow.ensures.executor c.grow.ensures.user_data

pub returns-clause-room : goal.returns-clause-room
returns-clause-room g c =
    let t = c.args.executor.now.table in
    let is : c.len-slots.result ≡ length t.slots = omega (arith, c.len-slots.ensures, c.args.user_data.now.ok.0, c.requires.size) in
    let all : AreTaken t.slots = are_taken t.slots c.len.result c.len-slots.result c.len.ensures.tasks is c.if-len-slots.false in
    room_there c.grow.result (seen c.args.executor.now c.args.user_data.now.items) (seen c.grow.new.executor c.grow.new.user_data.items) c.len-slots.result c.half_more.result is c.half_more.ensures all c.grow.ensures.grown

pub returns-clause-full : goal.returns-clause-full
returns-clause-full g c =
    always_on_err c.grow.result (are_taken c.args.executor.now.table.slots c.len.result c.len-slots.result c.len.ensures.tasks (omega (arith, c.len-slots.ensures, c.args.user_data.now.ok.0, c.requires.size)) c.if-len-slots.false)
