-- The index is one of the same slots, without the stale entries where it was full.
use Rattle.std.proofs.Common.{vec_capacity, ap}
use Rattle.live_core.specs.own.Slots.{NotesView}
use Rattle.live_core.proofs.Noted.{noted_count, noted_index, noted_spare}
use Rattle.live_core.proofs.room.make_room.Goals as goal

pub tidy_index-requires : goal.tidy_index-requires
tidy_index-requires g c =
    let old = c.make_slot.new.notes in
    noted_count c.make_slot.new.table.slots c.args.count old.free old.entries old.slot_room (vec_capacity c.make_slot.new.ended) c.make_slot.ensures.noted

pub returns-clause-noted : goal.returns-clause-noted
returns-clause-noted g c =
    let slots = c.make_slot.new.table.slots in
    let old = c.make_slot.new.notes in
    let new = c.tidy_index.new.self in
    let noted = c.make_slot.ensures.noted in
    noted_index slots c.args.count old.free new.free old.entries new.entries old.slot_room new.slot_room (vec_capacity c.make_slot.new.ended)
    (ap (λ (v : NotesView). v.free) c.tidy_index.ensures.rest) (ap (λ (v : NotesView). v.slot_room) c.tidy_index.ensures.rest) (c.tidy_index.ensures.index c.args.count noted.index) noted

pub returns-clause-entry : goal.returns-clause-entry
returns-clause-entry g c =
    let slots = c.make_slot.new.table.slots in
    let old = c.make_slot.new.notes in
    c.tidy_index.ensures.room (noted_spare slots c.args.count old.free old.entries old.slot_room (vec_capacity c.make_slot.new.ended) c.make_slot.ensures.noted c.in_ok-make_slot.ensures.slot)
