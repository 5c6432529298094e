-- The slot is noted as empty, for which there is room.
use Rattle.std.proofs.Common.{◌++◌, ◌∷◌, [], ap}
use Rattle.std.specs.Prelude.{slice_set, None}
use Rattle.task_table.specs.Tables.{TableView}
use Rattle.live_core.specs.own.Slots.{NotesView}
use Rattle.live_core.proofs.Noted.{noted_room, noted_emptied, noted_same}
use Rattle.live_core.proofs.Leaving.{leaves_emptied}
use Rattle.live_core.proofs.releasing.release.Goals as goal

pub release-requires-2 : goal.release-requires-2
release-requires-2 g c =
    let t = c.args.table.now in
    let n = c.args.notes.now in
    let at = c.requires.over in
    let known = c.requires.noted in
    noted_room t.slots known.0 n.free c.args.slot at.0 n.entries n.slot_room known.1 at.1 known.2

pub returns-clause-noted : goal.returns-clause-noted
returns-clause-noted g c = λ count ended_room noted.
    let t = c.args.table.now in
    let n = c.args.notes.now in
    let at = c.requires.over in
    let slot = c.args.slot in
    let new = c.release-2.new.self in
    noted_same (slice_set t.slots slot None) c.release.new.self.slots count (n.free ++ slot ∷ []) new.free n.entries new.entries n.slot_room new.slot_room ended_room
    (ap (λ (m : TableView). m.slots) c.release.ensures.slots)
    (ap (λ (v : NotesView). v.free) c.release-2.ensures)
    (ap (λ (v : NotesView). v.entries) c.release-2.ensures)
    (ap (λ (v : NotesView). v.slot_room) c.release-2.ensures)
    (noted_emptied t.slots count n.free slot at.0 n.entries n.slot_room ended_room at.1 noted)

pub returns-clause-leaves : goal.returns-clause-leaves
returns-clause-leaves g c = leaves_emptied c.args.table.now c.release.new.self c.args.slot c.release.ensures.slots
