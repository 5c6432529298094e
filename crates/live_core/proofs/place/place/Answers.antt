-- The slot is an empty one, and the number is new.
use Rattle.std.proofs.Common.{◌+◌, ◌++◌, ◌∷◌, [], ◌∙◌, List, ℕ, vec_capacity, refl, sym, ap, subst}
use Rattle.std.specs.Prelude.{slice_set, Some}
use Rattle.task_table.specs.declared.seat.Seat.{Seat}
use Rattle.task_table.specs.declared.seat.TaskRef.{TaskRef}
use Rattle.task_table.specs.Tables.{TableView}
use Rattle.task_table.specs.Changes.{submitted}
use Rattle.live_core.specs.Said.{tasks_in}
use Rattle.live_core.specs.own.Slots.{NotesView}
use Rattle.live_core.specs.Lives.{AreAlive}
use Rattle.live_core.specs.own.Formed.{AreNoted}
use Rattle.live_core.proofs.Alive.{alive_put}
use Rattle.live_core.proofs.Held.{tasks_put}
use Rattle.live_core.proofs.Noted.{noted_number, noted_slot, noted_new, noted_same}
use Rattle.live_core.proofs.Leaving.{leaves_put}
use Rattle.live_core.proofs.Waiting.{waits_put}
use Rattle.live_core.proofs.place.place.Goals as goal

pub admit-due-requires-clause-slot : goal.admit-due-requires-clause-slot
admit-due-requires-clause-slot g c =
    let n = c.args.notes.now in
    let slots = c.args.table.now.slots in
    let spare = vec_capacity c.args.ended.now in
    let noted = subst (λ (f : List ℕ). AreNoted slots c.args.count f n.entries n.slot_room spare) c.in-Some.ensures.taken c.requires.noted in
    (noted_slot slots c.args.count c.take.new.self.free c.in-Some.slot n.entries n.slot_room spare noted).0

pub admit-due-requires-clause-empty : goal.admit-due-requires-clause-empty
admit-due-requires-clause-empty g c =
    let n = c.args.notes.now in
    let slots = c.args.table.now.slots in
    let spare = vec_capacity c.args.ended.now in
    let noted = subst (λ (f : List ℕ). AreNoted slots c.args.count f n.entries n.slot_room spare) c.in-Some.ensures.taken c.requires.noted in
    (noted_slot slots c.args.count c.take.new.self.free c.in-Some.slot n.entries n.slot_room spare noted).1

pub admit-due-requires-clause-number : goal.admit-due-requires-clause-number
admit-due-requires-clause-number g c =
    noted_number c.args.table.now.slots c.args.count c.args.notes.now.free c.args.notes.now.entries c.args.notes.now.slot_room (vec_capacity c.args.ended.now) c.requires.noted

pub returns-clause-noted : goal.returns-clause-noted
returns-clause-noted g c =
    let n = c.args.notes.now in
    let slots = c.args.table.now.slots in
    let count = c.args.count in
    let slot = c.in-Some.slot in
    let rest = c.take.new.self.free in
    let spare = vec_capacity c.args.ended.now in
    let noted = subst (λ (f : List ℕ). AreNoted slots count f n.entries n.slot_room spare) c.in-Some.ensures.taken c.requires.noted in
    let x : Seat = submitted count c.args.timing (c.args.at + c.args.delay) in
    let own : TaskRef = record { number = count; slot = slot } in
    subst (λ room. AreNoted c.admit-due.new.self.slots (count + 1) c.add.new.self.free c.add.new.self.entries c.add.new.self.slot_room room) (sym c.clear.ensures.capacity)
    (noted_same (slice_set slots slot (Some x)) c.admit-due.new.self.slots (count + 1) rest c.add.new.self.free (n.entries ++ own ∷ []) c.add.new.self.entries n.slot_room c.add.new.self.slot_room spare
    (ap (λ (m : TableView). m.slots) c.admit-due.ensures.slots)
    (ap (λ (v : NotesView). v.free) c.add.ensures)
    (ap (λ (v : NotesView). v.entries) c.add.ensures ∙ ap (λ (v : NotesView). v.entries ++ own ∷ []) c.in-Some.ensures.rest)
    (ap (λ (v : NotesView). v.slot_room) c.add.ensures ∙ ap (λ (v : NotesView). v.slot_room) c.in-Some.ensures.rest)
    (noted_new slots count rest slot x n.entries n.slot_room spare refl noted))

pub returns-clause-alive : goal.returns-clause-alive
returns-clause-alive g c =
    λ alive. subst (λ (m : TableView). AreAlive m.slots) (sym c.admit-due.ensures.slots)
    (alive_put c.args.table.now.slots c.in-Some.slot (submitted c.args.count c.args.timing (c.args.at + c.args.delay)) refl alive)

pub returns-clause-tasks : goal.returns-clause-tasks
returns-clause-tasks g c =
    let n = c.args.notes.now in
    let slots = c.args.table.now.slots in
    let spare = vec_capacity c.args.ended.now in
    let noted = subst (λ (f : List ℕ). AreNoted slots c.args.count f n.entries n.slot_room spare) c.in-Some.ensures.taken c.requires.noted in
    let slot = noted_slot slots c.args.count c.take.new.self.free c.in-Some.slot n.entries n.slot_room spare noted in
    ap (λ (m : TableView). tasks_in m.slots) c.admit-due.ensures.slots
    ∙ tasks_put slots c.in-Some.slot (submitted c.args.count c.args.timing (c.args.at + c.args.delay)) slot.0 slot.1

pub returns-clause-leaves : goal.returns-clause-leaves
returns-clause-leaves g c =
    leaves_put c.args.table.now c.admit-due.new.self c.in-Some.slot (submitted c.args.count c.args.timing (c.args.at + c.args.delay)) (ap (λ (m : TableView). m.slots) c.admit-due.ensures.slots)

pub returns-clause-seated : goal.returns-clause-seated
returns-clause-seated g c =
    let n = c.args.notes.now in
    let slots = c.args.table.now.slots in
    let spare = vec_capacity c.args.ended.now in
    let noted = subst (λ (f : List ℕ). AreNoted slots c.args.count f n.entries n.slot_room spare) c.in-Some.ensures.taken c.requires.noted in
    let slot = noted_slot slots c.args.count c.take.new.self.free c.in-Some.slot n.entries n.slot_room spare noted in
    waits_put c.args.table.now c.admit-due.new.self (record { number = c.args.count; slot = c.in-Some.slot }) (submitted c.args.count c.args.timing (c.args.at + c.args.delay)) slot.0
    (ap (λ (m : TableView). m.slots) c.admit-due.ensures.slots) refl refl
