-- One slot more is noted, for which there is room.
use Rattle.std.proofs.Common.{◌≡◌, ◌-◌, ◌++◌, ◌∷◌, [], ◌∙◌, List, ℕ, length, vec_capacity, ap, arith, length-append}
use Rattle.std.specs.List.{range_with_len}
use Rattle.std.proofs.lemmas.List.FromFn.{length-range_with_len}
use Rattle.live_core.specs.own.Slots.{NotesView}
use Rattle.live_core.proofs.Ranged.{noted_on, room_within}
use Rattle.live_core.proofs.notes.Notes.add_empty.Goals as goal

pub push_reserved-requires : goal.push_reserved-requires
push_reserved-requires g c =
    let free = c.loop-slot.self-inside.free in
    let old = c.args.self.now.free in
    let from = c.args.from in
    let slot = c.loop-slot.slot in
    let range = range_with_len from (slot - from) in
    let noted : free.items ≡ old ++ range = c.loop-slot.invariant.noted in
    let within = room_within (vec_capacity c.self.inside.free) c.self.inside.index.room c.args.self.now.slot_room (ap (λ (v : NotesView). v.slot_room) c.self.view_is) in
    omega (arith, within, ap length noted, length-append old range, length-range_with_len from (slot - from), free.ok.0, c.requires.room, c.loop-slot.invariant.room, c.loop-slot.invariant.order, c.loop-slot-test.true)

pub loop-slot-preserved : goal.loop-slot-preserved
loop-slot-preserved g c =
    let old = c.args.self.now.free in
    let from = c.args.from in
    let slot = c.loop-slot.slot in
    record {
      order = omega (arith, c.loop-slot.invariant.order);
      within = omega (arith, c.loop-slot-test.true);
      noted = c.push_reserved.ensures.items ∙ (ap (λ (l : List ℕ). l ++ slot ∷ []) c.loop-slot.invariant.noted ∙ noted_on old from slot c.loop-slot.invariant.order);
      room = c.push_reserved.ensures.capacity ∙ c.loop-slot.invariant.room;
      index = c.loop-slot.invariant.index;
    }
