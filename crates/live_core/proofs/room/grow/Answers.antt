-- The new slots are noted as empty, and there is room for all.
use Rattle.std.proofs.Common.{◌≡◌, ◌+◌, ◌-◌, ◌≤◌, ◌++◌, ◌∙◌, ℕ, List, length, vec_capacity, refl, ap, arith}
use Rattle.std.specs.List.{range_with_len}
use Rattle.task_table.specs.Tables.{TableView}
use Rattle.live_core.specs.own.Slots.{NotesView}
use Rattle.live_core.proofs.Noted.{noted_grown, noted_same}
use Rattle.live_core.proofs.Alive.{alive_grown}
use Rattle.live_core.proofs.Leaving.{leaves_grown}
use Rattle.live_core.proofs.room.grow.Goals as goal

pub returns-clause-noted : goal.returns-clause-noted
returns-clause-noted g c =
    let t = c.args.table.now in
    let n = c.args.notes.now in
    let all = c.args.slots in
    let first = length t.slots in
    let spare = vec_capacity c.reserve-2.new.self in
    let room : first + (all - first) ≤ c.reserve.new.self.slot_room = omega (arith, c.in_ok-reserve.ensures.room, c.requires.more) in
    let ended : first + (all - first) ≤ spare = omega (arith, c.in_ok-reserve-2.ensures.ok, c.requires.more) in
    let free : c.add_empty.new.self.free ≡ n.free ++ range_with_len first (all - first) =
    ap (λ (v : NotesView). v.free) c.add_empty.ensures
    ∙ (ap (λ (l : List ℕ). l ++ range_with_len c.slots-first.result (all - c.slots-first.result)) c.reserve.ensures.free
    ∙ ap (λ (k : ℕ). n.free ++ range_with_len k (all - k)) c.slots-first.ensures)
    in
    noted_same _ c.reserve-3.new.self.slots c.args.count _ c.add_empty.new.self.free n.entries c.add_empty.new.self.entries c.reserve.new.self.slot_room c.add_empty.new.self.slot_room spare
    (ap (λ (m : TableView). m.slots) c.in_ok-reserve-3.ensures.grown) free
    (ap (λ (v : NotesView). v.entries) c.add_empty.ensures ∙ c.reserve.ensures.entries)
    (ap (λ (v : NotesView). v.slot_room) c.add_empty.ensures)
    (noted_grown t.slots c.args.count n.free first (all - first) n.entries n.slot_room (vec_capacity c.args.ended.now) c.reserve.new.self.slot_room spare refl room ended c.requires.noted)

pub returns-clause-alive : goal.returns-clause-alive
returns-clause-alive g c = alive_grown c.args.table.now c.reserve-3.new.self c.args.slots c.in_ok-reserve-3.ensures.grown

pub returns-clause-leaves : goal.returns-clause-leaves
returns-clause-leaves g c = leaves_grown c.args.table.now c.reserve-3.new.self c.args.slots c.in_ok-reserve-3.ensures.grown
