-- The slot of each task that is dropped is emptied.
use Rattle.std.proofs.Common.{refl, sym, subst}
use Rattle.task_table.specs.Tables.{TableView}
use Rattle.live_core.specs.Lives.{AreAlive}
use Rattle.live_core.specs.own.Formed.{AreNoted}
use Rattle.live_core.specs.own.Shed.{Sheds}
use Rattle.live_core.proofs.Alive.{alive_dropped}
use Rattle.live_core.proofs.Shedding.{sheds_none, sheds_more, fewer_shed, over_dropped, noted_dropped}
use Rattle.live_core.specs.own.Slots.{LeavesSlots}
use Rattle.live_core.proofs.Swept.{drop_numbers}
use Rattle.live_core.proofs.Leaving.{leaves_same, leaves_more}
use Rattle.live_core.proofs.running.drop_met.Goals as goal

pub loop-slot-init : goal.loop-slot-init
loop-slot-init g c = record { sheds = sheds_none c.args.table.now; leaves = record { numbers = λ i k q. q; size = refl }; noted = λ count ended_room noted. noted; alive = λ alive. alive }

pub release-requires-clause-noted : goal.release-requires-clause-noted
release-requires-clause-noted g c =
    let known = c.requires.noted in
    let n = c.loop-slot.notes in
    (known.0, known.1, noted_dropped c.loop-slot.table c.drop_met.new.self c.in-Some.slot known.0 n.free n.entries n.slot_room known.1 c.in-Some.ensures.dropped (c.loop-slot.invariant.noted known.0 known.1 known.2))

pub release-requires-clause-over : goal.release-requires-clause-over
release-requires-clause-over g c = over_dropped c.loop-slot.table c.drop_met.new.self c.in-Some.slot c.in-Some.ensures.dropped

pub loop-slot-smaller : goal.loop-slot-smaller
loop-slot-smaller g c = fewer_shed c.loop-slot.table c.drop_met.new.self c.release.new.table c.in-Some.slot c.in-Some.ensures.dropped c.release.ensures.slots

pub loop-slot-preserved : goal.loop-slot-preserved
loop-slot-preserved g c =
    let n = c.loop-slot.notes in
    let m = c.loop-slot.table in
    let mid = c.drop_met.new.self in
    let new = c.release.new.table in
    record {
      sheds = sheds_more c.args.table.now c.loop-slot.table c.drop_met.new.self c.release.new.table c.in-Some.slot c.loop-slot.invariant.sheds c.in-Some.ensures.dropped c.release.ensures.slots c.in-Some.ensures.steps c.release.ensures.stands_before;
      leaves = leaves_more c.args.table.now.slots m.slots new.slots c.loop-slot.invariant.leaves
          (leaves_more m.slots mid.slots new.slots (leaves_same m.slots mid.slots (drop_numbers m mid c.in-Some.slot c.in-Some.ensures.dropped)) c.release.ensures.leaves);
      noted = λ count ended_room noted. c.release.ensures.noted count ended_room (noted_dropped c.loop-slot.table c.drop_met.new.self c.in-Some.slot count n.free n.entries n.slot_room ended_room c.in-Some.ensures.dropped (c.loop-slot.invariant.noted count ended_room noted));
      alive = λ alive. alive_dropped c.loop-slot.table c.drop_met.new.self c.release.new.table c.in-Some.slot c.in-Some.ensures.dropped c.release.ensures.slots (c.loop-slot.invariant.alive alive);
    }

pub returns-clause-noted : goal.returns-clause-noted
returns-clause-noted g c = λ count ended_room noted.
    let n = c.loop-slot.notes in
    subst (λ (m : TableView). AreNoted m.slots count n.free n.entries n.slot_room ended_room) (sym c.in_default.ensures.none.0) (c.loop-slot.invariant.noted count ended_room noted)

pub returns-clause-sheds : goal.returns-clause-sheds
returns-clause-sheds g c = subst (Sheds c.args.table.now) (sym c.in_default.ensures.none.0) c.loop-slot.invariant.sheds

pub returns-clause-alive : goal.returns-clause-alive
returns-clause-alive g c = λ alive. subst (λ (m : TableView). AreAlive m.slots) (sym c.in_default.ensures.none.0) (c.loop-slot.invariant.alive alive)

pub returns-clause-leaves : goal.returns-clause-leaves
returns-clause-leaves g c = subst (λ (m : TableView). LeavesSlots c.args.table.now.slots m.slots) (sym c.in_default.ensures.none.0) c.loop-slot.invariant.leaves
