-- There are as many entries as numbers, and room for as many as both lists have.
use Rattle.std.proofs.Common.{length, ap, arith}
use Rattle.std.proofs.lemmas.Bool.{leb-true, leb-false}
use Rattle.live_core.specs.own.Slots.{IndexView}
use Rattle.live_core.proofs.Paired.{paired_size}
use Rattle.live_core.proofs.index.NumberIndex.is_full.Goals as goal

pub returns-then-entries-capacity-clause-full : goal.returns-then-entries-capacity-clause-full
returns-then-entries-capacity-clause-full g c told =
    let room = ap (λ (v : IndexView). v.room) c.self.view_is in
    let entries = ap (λ (v : IndexView). length v.entries) c.self.view_is in
    let size = paired_size c.self.inside.numbers.items c.self.inside.slots.items c.self.invariant.size in
    omega (arith, room, entries, size, c.len-entries.ensures, c.capacity.ensures, c.if-entries-capacity.true, c.self.inside.numbers.ok.0)

pub returns-else-entries-capacity-clause-room : goal.returns-else-entries-capacity-clause-room
returns-else-entries-capacity-clause-room g c told =
    let room = ap (λ (v : IndexView). v.room) c.self.view_is in
    let entries = ap (λ (v : IndexView). length v.entries) c.self.view_is in
    let size = paired_size c.self.inside.numbers.items c.self.inside.slots.items c.self.invariant.size in
    let test = leb-false c.capacity-else-entries-capacity.result c.len-entries.result told in
    omega (arith, test, room, entries, size, c.len-entries.ensures, c.capacity.ensures, c.capacity-else-entries-capacity.ensures, c.if-entries-capacity.false, c.self.inside.numbers.ok.0)

pub returns-else-entries-capacity-clause-full : goal.returns-else-entries-capacity-clause-full
returns-else-entries-capacity-clause-full g c told =
    let room = ap (λ (v : IndexView). v.room) c.self.view_is in
    let entries = ap (λ (v : IndexView). length v.entries) c.self.view_is in
    let size = paired_size c.self.inside.numbers.items c.self.inside.slots.items c.self.invariant.size in
    let test = leb-true c.capacity-else-entries-capacity.result c.len-entries.result told in
    omega (arith, test, room, entries, size, c.len-entries.ensures, c.capacity.ensures, c.capacity-else-entries-capacity.ensures, c.if-entries-capacity.false, c.self.inside.numbers.ok.0)
