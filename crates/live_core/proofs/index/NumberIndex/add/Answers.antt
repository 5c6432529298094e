-- A number above all others, and its slot beside it, come to the end.
use Rattle.std.proofs.Common.{◌≡◌, ℕ, length, ap, ◌∙◌, arith}
use Rattle.std.specs.Prelude.{min, vec_capacity}
use Rattle.live_core.specs.own.Slots.{IndexView}
use Rattle.live_core.proofs.Paired.{paired_size, paired_more, paired_add}
use Rattle.live_core.proofs.index.NumberIndex.add.Goals as goal

pub push_reserved-requires : goal.push_reserved-requires
push_reserved-requires g c =
    let room = ap (λ (v : IndexView). v.room) c.self.view_is in
    let entries = ap (λ (v : IndexView). length v.entries) c.self.view_is in
    let size = paired_size c.self.inside.numbers.items c.self.inside.slots.items c.self.invariant.size in
    omega (arith, room, entries, size, c.requires.room, c.self.inside.numbers.ok.0)

pub push_reserved-requires-2 : goal.push_reserved-requires-2
push_reserved-requires-2 g c =
    let room = ap (λ (v : IndexView). v.room) c.self.view_is in
    let entries = ap (λ (v : IndexView). length v.entries) c.self.view_is in
    let size = paired_size c.self.inside.numbers.items c.self.inside.slots.items c.self.invariant.size in
    omega (arith, room, entries, size, c.requires.room, c.self.invariant.size, c.self.inside.slots.ok.0)

pub invariant_of-self : goal.invariant_of-self
invariant_of-self g c =
    paired_add c.self.inside.numbers.items c.self.inside.slots.items c.push_reserved.new.self.items c.push_reserved-2.new.self.items c.args.self.now.entries c.args.task
    c.self.invariant c.push_reserved.ensures.items c.push_reserved-2.ensures.items (ap (λ (v : IndexView). v.entries) c.self.view_is) c.requires.above

pub returns : goal.returns
returns g c =
    let room : min (vec_capacity c.push_reserved.new.self) (vec_capacity c.push_reserved-2.new.self) ≡ c.args.self.now.room =
    ap (λ (k : ℕ). min k (vec_capacity c.push_reserved-2.new.self)) c.push_reserved.ensures.capacity ∙ (ap (min (vec_capacity c.self.inside.numbers)) c.push_reserved-2.ensures.capacity ∙ ap (λ (v : IndexView). v.room) c.self.view_is) in
    let entries =
    paired_more c.self.inside.numbers.items c.self.inside.slots.items c.push_reserved.new.self.items c.push_reserved-2.new.self.items c.args.self.now.entries c.args.task
    c.self.invariant.size c.push_reserved.ensures.items c.push_reserved-2.ensures.items (ap (λ (v : IndexView). v.entries) c.self.view_is) in
    (λ i. record { entries = entries i; room = room i })
