use Rattle.std.proofs.Common.{◌≡◌, ◌<◌, ◌∙◌, length, sym, Some, rules}
use Rattle.queue_code.specs.Cursors.{loop_around}
use Rattle.queue_code.proofs.Tables.{finds_place, finds_loop, same_numbers}
use Rattle.queue_code.proofs.code.Code.loop_around.Goals as goal

pub index-requires : goal.index-requires
index-requires g c =
    let is : loop_around c.self.inside.instrs.items c.args.index ≡ Some c.requires.inside.0 = rw c.self.view_is c.requires.inside.1 in
    let low = (finds_place c.self.inside.instrs.items c.self.inside.loops.items c.args.index c.requires.inside.0 c.index-place.result.now c.self.invariant.1 (rw c.self.view_is c.requires.within) is c.index-place.ensures).2 in
    search rules

pub unreachable-requires : goal.unreachable-requires
unreachable-requires g c =
    let is : loop_around c.self.inside.instrs.items c.args.index ≡ Some c.requires.inside.0 = rw c.self.view_is c.requires.inside.1 in
    c.in_default.not-Loop _ _ (finds_loop c.self.inside.instrs.items c.self.inside.loops.items c.args.index c.requires.inside.0 c.index-place.result.now c.index.result.now c.self.invariant.1 (rw c.self.view_is c.requires.within) is c.index-place.ensures c.index.ensures)

pub returns : goal.returns
returns g c = λ loop found.
    let is : loop_around c.self.inside.instrs.items c.args.index ≡ Some loop = rw c.self.view_is found in
    let within : c.args.index < length c.self.inside.instrs.items = rw c.self.view_is c.requires.within in
    same_numbers c.index-place.result.now c.in-Loop.times c.in-Loop.every loop
    (finds_place c.self.inside.instrs.items c.self.inside.loops.items c.args.index loop c.index-place.result.now c.self.invariant.1 within is c.index-place.ensures).0
    (sym c.in-Loop.is ∙ finds_loop c.self.inside.instrs.items c.self.inside.loops.items c.args.index loop c.index-place.result.now c.index.result.now c.self.invariant.1 within is c.index-place.ensures c.index.ensures)
