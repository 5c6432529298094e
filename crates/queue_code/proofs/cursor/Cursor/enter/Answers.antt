use Rattle.std.proofs.Common.{◌≡◌, ◌+◌, Some}
use Rattle.std.specs.List.{slice_get}
use Rattle.queue_code.specs.declared.instr.Instr.{Instr}
use Rattle.queue_code.specs.declared.instr.Instr.TheVariants.{Loop}
use Rattle.queue_code.proofs.Moves.{goes_in}
use Rattle.queue_code.proofs.cursor.Cursor.enter.Goals as goal

pub returns-clause-cursor : goal.returns-clause-cursor
returns-clause-cursor g c =
    let at : slice_get {X = Instr} c.args.code.now c.args.self.now.index ≡ Some (Loop c.in-Some-Loop.field-0-0 c.in-Some-Loop.field-0-1) = cc in
    (goes_in c.args.code.now c.args.self.now (c.args.self.now.steps + 1) _ _ c.in-Some-Loop.ensures.sound c.requires.cursor at).0.cursor

pub returns-clause-left : goal.returns-clause-left
returns-clause-left g c =
    let at : slice_get {X = Instr} c.args.code.now c.args.self.now.index ≡ Some (Loop c.in-Some-Loop.field-0-0 c.in-Some-Loop.field-0-1) = cc in
    (goes_in c.args.code.now c.args.self.now (c.args.self.now.steps + 1) _ _ c.in-Some-Loop.ensures.sound c.requires.cursor at).0.left

pub returns-clause-plain : goal.returns-clause-plain
returns-clause-plain g c =
    let at : slice_get {X = Instr} c.args.code.now c.args.self.now.index ≡ Some (Loop c.in-Some-Loop.field-0-0 c.in-Some-Loop.field-0-1) = cc in
    (goes_in c.args.code.now c.args.self.now (c.args.self.now.steps + 1) _ _ c.in-Some-Loop.ensures.sound c.requires.cursor at).1
