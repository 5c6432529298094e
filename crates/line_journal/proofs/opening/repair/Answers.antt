use Rattle.std.proofs.Common.{ℕ, List, sym, subst, inl, inr}
use Rattle.line_journal.specs.Parts.{IsOlder}
use Rattle.line_journal.proofs.Gates.{on_ok_map}
use Rattle.line_journal.proofs.Staying.{repaired, at_true, at_false, to_true, to_false}
use Rattle.line_journal.proofs.opening.repair.Goals as goal

pub returns-then-parts-clause-opened : goal.returns-then-parts-clause-opened
returns-then-parts-clause-opened g c = on_ok_map c.clear_behind.result _ _ c.clear_behind.ensures.rests (λ rests only_first only_second part last.
    let is = at_true c.args.parts.now.is_second _ _ c.if-parts.true last in
    to_true c.args.parts.now.is_second _ _ c.if-parts.true
    (repaired g.D.Disk.seen g.D.Disk.may_leave c.clear_behind.new.disk c.args.first.now c.args.parts.now.last part (rests part is.has is.tells.ends) is.tells is.older only_first))

pub returns-then-parts-clause-crash : goal.returns-then-parts-clause-crash
returns-then-parts-clause-crash g c mixes only_first only_second part last e f left right =
    let is = at_true c.args.parts.now.is_second _ _ c.if-parts.true last in
    inr (inl (c.clear_behind.ensures.crash mixes only_second part is.has is.tells.ends f right, subst (λ (d : List ℕ). IsOlder d part.head.turn) (sym (only_first e left)) is.older))

pub returns-else-parts-clause-opened : goal.returns-else-parts-clause-opened
returns-else-parts-clause-opened g c = on_ok_map c.clear_behind-else-parts.result _ _ c.clear_behind-else-parts.ensures.rests (λ rests only_first only_second part last.
    let is = at_false c.args.parts.now.is_second _ _ c.if-parts.false last in
    to_false c.args.parts.now.is_second _ _ c.if-parts.false
    (repaired g.D.Disk.seen g.D.Disk.may_leave c.clear_behind-else-parts.new.disk c.args.second.now c.args.parts.now.last part (rests part is.has is.tells.ends) is.tells is.older only_second))

pub returns-else-parts-clause-crash : goal.returns-else-parts-clause-crash
returns-else-parts-clause-crash g c mixes only_first only_second part last e f left right =
    let is = at_false c.args.parts.now.is_second _ _ c.if-parts.false last in
    inl (c.clear_behind-else-parts.ensures.crash mixes only_first part is.has is.tells.ends e left, subst (λ (d : List ℕ). IsOlder d part.head.turn) (sym (only_second f right)) is.older)
