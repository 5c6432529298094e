use Rattle.std.proofs.Common.{rules, ◌≡◌, ◌+◌, ◌≤◌, Some, length, arith, sym, subst}
use Rattle.std.specs.Prelude.{slice_get}
use Rattle.trace_text.specs.Spelling.{line_text}
use Rattle.trace_text.specs.Writing.{line_room}
use Rattle.line_copy.specs.declared.copied.Copied.{Copied}
use Rattle.line_copy.specs.Copying.{HoldsFirst}
use Rattle.line_copy.proofs.Texts.{line_some}
use Rattle.line_copy.proofs.Copies.{ends, one_more}
use Rattle.line_copy.proofs.copy.LineCopy.put.Goals as goal

pub invariant_of-self : goal.invariant_of-self
invariant_of-self c =
    let put = c.put_line-self-inside in
    let same : length put.new.buffer ≡ length c.args.out.now = search rules in
    let fits : c.self.inside.copied.bytes + line_room ≤ length c.args.out.now = omega (arith, c.if-out-self-lt-LINE_ROOM.false) in
    omega (arith, c.self.invariant, line_some c.args.line.now, ends c.args.out.now put.new.buffer (line_text c.args.line.now) c.self.inside.copied.bytes put.result same (omega (arith, fits)) (omega (arith, fits, put.ensures.end)) put.ensures.put)

pub returns-clause-first : goal.returns-clause-first
returns-clause-first c _ all before held next =
    let put = c.put_line-self-inside in
    let line = c.args.line.now in
    let same : length put.new.buffer ≡ length c.args.out.now = search rules in
    let fits : c.self.inside.copied.bytes + line_room ≤ length c.args.out.now = omega (arith, c.if-out-self-lt-LINE_ROOM.false) in
    let here : HoldsFirst all before c.args.out.now c.self.inside.copied = subst (HoldsFirst all before c.args.out.now) (sym c.self.view_is) held in
    let nearest : slice_get all c.self.inside.copied.lines ≡ Some line = subst (λ (copied : Copied). slice_get all copied.lines ≡ Some line) (sym c.self.view_is) next in
    one_more all line before c.args.out.now put.new.buffer c.self.inside.copied put.result here nearest fits put.ensures.end same put.ensures.put
