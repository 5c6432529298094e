use Rattle.std.proofs.Common.{arith, sym, ◌∙◌}
use Rattle.line_reasons.specs.own.Kinds.{FitsIn, spelling}
use Rattle.line_reasons.proofs.LineTexts.{one_read, fewer_left, some_left, other_left, other_denies}
use Rattle.line_reasons.proofs.LineKinds.{has_bytes, once}
use Rattle.line_reasons.proofs.events.first_other.Goals as goal

pub returns-in_default-clause-only : goal.returns-in_default-clause-only
returns-in_default-clause-only g c = λ are.
    let lines = c.args.lines in
    let line = c.first_line-line.result.now in
    let some = some_left c.loop-rest.rest.now (sym c.is_empty.ensures ∙ c.loop-rest-test.true) in
    let other = other_left (spelling lines) (FitsIn lines) c.args.text.now c.loop-rest.rest.now line c.loop-rest.number c.loop-rest.invariant.left c.in_default.ensures some c.first_line-line.ensures in
    absurd (other_denies (spelling lines) (FitsIn lines) (has_bytes lines) (once lines) c.args.text.now line c.loop-rest.number other are)

pub loop-rest-preserved : goal.loop-rest-preserved
loop-rest-preserved g c =
    let lines = c.args.lines in
    let read = c.in-Some.ensures in
    record {
      left = one_read (spelling lines) (FitsIn lines) c.args.text.now c.loop-rest.rest.now c.in-Some.behind.now c.loop-rest.number read.0 c.loop-rest.invariant.left read.1.0 read.1.1;
      few = omega (arith, c.loop-rest.invariant.few, fewer_left (spelling lines) (FitsIn lines) (has_bytes lines) read.0 c.loop-rest.rest.now c.in-Some.behind.now read.1.0 read.1.1);
    }
