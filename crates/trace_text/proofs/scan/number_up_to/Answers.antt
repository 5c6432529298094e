use Rattle.std.proofs.Common.{◌≡◌, ◌≤◌, ◌++◌, ap, sym, ◌∙◌, subst, arith, get_or}
use Rattle.std.specs.Fmt.{decimal}
use Rattle.trace_text.specs.Reading.{EndsNumber}
use Rattle.trace_text.proofs.OnePass.{no_digits, leading_zero, the_number, from_end}
use Rattle.trace_text.proofs.scan.number_up_to.Goals.{else-bytes-eq48-via-then-bytes-eq48+else-end-gt1, else-bytes-eq48-via-else-bytes-eq48}
use Rattle.trace_text.proofs.scan.number_up_to.Goals as goal

pub returns-then-end-eq0 : goal.returns-then-end-eq0
returns-then-end-eq0 c = no_digits c.args.bytes.now c.args.end c.if-end-eq0.true c.requires.digits c.requires.ends

pub returns-then-end-gt1 : goal.returns-then-end-gt1
returns-then-end-gt1 c = leading_zero c.args.bytes.now c.args.end c.if-bytes-eq48.true c.if-end-gt1.true c.requires.within c.requires.digits c.requires.ends

pub returns : goal.returns
returns c =
    let e = from_end c.args.bytes.now c.args.end in
    let short : get_or c.args.bytes.now 0 0 ≡ 48 → c.args.end ≤ 1 = λ first.
    elim c.else-bytes-eq48.branch [
      | else-bytes-eq48-via-then-bytes-eq48+else-end-gt1 w ↦ omega (arith, w.if-end-gt1.false)
      | else-bytes-eq48-via-else-bytes-eq48 w ↦ absurd (w.if-bytes-eq48.false first)
    ] in (
      the_number c.args.bytes.now c.args.end c.args.value (omega (arith, c.if-end-eq0.false)) c.requires.within short c.requires.digits c.requires.value c.ranges.value.fits ∙ ap (λ r. decimal c.args.value ++ r) (sym e),
      subst EndsNumber (sym e) c.requires.ends,
      c.ranges.value.fits,
    )
