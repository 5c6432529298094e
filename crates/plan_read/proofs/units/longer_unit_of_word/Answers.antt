use Rattle.std.proofs.Common.{refl}
use Rattle.plan_read.proofs.Words.{differs}
use Rattle.plan_read.proofs.units.longer_unit_of_word.Goals as goal

pub returns-in-min : goal.returns-in-min
returns-in-min c = rw (c.in-Two.is, c.in-min.is) refl

pub returns-in-h : goal.returns-in-h
returns-in-h c = rw (c.in-Two.is, c.in-h.is) refl

pub returns-in-d : goal.returns-in-d
returns-in-d c = rw (c.in-Two.is, c.in-d.is) refl

pub returns-in_default : goal.returns-in_default
returns-in_default c =
    let w = c.args.word.now in
    let not = c.in_default in
    rw (c.in-Two.is, differs w _ not.not-min, differs w _ not.not-h, differs w _ not.not-d) refl
