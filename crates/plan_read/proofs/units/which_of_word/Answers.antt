use Rattle.std.proofs.Common.{refl}
use Rattle.plan_read.proofs.Words.{differs}
use Rattle.plan_read.proofs.units.which_of_word.Goals as goal

pub returns-in-continue : goal.returns-in-continue
returns-in-continue c = rw c.in-continue.is refl

pub returns-in-execute : goal.returns-in-execute
returns-in-execute c = rw c.in-execute.is refl

pub returns-in-remove : goal.returns-in-remove
returns-in-remove c = rw c.in-remove.is refl

pub returns-in_default : goal.returns-in_default
returns-in_default c =
    let w = c.args.word.now in
    let not = c.in_default in
    rw (differs w _ not.not-continue, differs w _ not.not-execute, differs w _ not.not-remove) refl
