use Rattle.std.proofs.Common.{refl}
use Rattle.plan_read.proofs.Words.{differs}
use Rattle.plan_read.proofs.units.unit_of_word.Goals as goal

pub returns-in-ns : goal.returns-in-ns
returns-in-ns c = rw c.in-ns.is refl

pub returns-in-us : goal.returns-in-us
returns-in-us c = rw c.in-us.is refl

pub returns-in-ms : goal.returns-in-ms
returns-in-ms c = rw c.in-ms.is refl

pub returns-in-s : goal.returns-in-s
returns-in-s c = rw c.in-s.is refl

pub returns-in_default : goal.returns-in_default
returns-in_default c =
    let w = c.args.word.now in
    let not = c.in_default in
    rw (differs w _ not.not-ns, differs w _ not.not-us, differs w _ not.not-ms, differs w _ not.not-s) c.longer_unit_of_word.ensures
