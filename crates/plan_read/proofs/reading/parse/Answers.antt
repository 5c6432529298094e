use Rattle.std.proofs.Common.{◌≡◌, true, refl}
use Rattle.plan_read.proofs.TextLaw.{is_tree, is_no_tree}
use Rattle.plan_read.proofs.reading.parse.Goals as goal

pub returns-in-Ok : goal.returns-in-Ok
returns-in-Ok c = let e = is_tree c.args.text.now _ c.in-Ok.ensures.ok.0 c.in-Ok.ensures.ok.1 in rw e (refl, refl)

pub returns-else-is_memory : goal.returns-else-is_memory
returns-else-is_memory c =
    rw (c.fault.ensures, c.top.ensures, is_no_tree c.args.text.now (c.in-Err.ensures.refused (λ memory. let told : c.is_memory.result ≡ true = c.is_memory.ensures.1 memory in cc))) refl
