use Rattle.std.proofs.Common.{◌≡◌, ◌∙◌, Bool, true, false, cond, ◌||◌, refl}
use Rattle.plan_warnings.specs.Places.{is_same}
use Rattle.plan_warnings.specs.own.Sets.{has_target}
use Rattle.plan_warnings.proofs.targets.Targets.add.Goals as goal

or_cond : (b x : Bool) → cond b true x ≡ (x || b)
or_cond true true = refl
or_cond true false = refl
or_cond false true = refl
or_cond false false = refl

pub returns : goal.returns
returns g c = λ t. c.in_ok-insert.ensures.updates.0 (t.block, t.sub) ∙ or_cond (is_same c.args.target t) (has_target c.args.self.now t)
