use Rattle.std.proofs.Common.{◌∙◌, rules, tests}
use Rattle.std.proofs.lemmas.Iterator.{YieldsList-from_slice}
use Rattle.std.proofs.lemmas.Iterator.Search.{any_from_yields_List}
use Rattle.std.specs.Prelude.{bytes_eq}
use Rattle.plan_reasons.proofs.Belonging.{any_key}
use Rattle.plan_reasons.proofs.keys.has_key.Goals as goal

pub returns : goal.returns
returns c =
    any_from_yields_List (λ k. bytes_eq c.args.name.now k.name.now) _ _ c.any.result c.any.ensures.ran (YieldsList-from_slice c.args.keys.now cc) (λ x b q k. search (rules, tests))
    ∙ any_key c.args.name.now c.args.keys.now
