use Rattle.std.proofs.Common.{◌∙◌, sym}
use Rattle.line_reasons.proofs.NumberFaults.{is_one_of}
use Rattle.line_reasons.specs.Numbers.{units}
use Rattle.line_reasons.proofs.number.is_unit.Goals as goal

pub returns : goal.returns
returns c =
    let told = is_one_of units c.args.word.now in
    (λ test. told.0 (sym c.contains.ensures.value ∙ test), λ is. c.contains.ensures.value ∙ told.1 is)
