use Rattle.std.proofs.Common.{◌∙◌, sym}
use Rattle.trace_reasons.proofs.Differing.{differs}
use Rattle.trace_reasons.proofs.standing.is_among.Goals as goal

pub returns : goal.returns
returns g c none = differs _ c.args.items.now c.args.item.now (g.met.T.Eq.laws.refl c.args.item.now) (sym c.contains.ensures.value ∙ none)
