use Rattle.std.proofs.lemmas.Bool.{false≢true}
use Rattle.trace_text.proofs.front.front_event.Goals as goal

pub returns-in_default : goal.returns-in_default
returns-in_default c = (c.in_default.ensures, λ part. false≢true (c.if-is_part.ensures.1 part))
