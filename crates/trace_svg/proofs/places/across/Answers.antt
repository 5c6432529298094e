use Rattle.std.proofs.Common.{arith}
use Rattle.trace_draw.proofs.WindowLaws.{places_are_within}
use Rattle.trace_svg.proofs.places.across.Goals as goal

pub overflow_add-result : goal.overflow_add-result
overflow_add-result c = omega (arith, places_are_within c.args.window 1060 c.args.moment)

pub returns-clause-within : goal.returns-clause-within
returns-clause-within c = omega (arith, places_are_within c.args.window 1060 c.args.moment)
