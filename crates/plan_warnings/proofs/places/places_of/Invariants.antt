use Rattle.plan_warnings.proofs.Walks.{BlocksLeft}
use Rattle.plan_warnings.proofs.places.places_of.Given as goal

abbrev pub invariant-loop-number : goal.invariant-loop-number
invariant-loop-number g l = BlocksLeft l.plan l.places.items l.number l.is_shut
