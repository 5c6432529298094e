use Rattle.plan_warnings.proofs.Walks.{CallsLeft}
use Rattle.plan_warnings.proofs.places.add_places.Given as goal

abbrev pub invariant-loop-call : goal.invariant-loop-call
invariant-loop-call g l = CallsLeft l.number l.was_shut l.block l.fn.places.items l.places.items l.call l.sub l.is_shut
