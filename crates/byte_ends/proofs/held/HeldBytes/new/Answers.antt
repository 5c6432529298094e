-- Answered by hand, since the search writes out the list of 65,536 bytes wherever it fails.
use Rattle.std.proofs.Common.{refl, zero-le}
use Rattle.byte_ends.proofs.held.HeldBytes.new.Goals as goal

pub invariant_of-result : goal.invariant_of-result
invariant_of-result g c = (zero-le, zero-le, c.in_ok-from_elem.ensures.len)

pub returns : goal.returns
returns g c = refl
