-- The entries that are not stale come to the end.
use Rattle.live_core.specs.Empties.{held_numbers}
use Rattle.live_core.specs.own.Slots.{is_held}
use Rattle.live_core.proofs.Paired.{PairsCompact}
use Rattle.live_core.proofs.index.gather_held.Given as goal

abbrev pub invariant-loop-i : goal.invariant-loop-i
invariant-loop-i l = PairsCompact (is_held (held_numbers l.seats)) l.fn.numbers l.fn.slots l.numbers l.slots l.from l.i

abbrev pub decreases-loop-i : goal.decreases-loop-i
decreases-loop-i l = l.i
