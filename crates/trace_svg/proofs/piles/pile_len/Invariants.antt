use Rattle.std.proofs.Common.{◌≡◌, take}
use Rattle.trace_svg.specs.Piles.{lies_on, pile_right}
use Rattle.trace_svg.proofs.Groups.{AreFirst}
use Rattle.trace_svg.proofs.piles.pile_len.Given as goal

-- the bars so far are of the first pile, and end there
abbrev pub invariant-loop-index : goal.invariant-loop-index
invariant-loop-index l = record {
  end : l.end ≡ pile_right l.window (take l.index l.lane);
  first : AreFirst (lies_on l.window) l.lane l.index;
}
