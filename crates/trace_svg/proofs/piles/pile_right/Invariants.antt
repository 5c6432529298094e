use Rattle.std.proofs.Common.{◌≡◌, ◌≤◌, take}
use Rattle.trace_svg.specs.Piles.{pile_right}
use Rattle.trace_svg.proofs.piles.pile_right.Given as goal

-- the bars so far end there, within the picture and a bar behind it
abbrev pub invariant-loop-bar : goal.invariant-loop-bar
invariant-loop-bar l = record {
  right : l.right ≡ pile_right l.window (take l.bar-index l.pile);
  within : l.right ≤ 2340;
}
