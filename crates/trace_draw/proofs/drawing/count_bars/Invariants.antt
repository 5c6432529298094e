use Rattle.std.proofs.Common.{◌≡◌, drop, length}
use Rattle.trace_draw.specs.Pictures.{bars_within}
use Rattle.trace_draw.specs.own.Ends.{TellEnds}
use Rattle.trace_draw.proofs.drawing.count_bars.Given as goal

abbrev pub invariant-loop-index : goal.invariant-loop-index
invariant-loop-index l = record {
  ends : TellEnds l.ends.finishes (drop l.index l.lines);
  count : l.count ≡ length (bars_within l.window (drop l.index l.lines));
}
