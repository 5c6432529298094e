use Rattle.std.proofs.Common.{◌≡◌, drop}
use Rattle.std.specs.Prelude.{reverse}
use Rattle.trace_draw.specs.Pictures.{bars_within}
use Rattle.trace_draw.specs.own.Ends.{TellEnds}
use Rattle.trace_draw.proofs.drawing.bars_in.Given as goal

abbrev pub invariant-loop-index : goal.invariant-loop-index
invariant-loop-index g l = record {
  ends : TellEnds l.ends.finishes (drop l.index l.lines);
  bars : l.bars.items ≡ reverse (bars_within l.window (drop l.index l.lines));
}
