use Rattle.std.proofs.Common.{◌≡◌, take}
use Rattle.trace_draw.specs.Pictures.{marks_within}
use Rattle.trace_draw.proofs.drawing.marks_in.Given as goal

abbrev pub invariant-loop-line : goal.invariant-loop-line
invariant-loop-line g l = l.marks.items ≡ marks_within l.window (take l.line-index l.lines)
