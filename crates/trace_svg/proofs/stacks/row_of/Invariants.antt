use Rattle.std.proofs.Common.{◌≡◌, take}
use Rattle.trace_svg.specs.Stacks.{marks_in}
use Rattle.trace_svg.proofs.stacks.row_of.Given as goal

abbrev pub invariant-loop-line : goal.invariant-loop-line
invariant-loop-line g l = l.marks.items ≡ marks_in l.fn.row (take l.line-index l.lines)
