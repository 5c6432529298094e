use Rattle.std.proofs.Common.{◌≡◌, take}
use Rattle.trace_svg.specs.Stacks.{stack_across, stands_on}
use Rattle.trace_svg.proofs.Groups.{AreFirst}
use Rattle.trace_svg.proofs.stacks.stack_len.Given as goal

-- the marks so far are of the first stack
abbrev pub invariant-loop-index : goal.invariant-loop-index
invariant-loop-index l = record {
  place : l.place ≡ stack_across l.window (take l.index l.marks);
  first : AreFirst (stands_on l.window) l.marks l.index;
}
