use Rattle.std.proofs.Common.{◌≡◌}
use Rattle.line_copy.specs.Copying.{HoldsFirst}
use Rattle.line_copy.proofs.slice.put_lines.Given as goal

-- each line so far was copied
abbrev pub invariant-loop-line : goal.invariant-loop-line
invariant-loop-line l = record {
  first : HoldsFirst l.lines l.fn.out l.out l.copy;
  all : l.copy.lines ≡ l.line-index;
}
