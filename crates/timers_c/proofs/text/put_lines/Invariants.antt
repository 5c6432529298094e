use Rattle.std.proofs.Common.{◌≡◌, ◌+◌, ◌-◌, ◌≤◌, drop, length, min}
use Rattle.line_copy.specs.Copying.{HoldsFirst}
use Rattle.timers_c.proofs.text.put_lines.Given as goal

-- each line from the first one wanted up to this place was copied
abbrev pub invariant-loop-place : goal.invariant-loop-place
invariant-loop-place l = record {
  count : l.lines ≡ length l.session.lines;
  start : l.start ≡ min l.from l.lines;
  within : l.place ≤ l.lines;
  all : l.place ≡ l.start + l.copy.lines;
  first : HoldsFirst (drop l.from l.session.lines) l.fn.out l.out l.copy;
}

abbrev pub decreases-loop-place : goal.decreases-loop-place
decreases-loop-place l = l.lines - l.place
