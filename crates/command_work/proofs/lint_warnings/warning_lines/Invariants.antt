use Rattle.std.proofs.Common.{length, ◌≡◌, ◌≤◌}
use Rattle.command_work.proofs.lint_warnings.warning_lines.Given as goal

abbrev pub invariant-loop-warning : goal.invariant-loop-warning
invariant-loop-warning l = record {
  count : length l.lines.items ≡ l.warning-index;
  within : l.warning-index ≤ length l.warning-items;
}
