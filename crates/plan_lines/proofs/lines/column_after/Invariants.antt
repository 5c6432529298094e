use Rattle.std.proofs.Common.{◌≡◌, ◌+◌, ◌≤◌, drop}
use Rattle.plan_lines.specs.Lines.{column_from}
use Rattle.plan_lines.proofs.lines.column_after.Given as goal

abbrev pub invariant-loop-byte : goal.invariant-loop-byte
invariant-loop-byte l = record {
  small : l.column ≤ 1 + l.byte-index;
  rest : column_from l.column (drop l.byte-index l.before) ≡ column_from 1 l.before;
}
