use Rattle.std.proofs.Common.{◌≡◌, ◌≤◌, length}
use Rattle.trace_reasons.specs.Standing.{behind_lines}
use Rattle.trace_reasons.proofs.places.behind_lines.Given as goal

abbrev pub invariant-loop : goal.invariant-loop
invariant-loop l = record {
  rest : l.rest ≡ behind_lines l.counter l.text;
  few : length l.rest ≤ length l.text;
}
