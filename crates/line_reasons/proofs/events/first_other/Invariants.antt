use Rattle.std.proofs.Common.{◌+◌, ◌≤◌, length}
use Rattle.line_reasons.specs.own.Kinds.{FitsIn, spelling}
use Rattle.line_reasons.proofs.LineTexts.{IsLeft}
use Rattle.line_reasons.proofs.events.first_other.Given as goal

abbrev pub invariant-loop-rest : goal.invariant-loop-rest
invariant-loop-rest g l = record {
  left : IsLeft (spelling l.lines) (FitsIn l.lines) l.text l.rest l.number;
  few : l.number + length l.rest ≤ length l.text + 1;
}

abbrev pub decreases-loop-rest : goal.decreases-loop-rest
decreases-loop-rest g l = length l.rest
