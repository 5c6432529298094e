use Rattle.std.proofs.Common.{length, ◌↔◌, IsTrue}
use Rattle.line_reasons.specs.Lines.{words_of, NoneBefore, IsBehindNumber}
use Rattle.line_reasons.proofs.line.words_fault.Given as goal

-- no word so far is told of, and whether the last one is a number is known
abbrev pub invariant-loop-word : goal.invariant-loop-word
invariant-loop-word l = record {
  none : NoneBefore (words_of l.fn.line) (length l.yielded);
  behind : IsTrue l.is_behind_number ↔ IsBehindNumber (words_of l.fn.line) (length l.yielded);
}
