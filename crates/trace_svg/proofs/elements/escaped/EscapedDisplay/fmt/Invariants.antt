use Rattle.std.proofs.Common.{◌≡◌, ℕ, List, ◌++◌}
use Rattle.std.specs.Fmt.{HasWritten, IsPlainFormatter}
use Rattle.std.specs.Str.Iter.{chars_rest}
use Rattle.trace_svg.specs.elements.Escapes.{escaped}
use Rattle.trace_svg.proofs.elements.escaped.EscapedDisplay.fmt.Given as goal

-- what was written, and what is left, escaped, are the whole
abbrev pub invariant-loop-c : goal.invariant-loop-c
invariant-loop-c g l =
    (goal.iterator-loop-c g).can_next l.c-iterator
    × (goal.iterator-loop-c g).is_finite l.c-iterator
    × (IsPlainFormatter l.initial.f → (done : List ℕ) × HasWritten g.W.Write.write_str_gives l.initial.f done l.f
    × (done ++ escaped (chars_rest l.c-iterator) ≡ escaped l.fn.self.0.now))
