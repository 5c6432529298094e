use Rattle.std.proofs.Common.{length, take, ◌-◌, ◌≤◌}
use Rattle.std.specs.Io.KnownBytes.{Appends}
use Rattle.byte_ends.specs.Ends.{AllGood}
use Rattle.byte_ends.proofs.ends.write_text.Given as goal

-- the text up to `at` was written, and each try was good
abbrev pub invariant-loop-at : goal.invariant-loop-at
invariant-loop-at g l = record {
  written : Appends (g.W.Sink.contents l.fn.sink) (g.W.Sink.contents l.sink) (take l.at l.text);
  counts : AllGood (g.W.Sink.failed l.fn.sink) (g.W.Sink.fruitless l.fn.sink) (g.W.Sink.failed l.sink) (g.W.Sink.fruitless l.sink);
  within : l.at ≤ length l.text;
}

abbrev pub decreases-loop-at : goal.decreases-loop-at
decreases-loop-at g l = length l.text - l.at
