use Rattle.std.proofs.Common.{length, take, ◌-◌, ◌≤◌}
use Rattle.std.specs.Io.KnownBytes.{Consumes}
use Rattle.byte_ends.specs.Ends.{AllGood}
use Rattle.command_work.proofs.files.front_of.Given as goal

-- the first `filled` bytes of the text were read, and each try was good
abbrev pub invariant-loop-filled : goal.invariant-loop-filled
invariant-loop-filled g l = record {
  read : Consumes (g.P.Source.remaining l.fn.file) (g.P.Source.remaining l.file) (take l.filled l.text.items);
  counts : AllGood (g.P.Source.failed l.fn.file) (g.P.Source.fruitless l.fn.file) (g.P.Source.failed l.file) (g.P.Source.fruitless l.file);
  within : l.filled ≤ length l.text.items;
  few : length l.text.items ≤ l.most;
}

abbrev pub decreases-loop-filled : goal.decreases-loop-filled
decreases-loop-filled g l = l.most - l.filled
