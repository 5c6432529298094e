use Rattle.std.specs.Io.KnownBytes.{Keeps}
use Rattle.byte_ends.specs.Ends.{NoneFailed}
use Rattle.byte_ends.proofs.ends.read_some.Given as goal

-- each read so far was fruitless
abbrev pub invariant-loop-read : goal.invariant-loop-read
invariant-loop-read g l = record {
  kept : Keeps (g.S.Source.remaining l.fn.source) (g.S.Source.remaining l.source);
  counts : NoneFailed l._read (g.S.Source.failed l.fn.source) (g.S.Source.fruitless l.fn.source) (g.S.Source.failed l.source) (g.S.Source.fruitless l.source);
}
