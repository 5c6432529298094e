use Rattle.std.specs.Io.KnownBytes.{Keeps}
use Rattle.byte_ends.specs.Ends.{NoneFailed}
use Rattle.byte_ends.proofs.ends.write_some.Given as goal

-- each write so far was fruitless
abbrev pub invariant-loop-write : goal.invariant-loop-write
invariant-loop-write g l = record {
  kept : Keeps (g.W.Sink.contents l.fn.sink) (g.W.Sink.contents l.sink);
  counts : NoneFailed l._write (g.W.Sink.failed l.fn.sink) (g.W.Sink.fruitless l.fn.sink) (g.W.Sink.failed l.sink) (g.W.Sink.fruitless l.sink);
}
