use Rattle.std.proofs.Common.{ℕ, List, ◌++◌, Option, take}
use Rattle.std.specs.Prelude.{flat_map}
use Rattle.byte_ends.specs.Ends.{AllGood}
use Rattle.snapshot_text.specs.own.Pages.{IsGiven}
use Rattle.snapshot_text.proofs.spelled.write_all.Given as goal

-- the lines of the values so far were given out, and all tries were good
abbrev pub invariant-loop-value : goal.invariant-loop-value
invariant-loop-value g l = record {
  given : (before : Option (List ℕ)) (text : List ℕ) → IsGiven before (g.W.Sink.contents l.fn.writer) l.fn.page text
      → IsGiven before (g.W.Sink.contents l.writer) l.page (text ++ flat_map g.V.Spelled.spell (take l.value-index l.values));
  counts : AllGood (g.W.Sink.failed l.fn.writer) (g.W.Sink.fruitless l.fn.writer) (g.W.Sink.failed l.writer) (g.W.Sink.fruitless l.writer);
}
