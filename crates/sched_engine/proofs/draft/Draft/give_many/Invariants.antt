use Rattle.std.proofs.Common.{take}
use Rattle.trace_text.specs.Spelling.{lines_text}
use Rattle.byte_ends.specs.Ends.{AllGood}
use Rattle.sched_engine.specs.Pieces.{Gives}
use Rattle.sched_engine.proofs.draft.Draft.give_many.Given as goal

-- the text of the lines so far was given out, and each try was good
abbrev pub invariant-loop-line : goal.invariant-loop-line
invariant-loop-line g l = record {
  given : Gives (record { contents = g.W.Sink.contents l.fn.writer; text = l.fn.self }) (record { contents = g.W.Sink.contents l.writer; text = l.self }) (lines_text (take l.line-index l.lines));
  counts : AllGood (g.W.Sink.failed l.fn.writer) (g.W.Sink.fruitless l.fn.writer) (g.W.Sink.failed l.writer) (g.W.Sink.fruitless l.writer);
}
