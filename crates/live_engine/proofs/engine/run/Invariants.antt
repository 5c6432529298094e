use Rattle.std.proofs.Common.{◌≤◌}
use Rattle.byte_ends.specs.Ends.{AllGood}
use Rattle.live_engine.specs.LiveLines.{most_numbers}
use Rattle.live_engine.specs.own.LiveTurns.{AreCounted, IsBetweenTurns, Progress, still_to_come}
use Rattle.live_engine.proofs.engine.run.Given as goal

-- between two turns nothing waits for an answer, no answer waits to be written, and each try of both ends was good
abbrev pub invariant-loop-engine : goal.invariant-loop-engine
invariant-loop-engine g l = record {
  between : IsBetweenTurns
      (record { workers = l.workers; first = record { left = g.S.Source.remaining l.fn.reader; contents = g.W.Sink.contents l.fn.writer; journal = l.fn.journal } })
      (record { ends = record { left = g.S.Source.remaining l.reader; contents = g.W.Sink.contents l.writer; journal = l.journal }; held = l.engine.held; text = l.engine.draft; counts = l.engine.counts })
      l.engine.executor;
  few : l.engine.executor.count ≤ most_numbers;
  counted : AreCounted l.engine.counts;
  reads : AllGood (g.S.Source.failed l.fn.reader) (g.S.Source.fruitless l.fn.reader) (g.S.Source.failed l.reader) (g.S.Source.fruitless l.reader);
  writes : AllGood (g.W.Sink.failed l.fn.writer) (g.W.Sink.fruitless l.fn.writer) (g.W.Sink.failed l.writer) (g.W.Sink.fruitless l.writer);
}

abbrev pub decreases-loop-engine : goal.decreases-loop-engine
decreases-loop-engine g l =
    let at : Progress = record { ends = record { left = g.S.Source.remaining l.reader; contents = g.W.Sink.contents l.writer; journal = l.journal }; held = l.engine.held; text = l.engine.draft; counts = l.engine.counts } in
    still_to_come at
