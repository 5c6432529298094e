use Rattle.byte_ends.specs.Ends.{AllGood}
use Rattle.sched_engine.specs.own.Turns.{IsBetweenTurns, Progress, Setting, still_to_come}
use Rattle.sched_engine.proofs.engine.run.Given as goal

-- between two turns nothing waits for an answer, no answer waits to be written, and each try of both ends was good
abbrev pub invariant-loop-engine : goal.invariant-loop-engine
invariant-loop-engine g l = record {
  between : IsBetweenTurns
      (record { calls = l.initial.engine.core.calls; workers = l.workers; limit = l.limit; input = g.S.Source.remaining l.fn.reader; contents = g.W.Sink.contents l.fn.writer })
      (record { left = g.S.Source.remaining l.reader; held = l.engine.held; text = l.engine.draft; contents = g.W.Sink.contents l.writer; core = l.engine.core; count = l.engine.count });
  reads : AllGood (g.S.Source.failed l.fn.reader) (g.S.Source.fruitless l.fn.reader) (g.S.Source.failed l.reader) (g.S.Source.fruitless l.reader);
  writes : AllGood (g.W.Sink.failed l.fn.writer) (g.W.Sink.fruitless l.fn.writer) (g.W.Sink.failed l.writer) (g.W.Sink.fruitless l.writer);
}

abbrev pub decreases-loop-engine : goal.decreases-loop-engine
decreases-loop-engine g l =
    let run : Setting = record { calls = l.initial.engine.core.calls; workers = l.workers; limit = l.limit; input = g.S.Source.remaining l.fn.reader; contents = g.W.Sink.contents l.fn.writer } in
    let at : Progress = record { left = g.S.Source.remaining l.reader; held = l.engine.held; text = l.engine.draft; contents = g.W.Sink.contents l.writer; core = l.engine.core; count = l.engine.count } in
    still_to_come run at
