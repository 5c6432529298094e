use Rattle.std.proofs.Common.{ℕ, ◌+◌, ◌≤◌, List, Err, length, take, refl, sym, subst, arith}
use Rattle.std.specs.Io.KnownBytes.{Appends}
use Rattle.sched_engine.specs.declared.report.StopError.{StopError}
use Rattle.byte_ends.specs.Refills.{piece}
use Rattle.sched_engine.specs.Running.{CountsReads, CountsWrites}
use Rattle.byte_ends.proofs.Tries.{bad_try, good_then_bad, good_then_good, good_try, no_try}
use Rattle.live_engine.specs.declared.engine.Turn.{Turn}
use Rattle.live_engine.specs.declared.stops.PieceEnd.{PieceEnd}
use Rattle.live_engine.specs.LiveRuns.{Runs}
use Rattle.live_engine.specs.LiveLines.{most_lines}
use Rattle.live_engine.specs.own.LiveTurns.{IsPieceEnd, Progress}
use Rattle.live_engine.proofs.Counting.{reads_ended, writes_ended}
use Rattle.live_engine.proofs.Ending.{at_the_end, cut_short, faulted, full, out_of_memory, refused, smaller, unwritten}
use Rattle.live_engine.proofs.Going.{filled, wrote}
use Rattle.live_engine.proofs.engine.Engine.turn.Goals as goal

pub returns-in-End-clause-turns : goal.returns-in-End-clause-turns
returns-in-End-clause-turns g c = λ run between.
    let reader = g.S.Source.remaining c.fill.new.source in
    let writer = g.W.Sink.contents c.args.writer.now in
    let journal = c.args.journal.now in
    let old = c.args.self.now in
    let at : Progress = record { ends = record { left = g.S.Source.remaining c.args.reader.now; contents = writer; journal = journal }; held = old.held; text = old.draft; counts = old.counts } in
    let none = c.in-End.ensures.bytes in
    at_the_end run at old.executor old.executor reader c.fill.new.self c.end.result between none.0 none.1 none.2 c.end.ensures

pub returns-in-Fault-clause-turns : goal.returns-in-Fault-clause-turns
returns-in-Fault-clause-turns g c = λ run between.
    let reader = g.S.Source.remaining c.fill.new.source in
    let writer = g.W.Sink.contents c.args.writer.now in
    let journal = c.args.journal.now in
    let old = c.args.self.now in
    let at : Progress = record { ends = record { left = g.S.Source.remaining c.args.reader.now; contents = writer; journal = journal }; held = old.held; text = old.draft; counts = old.counts } in
    let none = c.in-Fault.ensures.bytes in
    faulted run at old.executor reader between none.0

pub returns-in_default-clause-turns : goal.returns-in_default-clause-turns
returns-in_default-clause-turns g c = λ run between.
    let reader = g.S.Source.remaining c.fill.new.source in
    let writer = g.W.Sink.contents c.args.writer.now in
    let journal = c.args.journal.now in
    let old = c.args.self.now in
    let at : Progress = record { ends = record { left = g.S.Source.remaining c.args.reader.now; contents = writer; journal = journal }; held = old.held; text = old.draft; counts = old.counts } in
    let more = c.in-More.ensures.bytes in
    let read = filled run at between.lines reader c.fill.new.self more.0 between.done.done more.1 more.2 in
    let read_on : Progress = record { ends = record { left = reader; contents = writer; journal = journal }; held = c.fill.new.self; text = old.draft; counts = old.counts } in
    let new = c.answer_held.new.self in
    let noted = c.answer_held.new.journal in
    let given = g.W.Sink.contents c.answer_held.new.writer in
    cut_short run reader given c.fill.new.self noted c.fill.ensures.few (c.in_default.ensures.cut refl run reader between.lines (record { done = read; stands = between.done.stands }))

pub returns-then-not-write_text-clause-turns : goal.returns-then-not-write_text-clause-turns
returns-then-not-write_text-clause-turns g c = λ run between.
    let reader = g.S.Source.remaining c.fill.new.source in
    let writer = g.W.Sink.contents c.args.writer.now in
    let journal = c.args.journal.now in
    let old = c.args.self.now in
    let at : Progress = record { ends = record { left = g.S.Source.remaining c.args.reader.now; contents = writer; journal = journal }; held = old.held; text = old.draft; counts = old.counts } in
    let more = c.in-More.ensures.bytes in
    let read = filled run at between.lines reader c.fill.new.self more.0 between.done.done more.1 more.2 in
    let read_on : Progress = record { ends = record { left = reader; contents = writer; journal = journal }; held = c.fill.new.self; text = old.draft; counts = old.counts } in
    let new = c.answer_held.new.self in
    let noted = c.answer_held.new.journal in
    let given = g.W.Sink.contents c.answer_held.new.writer in
    let ok = c.in-Some.ensures in
    let stopped = ok.stopped run reader between.lines (record { done = read; stands = between.done.stands }) in
    let answered : Progress = record { ends = record { left = reader; contents = given; journal = noted }; held = new.held; text = new.draft; counts = new.counts } in
    let near : length new.held ≤ piece = omega (arith, (ok.fewer refl), c.fill.ensures.few) in
    let after = g.W.Sink.contents c.write_text.new.sink in
    let written = c.if-not-write_text.ensures.bytes in
    unwritten run answered stopped.lines after written.0 stopped.done near (subst (λ (l : List ℕ). Appends given after (take written.0 l)) c.bytes.ensures written.2)

pub returns-in-Part-clause-turns : goal.returns-in-Part-clause-turns
returns-in-Part-clause-turns g c = λ run between.
    let reader = g.S.Source.remaining c.fill.new.source in
    let writer = g.W.Sink.contents c.args.writer.now in
    let journal = c.args.journal.now in
    let old = c.args.self.now in
    let at : Progress = record { ends = record { left = g.S.Source.remaining c.args.reader.now; contents = writer; journal = journal }; held = old.held; text = old.draft; counts = old.counts } in
    let more = c.in-More.ensures.bytes in
    let read = filled run at between.lines reader c.fill.new.self more.0 between.done.done more.1 more.2 in
    let read_on : Progress = record { ends = record { left = reader; contents = writer; journal = journal }; held = c.fill.new.self; text = old.draft; counts = old.counts } in
    let new = c.answer_held.new.self in
    let noted = c.answer_held.new.journal in
    let given = g.W.Sink.contents c.answer_held.new.writer in
    let ok = c.in-Some.ensures in
    let stopped = ok.stopped run reader between.lines (record { done = read; stands = between.done.stands }) in
    let answered : Progress = record { ends = record { left = reader; contents = given; journal = noted }; held = new.held; text = new.draft; counts = new.counts } in
    let near : length new.held ≤ piece = omega (arith, (ok.fewer refl), c.fill.ensures.few) in
    let after = g.W.Sink.contents c.write_text.new.sink in
    let finished = wrote run answered stopped.lines after c.clear.new.self stopped.done (subst (Appends given after) c.bytes.ensures c.if-not-write_text.ensures.bytes) c.clear.ensures in
    let here : Progress = record { ends = record { left = reader; contents = after; journal = noted }; held = new.held; text = c.clear.new.self; counts = new.counts } in
    let stop = subst (λ (end : PieceEnd). IsPieceEnd end run.workers new.executor stopped.lines new.held) c.in-Part.is stopped.stop in (
      record { lines = stopped.lines; done = record { done = finished; stands = stop.1 }; none = c.clear.ensures; part = stop.0; range = between.range },
      smaller most_lines old.counts.read new.counts.read old.held more.0 c.fill.new.self new.held more.2 more.3 (ok.rises refl) (omega (arith, (ok.counted refl))) (ok.same refl) stop.0.1 between.part.1,
    )

pub returns-in-Refused-clause-turns : goal.returns-in-Refused-clause-turns
returns-in-Refused-clause-turns g c = λ run between.
    let reader = g.S.Source.remaining c.fill.new.source in
    let writer = g.W.Sink.contents c.args.writer.now in
    let journal = c.args.journal.now in
    let old = c.args.self.now in
    let at : Progress = record { ends = record { left = g.S.Source.remaining c.args.reader.now; contents = writer; journal = journal }; held = old.held; text = old.draft; counts = old.counts } in
    let more = c.in-More.ensures.bytes in
    let read = filled run at between.lines reader c.fill.new.self more.0 between.done.done more.1 more.2 in
    let read_on : Progress = record { ends = record { left = reader; contents = writer; journal = journal }; held = c.fill.new.self; text = old.draft; counts = old.counts } in
    let new = c.answer_held.new.self in
    let noted = c.answer_held.new.journal in
    let given = g.W.Sink.contents c.answer_held.new.writer in
    let ok = c.in-Some.ensures in
    let stopped = ok.stopped run reader between.lines (record { done = read; stands = between.done.stands }) in
    let answered : Progress = record { ends = record { left = reader; contents = given; journal = noted }; held = new.held; text = new.draft; counts = new.counts } in
    let near : length new.held ≤ piece = omega (arith, (ok.fewer refl), c.fill.ensures.few) in
    let after = g.W.Sink.contents c.write_text.new.sink in
    let finished = wrote run answered stopped.lines after c.clear.new.self stopped.done (subst (Appends given after) c.bytes.ensures c.if-not-write_text.ensures.bytes) c.clear.ensures in
    let here : Progress = record { ends = record { left = reader; contents = after; journal = noted }; held = new.held; text = c.clear.new.self; counts = new.counts } in
    let stop = subst (λ (end : PieceEnd). IsPieceEnd end run.workers new.executor stopped.lines new.held) c.in-Refused.is stopped.stop in
    subst (λ (e : StopError). Runs (Err e) run.workers run.first here.ends) (sym c.refused_line.ensures) (refused run here stopped.lines (new.counts.read + 1) finished c.clear.ensures near stop refl)

pub returns-in-Full-clause-turns : goal.returns-in-Full-clause-turns
returns-in-Full-clause-turns g c = λ run between.
    let reader = g.S.Source.remaining c.fill.new.source in
    let writer = g.W.Sink.contents c.args.writer.now in
    let journal = c.args.journal.now in
    let old = c.args.self.now in
    let at : Progress = record { ends = record { left = g.S.Source.remaining c.args.reader.now; contents = writer; journal = journal }; held = old.held; text = old.draft; counts = old.counts } in
    let more = c.in-More.ensures.bytes in
    let read = filled run at between.lines reader c.fill.new.self more.0 between.done.done more.1 more.2 in
    let read_on : Progress = record { ends = record { left = reader; contents = writer; journal = journal }; held = c.fill.new.self; text = old.draft; counts = old.counts } in
    let new = c.answer_held.new.self in
    let noted = c.answer_held.new.journal in
    let given = g.W.Sink.contents c.answer_held.new.writer in
    let ok = c.in-Some.ensures in
    let stopped = ok.stopped run reader between.lines (record { done = read; stands = between.done.stands }) in
    let answered : Progress = record { ends = record { left = reader; contents = given; journal = noted }; held = new.held; text = new.draft; counts = new.counts } in
    let near : length new.held ≤ piece = omega (arith, (ok.fewer refl), c.fill.ensures.few) in
    let after = g.W.Sink.contents c.write_text.new.sink in
    let finished = wrote run answered stopped.lines after c.clear.new.self stopped.done (subst (Appends given after) c.bytes.ensures c.if-not-write_text.ensures.bytes) c.clear.ensures in
    let here : Progress = record { ends = record { left = reader; contents = after; journal = noted }; held = new.held; text = c.clear.new.self; counts = new.counts } in
    let stop = subst (λ (end : PieceEnd). IsPieceEnd end run.workers new.executor stopped.lines new.held) c.in-Full.is stopped.stop in
    full run here stopped.lines finished c.clear.ensures near stop

pub returns-in-Memory-clause-turns : goal.returns-in-Memory-clause-turns
returns-in-Memory-clause-turns g c = λ run between.
    let reader = g.S.Source.remaining c.fill.new.source in
    let writer = g.W.Sink.contents c.args.writer.now in
    let journal = c.args.journal.now in
    let old = c.args.self.now in
    let at : Progress = record { ends = record { left = g.S.Source.remaining c.args.reader.now; contents = writer; journal = journal }; held = old.held; text = old.draft; counts = old.counts } in
    let more = c.in-More.ensures.bytes in
    let read = filled run at between.lines reader c.fill.new.self more.0 between.done.done more.1 more.2 in
    let read_on : Progress = record { ends = record { left = reader; contents = writer; journal = journal }; held = c.fill.new.self; text = old.draft; counts = old.counts } in
    let new = c.answer_held.new.self in
    let noted = c.answer_held.new.journal in
    let given = g.W.Sink.contents c.answer_held.new.writer in
    let ok = c.in-Some.ensures in
    let stopped = ok.stopped run reader between.lines (record { done = read; stands = between.done.stands }) in
    let answered : Progress = record { ends = record { left = reader; contents = given; journal = noted }; held = new.held; text = new.draft; counts = new.counts } in
    let near : length new.held ≤ piece = omega (arith, (ok.fewer refl), c.fill.ensures.few) in
    let after = g.W.Sink.contents c.write_text.new.sink in
    let finished = wrote run answered stopped.lines after c.clear.new.self stopped.done (subst (Appends given after) c.bytes.ensures c.if-not-write_text.ensures.bytes) c.clear.ensures in
    let here : Progress = record { ends = record { left = reader; contents = after; journal = noted }; held = new.held; text = c.clear.new.self; counts = new.counts } in
    let stop = subst (λ (end : PieceEnd). IsPieceEnd end run.workers new.executor stopped.lines new.held) c.in-Memory.is stopped.stop in
    out_of_memory run here stopped.lines finished c.clear.ensures near stop

-- ---- what the tries of the reader count

pub returns-in-End-clause-read : goal.returns-in-End-clause-read
returns-in-End-clause-read g c =
    let source = c.args.reader.now in
    let after = c.fill.new.source in
    let counts = c.args.self.now.counts in
    reads_ended c.end.result counts.read counts.written c.fill.new.self (g.S.Source.failed source) (g.S.Source.fruitless source) (g.S.Source.failed after) (g.S.Source.fruitless after) c.end.ensures (good_try _ _ _ _ c.in-End.ensures.counts)

pub returns-in-Fault-clause-read : goal.returns-in-Fault-clause-read
returns-in-Fault-clause-read g c = bad_try _ _ _ _ c.in-Fault.ensures.counts

pub returns-in_default-clause-read : goal.returns-in_default-clause-read
returns-in_default-clause-read g c = good_try _ _ _ _ c.in-More.ensures.counts

pub returns-then-not-write_text-clause-read : goal.returns-then-not-write_text-clause-read
returns-then-not-write_text-clause-read g c = good_try _ _ _ _ c.in-More.ensures.counts

pub returns-in-Part-clause-read : goal.returns-in-Part-clause-read
returns-in-Part-clause-read g c = good_try _ _ _ _ c.in-More.ensures.counts

pub returns-in-Refused-clause-read : goal.returns-in-Refused-clause-read
returns-in-Refused-clause-read g c =
    let source = c.args.reader.now in
    let after = c.fill.new.source in
    subst (λ (e : StopError). CountsReads {T = Turn} (Err e) (g.S.Source.failed source) (g.S.Source.fruitless source) (g.S.Source.failed after) (g.S.Source.fruitless after)) (sym c.refused_line.ensures) (good_try _ _ _ _ c.in-More.ensures.counts)

pub returns-in-Full-clause-read : goal.returns-in-Full-clause-read
returns-in-Full-clause-read g c = good_try _ _ _ _ c.in-More.ensures.counts

pub returns-in-Memory-clause-read : goal.returns-in-Memory-clause-read
returns-in-Memory-clause-read g c = good_try _ _ _ _ c.in-More.ensures.counts

-- ---- what the tries of the writer count

pub returns-in-End-clause-write : goal.returns-in-End-clause-write
returns-in-End-clause-write g c =
    let sink = c.args.writer.now in
    let counts = c.args.self.now.counts in
    writes_ended c.end.result counts.read counts.written c.fill.new.self (g.W.Sink.failed sink) (g.W.Sink.fruitless sink) (g.W.Sink.failed sink) (g.W.Sink.fruitless sink) c.end.ensures (no_try (g.W.Sink.failed sink) (g.W.Sink.fruitless sink))

pub returns-in-Fault-clause-write : goal.returns-in-Fault-clause-write
returns-in-Fault-clause-write g c = no_try (g.W.Sink.failed c.args.writer.now) (g.W.Sink.fruitless c.args.writer.now)

pub returns-then-not-write_text-clause-write : goal.returns-then-not-write_text-clause-write
returns-then-not-write_text-clause-write g c = good_then_bad _ _ _ _ _ _ c.in-Some.ensures.write c.if-not-write_text.ensures.counts

pub returns-in-Part-clause-write : goal.returns-in-Part-clause-write
returns-in-Part-clause-write g c = good_then_good _ _ _ _ _ _ c.in-Some.ensures.write c.if-not-write_text.ensures.counts

pub returns-in-Refused-clause-write : goal.returns-in-Refused-clause-write
returns-in-Refused-clause-write g c =
    let sink = c.args.writer.now in
    let after = c.write_text.new.sink in
    subst (λ (e : StopError). CountsWrites {T = Turn} (Err e) (g.W.Sink.failed sink) (g.W.Sink.fruitless sink) (g.W.Sink.failed after) (g.W.Sink.fruitless after)) (sym c.refused_line.ensures)
    (good_then_good _ _ _ _ _ _ c.in-Some.ensures.write c.if-not-write_text.ensures.counts)

pub returns-in-Full-clause-write : goal.returns-in-Full-clause-write
returns-in-Full-clause-write g c = good_then_good _ _ _ _ _ _ c.in-Some.ensures.write c.if-not-write_text.ensures.counts

pub returns-in-Memory-clause-write : goal.returns-in-Memory-clause-write
returns-in-Memory-clause-write g c = good_then_good _ _ _ _ _ _ c.in-Some.ensures.write c.if-not-write_text.ensures.counts
