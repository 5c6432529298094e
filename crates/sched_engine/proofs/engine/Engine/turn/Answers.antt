use Rattle.std.proofs.Common.{ℕ, ◌+◌, ◌≤◌, List, Err, length, take, refl, sym, subst, arith}
use Rattle.std.specs.Io.KnownBytes.{Appends}
use Rattle.sched_engine.specs.declared.answering.PieceEnd.{PieceEnd}
use Rattle.sched_engine.specs.declared.report.StopError.{StopError}
use Rattle.sched_engine.specs.declared.engine.Turn.{Turn}
use Rattle.byte_ends.specs.Refills.{piece}
use Rattle.sched_engine.specs.Running.{CountsReads, CountsWrites, Runs}
use Rattle.sched_engine.specs.own.Turns.{IsPieceEnd, Progress}
use Rattle.sched_engine.proofs.Turns.{at_the_end, cut_short, faulted, few_lines, filled, full, out_of_memory, refused, smaller, unwritten, wrote}
use Rattle.byte_ends.proofs.Tries.{bad_try, good_then_bad, good_then_good, good_try, no_try}
use Rattle.sched_engine.proofs.Tries.{reads_ended, writes_ended}
use Rattle.sched_engine.proofs.engine.Engine.turn.Goals as goal

pub returns-in-End-clause-turns : goal.returns-in-End-clause-turns
returns-in-End-clause-turns g c = λ run between.
    let reader = g.S.Source.remaining c.fill.new.source in
    let writer = g.W.Sink.contents c.args.writer.now in
    let none = c.in-End.ensures.bytes in
    let old = c.args.self.now in
    let at : Progress = record { left = g.S.Source.remaining c.args.reader.now; held = old.held; text = old.draft; contents = writer; core = old.core; count = old.count } in
    at_the_end run at reader c.fill.new.self c.end.result between none.0 none.1 none.2 c.end.ensures

pub returns-in-Fault-clause-turns : goal.returns-in-Fault-clause-turns
returns-in-Fault-clause-turns g c = λ run between.
    let reader = g.S.Source.remaining c.fill.new.source in
    let writer = g.W.Sink.contents c.args.writer.now in
    let none = c.in-Fault.ensures.bytes in
    let old = c.args.self.now in
    let at : Progress = record { left = g.S.Source.remaining c.args.reader.now; held = old.held; text = old.draft; contents = writer; core = old.core; count = old.count } in
    faulted run at reader between none.0

pub answer_held-requires-clause-few : goal.answer_held-requires-clause-few
answer_held-requires-clause-few g c = few_lines c.requires.0 _ c.requires.1.done

pub returns-in_default-clause-turns : goal.returns-in_default-clause-turns
returns-in_default-clause-turns g c = λ run between.
    let reader = g.S.Source.remaining c.fill.new.source in
    let writer = g.W.Sink.contents c.args.writer.now in
    let more = c.in-More.ensures.bytes in
    let old = c.args.self.now in
    let at : Progress = record { left = g.S.Source.remaining c.args.reader.now; held = old.held; text = old.draft; contents = writer; core = old.core; count = old.count } in
    let read = filled run at reader c.fill.new.self more.0 between.done more.1 more.2 in
    let read_on : Progress = record { left = reader; held = c.fill.new.self; text = old.draft; contents = writer; core = old.core; count = old.count } in
    cut_short run read_on (g.W.Sink.contents c.answer_held.new.writer) read c.fill.ensures.few (c.in_default.ensures.cut refl)

pub returns-then-not-write_text-clause-turns : goal.returns-then-not-write_text-clause-turns
returns-then-not-write_text-clause-turns g c = λ run between.
    let reader = g.S.Source.remaining c.fill.new.source in
    let writer = g.W.Sink.contents c.args.writer.now in
    let new = c.answer_held.new.self in
    let more = c.in-More.ensures.bytes in
    let old = c.args.self.now in
    let at : Progress = record { left = g.S.Source.remaining c.args.reader.now; held = old.held; text = old.draft; contents = writer; core = old.core; count = old.count } in
    let read = filled run at reader c.fill.new.self more.0 between.done more.1 more.2 in
    let ok = c.in-Some.ensures in
    let done = ok.done refl run reader read in
    let given = g.W.Sink.contents c.answer_held.new.writer in
    let answered : Progress = record { left = reader; held = new.held; text = new.draft; contents = given; core = new.core; count = new.count } in
    let near : length new.held ≤ piece = omega (arith, ok.fewer refl, c.fill.ensures.few) in
    let after = g.W.Sink.contents c.write_text.new.sink in
    let written = c.if-not-write_text.ensures.bytes in
    unwritten run answered after written.0 done near (subst (λ (l : List ℕ). Appends given after (take written.0 l)) c.bytes.ensures written.2)

pub returns-in-Part-clause-turns : goal.returns-in-Part-clause-turns
returns-in-Part-clause-turns g c = λ run between.
    let reader = g.S.Source.remaining c.fill.new.source in
    let writer = g.W.Sink.contents c.args.writer.now in
    let new = c.answer_held.new.self in
    let more = c.in-More.ensures.bytes in
    let old = c.args.self.now in
    let at : Progress = record { left = g.S.Source.remaining c.args.reader.now; held = old.held; text = old.draft; contents = writer; core = old.core; count = old.count } in
    let read = filled run at reader c.fill.new.self more.0 between.done more.1 more.2 in
    let ok = c.in-Some.ensures in
    let done = ok.done refl run reader read in
    let given = g.W.Sink.contents c.answer_held.new.writer in
    let answered : Progress = record { left = reader; held = new.held; text = new.draft; contents = given; core = new.core; count = new.count } in
    let near : length new.held ≤ piece = omega (arith, ok.fewer refl, c.fill.ensures.few) in
    let after = g.W.Sink.contents c.write_text.new.sink in
    let finished = wrote run answered after c.clear.new.self done (subst (Appends given after) c.bytes.ensures c.if-not-write_text.ensures.bytes) c.clear.ensures in
    let here : Progress = record { left = reader; held = new.held; text = c.clear.new.self; contents = after; core = new.core; count = new.count } in
    let stop = subst (λ (end : PieceEnd). IsPieceEnd end new.core new.held) c.in-Part.is ok.end in (
      record { done = finished; none = c.clear.ensures; part = stop.0; short = stop.1 },
      smaller run.limit old.core.taken new.core.taken old.held more.0 c.fill.new.self new.held more.2 more.3 (ok.rises refl) done.within (ok.same refl) stop.1 between.short,
    )

pub returns-in-Refused-clause-turns : goal.returns-in-Refused-clause-turns
returns-in-Refused-clause-turns g c = λ run between.
    let reader = g.S.Source.remaining c.fill.new.source in
    let writer = g.W.Sink.contents c.args.writer.now in
    let new = c.answer_held.new.self in
    let more = c.in-More.ensures.bytes in
    let old = c.args.self.now in
    let at : Progress = record { left = g.S.Source.remaining c.args.reader.now; held = old.held; text = old.draft; contents = writer; core = old.core; count = old.count } in
    let read = filled run at reader c.fill.new.self more.0 between.done more.1 more.2 in
    let ok = c.in-Some.ensures in
    let done = ok.done refl run reader read in
    let given = g.W.Sink.contents c.answer_held.new.writer in
    let answered : Progress = record { left = reader; held = new.held; text = new.draft; contents = given; core = new.core; count = new.count } in
    let near : length new.held ≤ piece = omega (arith, ok.fewer refl, c.fill.ensures.few) in
    let after = g.W.Sink.contents c.write_text.new.sink in
    let finished = wrote run answered after c.clear.new.self done (subst (Appends given after) c.bytes.ensures c.if-not-write_text.ensures.bytes) c.clear.ensures in
    let here : Progress = record { left = reader; held = new.held; text = c.clear.new.self; contents = after; core = new.core; count = new.count } in
    let stop = subst (λ (end : PieceEnd). IsPieceEnd end new.core new.held) c.in-Refused.is ok.end in
    subst (λ (e : StopError). Runs (Err e) run.calls run.workers run.limit run.input reader run.contents after) (sym c.refused_line.ensures) (refused run here (new.core.taken + 1) finished c.clear.ensures near stop refl)

pub returns-in-Full-clause-turns : goal.returns-in-Full-clause-turns
returns-in-Full-clause-turns g c = λ run between.
    let reader = g.S.Source.remaining c.fill.new.source in
    let writer = g.W.Sink.contents c.args.writer.now in
    let new = c.answer_held.new.self in
    let more = c.in-More.ensures.bytes in
    let old = c.args.self.now in
    let at : Progress = record { left = g.S.Source.remaining c.args.reader.now; held = old.held; text = old.draft; contents = writer; core = old.core; count = old.count } in
    let read = filled run at reader c.fill.new.self more.0 between.done more.1 more.2 in
    let ok = c.in-Some.ensures in
    let done = ok.done refl run reader read in
    let given = g.W.Sink.contents c.answer_held.new.writer in
    let answered : Progress = record { left = reader; held = new.held; text = new.draft; contents = given; core = new.core; count = new.count } in
    let near : length new.held ≤ piece = omega (arith, ok.fewer refl, c.fill.ensures.few) in
    let after = g.W.Sink.contents c.write_text.new.sink in
    let finished = wrote run answered after c.clear.new.self done (subst (Appends given after) c.bytes.ensures c.if-not-write_text.ensures.bytes) c.clear.ensures in
    let here : Progress = record { left = reader; held = new.held; text = c.clear.new.self; contents = after; core = new.core; count = new.count } in
    let stop = subst (λ (end : PieceEnd). IsPieceEnd end new.core new.held) c.in-Full.is ok.end in
    full run here finished c.clear.ensures near stop.0 stop.1

pub returns-in-Memory-clause-turns : goal.returns-in-Memory-clause-turns
returns-in-Memory-clause-turns g c = λ run between.
    let reader = g.S.Source.remaining c.fill.new.source in
    let writer = g.W.Sink.contents c.args.writer.now in
    let new = c.answer_held.new.self in
    let more = c.in-More.ensures.bytes in
    let old = c.args.self.now in
    let at : Progress = record { left = g.S.Source.remaining c.args.reader.now; held = old.held; text = old.draft; contents = writer; core = old.core; count = old.count } in
    let read = filled run at reader c.fill.new.self more.0 between.done more.1 more.2 in
    let ok = c.in-Some.ensures in
    let done = ok.done refl run reader read in
    let given = g.W.Sink.contents c.answer_held.new.writer in
    let answered : Progress = record { left = reader; held = new.held; text = new.draft; contents = given; core = new.core; count = new.count } in
    let near : length new.held ≤ piece = omega (arith, ok.fewer refl, c.fill.ensures.few) in
    let after = g.W.Sink.contents c.write_text.new.sink in
    let finished = wrote run answered after c.clear.new.self done (subst (Appends given after) c.bytes.ensures c.if-not-write_text.ensures.bytes) c.clear.ensures in
    let here : Progress = record { left = reader; held = new.held; text = c.clear.new.self; contents = after; core = new.core; count = new.count } in
    let stop = subst (λ (end : PieceEnd). IsPieceEnd end new.core new.held) c.in-Memory.is ok.end in
    out_of_memory run here finished c.clear.ensures near stop.0 stop.1

-- ---- what the tries of the reader count

pub returns-in-End-clause-read : goal.returns-in-End-clause-read
returns-in-End-clause-read g c =
    let source = c.args.reader.now in
    let after = c.fill.new.source in
    let core = c.args.self.now.core in
    reads_ended c.end.result (record { events = core.taken; lines = c.args.self.now.count }) c.fill.new.self (core.taken + 1) (g.S.Source.failed source) (g.S.Source.fruitless source) (g.S.Source.failed after) (g.S.Source.fruitless after)
    c.end.ensures (good_try _ _ _ _ c.in-End.ensures.counts)

pub returns-in-Fault-clause-read : goal.returns-in-Fault-clause-read
returns-in-Fault-clause-read g c = bad_try _ _ _ _ c.in-Fault.ensures.counts

pub returns-in_default-clause-read : goal.returns-in_default-clause-read
returns-in_default-clause-read g c = good_try _ _ _ _ c.in-More.ensures.counts

pub returns-then-not-write_text-clause-read : goal.returns-then-not-write_text-clause-read
returns-then-not-write_text-clause-read g c = good_try _ _ _ _ c.in-More.ensures.counts

pub returns-in-Part-clause-read : goal.returns-in-Part-clause-read
returns-in-Part-clause-read g c = good_try _ _ _ _ c.in-More.ensures.counts

pub returns-in-Refused-clause-read : goal.returns-in-Refused-clause-read
returns-in-Refused-clause-read g c =
    let source = c.args.reader.now in
    let after = c.fill.new.source in
    subst (λ (e : StopError). CountsReads {T = Turn} (Err e) (g.S.Source.failed source) (g.S.Source.fruitless source) (g.S.Source.failed after) (g.S.Source.fruitless after)) (sym c.refused_line.ensures) (good_try _ _ _ _ c.in-More.ensures.counts)

pub returns-in-Full-clause-read : goal.returns-in-Full-clause-read
returns-in-Full-clause-read g c = good_try _ _ _ _ c.in-More.ensures.counts

pub returns-in-Memory-clause-read : goal.returns-in-Memory-clause-read
returns-in-Memory-clause-read g c = good_try _ _ _ _ c.in-More.ensures.counts

-- ---- what the tries of the writer count

pub returns-in-End-clause-write : goal.returns-in-End-clause-write
returns-in-End-clause-write g c =
    let sink = c.args.writer.now in
    let core = c.args.self.now.core in
    writes_ended c.end.result (record { events = core.taken; lines = c.args.self.now.count }) c.fill.new.self (core.taken + 1) (g.W.Sink.failed sink) (g.W.Sink.fruitless sink) (g.W.Sink.failed sink) (g.W.Sink.fruitless sink)
    c.end.ensures (no_try (g.W.Sink.failed sink) (g.W.Sink.fruitless sink))

pub returns-in-Fault-clause-write : goal.returns-in-Fault-clause-write
returns-in-Fault-clause-write g c = no_try (g.W.Sink.failed c.args.writer.now) (g.W.Sink.fruitless c.args.writer.now)

pub returns-then-not-write_text-clause-write : goal.returns-then-not-write_text-clause-write
returns-then-not-write_text-clause-write g c = good_then_bad _ _ _ _ _ _ c.in-Some.ensures.write c.if-not-write_text.ensures.counts

pub returns-in-Part-clause-write : goal.returns-in-Part-clause-write
returns-in-Part-clause-write g c = good_then_good _ _ _ _ _ _ c.in-Some.ensures.write c.if-not-write_text.ensures.counts

pub returns-in-Refused-clause-write : goal.returns-in-Refused-clause-write
returns-in-Refused-clause-write g c =
    let sink = c.args.writer.now in
    let after = c.write_text.new.sink in
    subst (λ (e : StopError). CountsWrites {T = Turn} (Err e) (g.W.Sink.failed sink) (g.W.Sink.fruitless sink) (g.W.Sink.failed after) (g.W.Sink.fruitless after)) (sym c.refused_line.ensures)
    (good_then_good _ _ _ _ _ _ c.in-Some.ensures.write c.if-not-write_text.ensures.counts)

pub returns-in-Full-clause-write : goal.returns-in-Full-clause-write
returns-in-Full-clause-write g c = good_then_good _ _ _ _ _ _ c.in-Some.ensures.write c.if-not-write_text.ensures.counts

pub returns-in-Memory-clause-write : goal.returns-in-Memory-clause-write
returns-in-Memory-clause-write g c = good_then_good _ _ _ _ _ _ c.in-Some.ensures.write c.if-not-write_text.ensures.counts
