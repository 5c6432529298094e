use Rattle.std.proofs.Common.{◌≡◌, Result, Ok, Err, sym, subst, arith, rules}
use Rattle.sched_engine.specs.Running.{CountsReader, CountsWriter}
use Rattle.sched_engine.specs.declared.report.RunError.{RunError}
use Rattle.byte_ends.proofs.Tries.{good_then_good, no_try}
use Rattle.live_engine.specs.declared.counts.Counts.{Counts}
use Rattle.live_engine.specs.declared.engine.Turn.{Turn}
use Rattle.live_engine.specs.declared.report.LiveReport.{LiveReport}
use Rattle.live_engine.specs.LiveRuns.{LiveEnds, Ran, told_of_opening}
use Rattle.sched_engine.specs.Stages.{told_of_stop}
use Rattle.live_engine.specs.own.LiveTurns.{AreCounted, Progress, Setting, Turns}
use Rattle.live_engine.proofs.Counting.{reads_refused, refused_to_run, writes_refused}
use Rattle.sched_engine.proofs.Tries.{reads_then, writes_then}
use Rattle.live_engine.proofs.Ending.{first, ran_to_a_stop}
use Rattle.live_engine.proofs.engine.run.Goals as goal

pub loop-engine-init : goal.loop-engine-init
loop-engine-init g c =
    let engine = c.in_ok-engine.engine in
    let opens = c.in_ok-engine.ensures in
    let at : Progress = record { ends = record { left = g.S.Source.remaining c.args.reader.now; contents = g.W.Sink.contents c.args.writer.now; journal = c.args.journal.now }; held = engine.held; text = engine.draft; counts = engine.counts } in
    record {
      between = first c.args.workers at engine.executor opens.opens opens.held opens.text opens.counts;
      few = omega (arith, opens.opens.numbers);
      counted = subst (λ (n : Counts). AreCounted n) (sym opens.counts) (omega arith, omega arith);
      reads = no_try (g.S.Source.failed c.args.reader.now) (g.S.Source.fruitless c.args.reader.now);
      writes = no_try (g.W.Sink.failed c.args.writer.now) (g.W.Sink.fruitless c.args.writer.now);
    }

pub returns-in_err-engine-clause-ran : goal.returns-in_err-engine-clause-ran
returns-in_err-engine-clause-ran g c =
    let ends : LiveEnds = record { left = g.S.Source.remaining c.args.reader.now; contents = g.W.Sink.contents c.args.writer.now; journal = c.args.journal.now } in
    let e = c.in_err-engine.field-0.0 in
    let fault : Result LiveReport RunError = Err (told_of_opening e) in
    let told : fault ≡ c.from_residual.result = search rules in
    subst (λ (r : Result LiveReport RunError). Ran r c.args.workers ends ends) told (refused_to_run e c.args.workers ends c.in_err-engine.ensures.refuses)

pub returns-in_err-report-clause-ran : goal.returns-in_err-report-clause-ran
returns-in_err-report-clause-ran g c =
    let run : Setting = record { workers = c.args.workers; first = record { left = g.S.Source.remaining c.args.reader.now; contents = g.W.Sink.contents c.args.writer.now; journal = c.args.journal.now } } in
    let new = c.turn.new.self in
    let after : LiveEnds = record { left = g.S.Source.remaining c.turn.new.reader; contents = g.W.Sink.contents c.turn.new.writer; journal = c.turn.new.journal } in
    let e = c.in_err-report.field-0.0 in
    let fault : Result LiveReport RunError = Err (told_of_stop e) in
    let told : fault ≡ c.from_residual-in_err-report.result = search rules in
    subst (λ (r : Result LiveReport RunError). Ran r c.args.workers run.first after) told
    (ran_to_a_stop c.args.workers e run.first after c.in_ok-engine.ensures.opens.counted (c.in_err-report.ensures.turns run c.loop-engine.invariant.between))

pub returns-in-Ended-clause-ran : goal.returns-in-Ended-clause-ran
returns-in-Ended-clause-ran g c =
    let run : Setting = record { workers = c.args.workers; first = record { left = g.S.Source.remaining c.args.reader.now; contents = g.W.Sink.contents c.args.writer.now; journal = c.args.journal.now } } in
    let new = c.turn.new.self in
    let after : LiveEnds = record { left = g.S.Source.remaining c.turn.new.reader; contents = g.W.Sink.contents c.turn.new.writer; journal = c.turn.new.journal } in
    let engine = c.loop-engine.engine in
    let at : Progress = record { ends = record { left = g.S.Source.remaining c.loop-engine.reader; contents = g.W.Sink.contents c.loop-engine.writer; journal = c.loop-engine.journal }; held = engine.held; text = engine.draft; counts = engine.counts } in
    let next : Progress = record { ends = after; held = new.held; text = new.draft; counts = new.counts } in
    let runs = subst (λ (turn : Turn). Turns (Ok turn) run at next new.executor) c.in-Ended.is (c.in_ok-report.ensures.turns run c.loop-engine.invariant.between) in
    (c.in_ok-engine.ensures.opens.counted, runs)

pub loop-engine-smaller : goal.loop-engine-smaller
loop-engine-smaller g c =
    let run : Setting = record { workers = c.args.workers; first = record { left = g.S.Source.remaining c.args.reader.now; contents = g.W.Sink.contents c.args.writer.now; journal = c.args.journal.now } } in
    let new = c.turn.new.self in
    let after : LiveEnds = record { left = g.S.Source.remaining c.turn.new.reader; contents = g.W.Sink.contents c.turn.new.writer; journal = c.turn.new.journal } in
    let engine = c.loop-engine.engine in
    let at : Progress = record { ends = record { left = g.S.Source.remaining c.loop-engine.reader; contents = g.W.Sink.contents c.loop-engine.writer; journal = c.loop-engine.journal }; held = engine.held; text = engine.draft; counts = engine.counts } in
    let next : Progress = record { ends = after; held = new.held; text = new.draft; counts = new.counts } in
    (subst (λ (turn : Turn). Turns (Ok turn) run at next new.executor) c.in_default.is (c.in_ok-report.ensures.turns run c.loop-engine.invariant.between)).1

pub loop-engine-preserved : goal.loop-engine-preserved
loop-engine-preserved g c =
    let run : Setting = record { workers = c.args.workers; first = record { left = g.S.Source.remaining c.args.reader.now; contents = g.W.Sink.contents c.args.writer.now; journal = c.args.journal.now } } in
    let new = c.turn.new.self in
    let after : LiveEnds = record { left = g.S.Source.remaining c.turn.new.reader; contents = g.W.Sink.contents c.turn.new.writer; journal = c.turn.new.journal } in
    let engine = c.loop-engine.engine in
    let at : Progress = record { ends = record { left = g.S.Source.remaining c.loop-engine.reader; contents = g.W.Sink.contents c.loop-engine.writer; journal = c.loop-engine.journal }; held = engine.held; text = engine.draft; counts = engine.counts } in
    let next : Progress = record { ends = after; held = new.held; text = new.draft; counts = new.counts } in
    let kept = c.loop-engine.invariant in
    record {
      between = (subst (λ (turn : Turn). Turns (Ok turn) run at next new.executor) c.in_default.is (c.in_ok-report.ensures.turns run kept.between)).0;
      few = c.turn.ensures.few;
      counted = c.in_ok-report.ensures.counted;
      reads = good_then_good _ _ _ _ _ _ kept.reads c.in_ok-report.ensures.read;
      writes = good_then_good _ _ _ _ _ _ kept.writes c.in_ok-report.ensures.write;
    }

-- ---- what the tries count

pub returns-in_err-engine-clause-read : goal.returns-in_err-engine-clause-read
returns-in_err-engine-clause-read g c =
    let source = c.args.reader.now in
    let failed = g.S.Source.failed source in
    let fruitless = g.S.Source.fruitless source in
    let e = c.in_err-engine.field-0.0 in
    let fault : Result LiveReport RunError = Err (told_of_opening e) in
    let told : fault ≡ c.from_residual.result = search rules in
    subst (λ (r : Result LiveReport RunError). CountsReader r failed fruitless failed fruitless) told (reads_refused e failed fruitless)

pub returns-in_err-engine-clause-write : goal.returns-in_err-engine-clause-write
returns-in_err-engine-clause-write g c =
    let sink = c.args.writer.now in
    let failed = g.W.Sink.failed sink in
    let fruitless = g.W.Sink.fruitless sink in
    let e = c.in_err-engine.field-0.0 in
    let fault : Result LiveReport RunError = Err (told_of_opening e) in
    let told : fault ≡ c.from_residual.result = search rules in
    subst (λ (r : Result LiveReport RunError). CountsWriter r failed fruitless failed fruitless) told (writes_refused e failed fruitless)

pub returns-in_err-report-clause-read : goal.returns-in_err-report-clause-read
returns-in_err-report-clause-read g c =
    let run : Setting = record { workers = c.args.workers; first = record { left = g.S.Source.remaining c.args.reader.now; contents = g.W.Sink.contents c.args.writer.now; journal = c.args.journal.now } } in
    let new = c.turn.new.self in
    let after : LiveEnds = record { left = g.S.Source.remaining c.turn.new.reader; contents = g.W.Sink.contents c.turn.new.writer; journal = c.turn.new.journal } in
    let e = c.in_err-report.field-0.0 in
    let fault : Result LiveReport RunError = Err (told_of_stop e) in
    let told : fault ≡ c.from_residual-in_err-report.result = search rules in
    let begun = c.args.reader.now in
    let here = c.loop-engine.reader in
    let there = c.turn.new.reader in
    subst (λ (r : Result LiveReport RunError). CountsReader r (g.S.Source.failed begun) (g.S.Source.fruitless begun) (g.S.Source.failed there) (g.S.Source.fruitless there)) told
    (reads_then Turn LiveReport e (g.S.Source.failed begun) (g.S.Source.fruitless begun) (g.S.Source.failed here) (g.S.Source.fruitless here) (g.S.Source.failed there) (g.S.Source.fruitless there) c.loop-engine.invariant.reads c.in_err-report.ensures.read)

pub returns-in_err-report-clause-write : goal.returns-in_err-report-clause-write
returns-in_err-report-clause-write g c =
    let run : Setting = record { workers = c.args.workers; first = record { left = g.S.Source.remaining c.args.reader.now; contents = g.W.Sink.contents c.args.writer.now; journal = c.args.journal.now } } in
    let new = c.turn.new.self in
    let after : LiveEnds = record { left = g.S.Source.remaining c.turn.new.reader; contents = g.W.Sink.contents c.turn.new.writer; journal = c.turn.new.journal } in
    let e = c.in_err-report.field-0.0 in
    let fault : Result LiveReport RunError = Err (told_of_stop e) in
    let told : fault ≡ c.from_residual-in_err-report.result = search rules in
    let begun = c.args.writer.now in
    let here = c.loop-engine.writer in
    let there = c.turn.new.writer in
    subst (λ (r : Result LiveReport RunError). CountsWriter r (g.W.Sink.failed begun) (g.W.Sink.fruitless begun) (g.W.Sink.failed there) (g.W.Sink.fruitless there)) told
    (writes_then Turn LiveReport e (g.W.Sink.failed begun) (g.W.Sink.fruitless begun) (g.W.Sink.failed here) (g.W.Sink.fruitless here) (g.W.Sink.failed there) (g.W.Sink.fruitless there) c.loop-engine.invariant.writes c.in_err-report.ensures.write)

pub returns-in-Ended-clause-read : goal.returns-in-Ended-clause-read
returns-in-Ended-clause-read g c = good_then_good _ _ _ _ _ _ c.loop-engine.invariant.reads c.in_ok-report.ensures.read

pub returns-in-Ended-clause-write : goal.returns-in-Ended-clause-write
returns-in-Ended-clause-write g c = good_then_good _ _ _ _ _ _ c.loop-engine.invariant.writes c.in_ok-report.ensures.write
