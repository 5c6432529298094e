use Rattle.std.proofs.Common.{◌≡◌, Result, Ok, Err, subst, rules}
use Rattle.sched_engine.specs.Running.{CountsReader, CountsWriter, Ran}
use Rattle.sched_engine.specs.declared.engine.Turn.{Turn}
use Rattle.sched_engine.specs.declared.report.Report.{Report}
use Rattle.sched_engine.specs.declared.report.RunError.{RunError}
use Rattle.sched_engine.specs.Stages.{told_of_opening, told_of_stop}
use Rattle.sched_engine.specs.own.Turns.{Progress, Setting, Turns}
use Rattle.sched_engine.proofs.Turns.{first, ran_to_a_stop}
use Rattle.byte_ends.proofs.Tries.{good_then_good, no_try}
use Rattle.sched_engine.proofs.Tries.{reads_refused, reads_then, writes_refused, writes_then}
use Rattle.sched_engine.proofs.engine.run.Goals as goal

pub loop-engine-init : goal.loop-engine-init
loop-engine-init g c =
    let engine = c.in_ok-engine.engine in
    let opens = c.in_ok-engine.ensures in
    let at : Progress = record { left = g.S.Source.remaining c.args.reader.now; held = engine.held; text = engine.draft; contents = g.W.Sink.contents c.args.writer.now; core = engine.core; count = engine.count } in
    record { between = first at c.args.plan_text.now c.args.workers c.args.limit opens.opens opens.held opens.text opens.count; reads = no_try (g.S.Source.failed c.args.reader.now) (g.S.Source.fruitless c.args.reader.now); writes = no_try (g.W.Sink.failed c.args.writer.now) (g.W.Sink.fruitless c.args.writer.now) }

pub returns-in_err-report-clause-ran : goal.returns-in_err-report-clause-ran
returns-in_err-report-clause-ran g c =
    let run : Setting = record { calls = c.in_ok-engine.engine.core.calls; workers = c.args.workers; limit = c.args.limit; input = g.S.Source.remaining c.args.reader.now; contents = g.W.Sink.contents c.args.writer.now } in
    let left = g.S.Source.remaining c.turn.new.reader in
    let contents = g.W.Sink.contents c.turn.new.writer in
    let e = c.in_err-report.field-0.0 in
    let fault : Result Report RunError = Err (told_of_stop e) in
    let told : fault ≡ c.from_residual-in_err-report.result = search rules in
    subst (λ (r : Result Report RunError). Ran r c.args.plan_text.now c.args.workers c.args.limit run.input left run.contents contents) told
    (ran_to_a_stop run e c.args.plan_text.now left contents c.in_ok-engine.ensures.opens.accepted (c.in_err-report.ensures.turns run c.loop-engine.invariant.between))

pub returns-in-Ended-clause-ran : goal.returns-in-Ended-clause-ran
returns-in-Ended-clause-ran g c =
    let run : Setting = record { calls = c.in_ok-engine.engine.core.calls; workers = c.args.workers; limit = c.args.limit; input = g.S.Source.remaining c.args.reader.now; contents = g.W.Sink.contents c.args.writer.now } in
    let engine = c.loop-engine.engine in
    let at : Progress = record { left = g.S.Source.remaining c.loop-engine.reader; held = engine.held; text = engine.draft; contents = g.W.Sink.contents c.loop-engine.writer; core = engine.core; count = engine.count } in
    let new = c.turn.new.self in
    let next : Progress = record { left = g.S.Source.remaining c.turn.new.reader; held = new.held; text = new.draft; contents = g.W.Sink.contents c.turn.new.writer; core = new.core; count = new.count } in
    let runs = subst (λ (turn : Turn). Turns (Ok turn) run at next) c.in-Ended.is (c.in_ok-report.ensures.turns run c.loop-engine.invariant.between) in
    (run.calls, c.in_ok-engine.ensures.opens.accepted, runs)

pub loop-engine-smaller : goal.loop-engine-smaller
loop-engine-smaller g c =
    let run : Setting = record { calls = c.in_ok-engine.engine.core.calls; workers = c.args.workers; limit = c.args.limit; input = g.S.Source.remaining c.args.reader.now; contents = g.W.Sink.contents c.args.writer.now } in
    let engine = c.loop-engine.engine in
    let at : Progress = record { left = g.S.Source.remaining c.loop-engine.reader; held = engine.held; text = engine.draft; contents = g.W.Sink.contents c.loop-engine.writer; core = engine.core; count = engine.count } in
    let new = c.turn.new.self in
    let next : Progress = record { left = g.S.Source.remaining c.turn.new.reader; held = new.held; text = new.draft; contents = g.W.Sink.contents c.turn.new.writer; core = new.core; count = new.count } in
    (subst (λ (turn : Turn). Turns (Ok turn) run at next) c.in_default.is (c.in_ok-report.ensures.turns run c.loop-engine.invariant.between)).1

pub loop-engine-preserved : goal.loop-engine-preserved
loop-engine-preserved g c =
    let run : Setting = record { calls = c.in_ok-engine.engine.core.calls; workers = c.args.workers; limit = c.args.limit; input = g.S.Source.remaining c.args.reader.now; contents = g.W.Sink.contents c.args.writer.now } in
    let engine = c.loop-engine.engine in
    let at : Progress = record { left = g.S.Source.remaining c.loop-engine.reader; held = engine.held; text = engine.draft; contents = g.W.Sink.contents c.loop-engine.writer; core = engine.core; count = engine.count } in
    let new = c.turn.new.self in
    let next : Progress = record { left = g.S.Source.remaining c.turn.new.reader; held = new.held; text = new.draft; contents = g.W.Sink.contents c.turn.new.writer; core = new.core; count = new.count } in
    let kept = c.loop-engine.invariant in
    record {
      between = (subst (λ (turn : Turn). Turns (Ok turn) run at next) c.in_default.is (c.in_ok-report.ensures.turns run kept.between)).0;
      reads = good_then_good _ _ _ _ _ _ kept.reads c.in_ok-report.ensures.read;
      writes = good_then_good _ _ _ _ _ _ kept.writes c.in_ok-report.ensures.write;
    }

-- ---- what the tries count

pub returns-in_err-engine-clause-read : goal.returns-in_err-engine-clause-read
returns-in_err-engine-clause-read g c =
    let source = c.args.reader.now in
    let failed = g.S.Source.failed source in
    let fruitless = g.S.Source.fruitless source in
    let e = c.in_err-engine.field-0.0 in
    let fault : Result Report RunError = Err (told_of_opening e) in
    let told : fault ≡ c.from_residual.result = search rules in
    subst (λ (r : Result Report RunError). CountsReader r failed fruitless failed fruitless) told (reads_refused e failed fruitless)

pub returns-in_err-engine-clause-write : goal.returns-in_err-engine-clause-write
returns-in_err-engine-clause-write g c =
    let sink = c.args.writer.now in
    let failed = g.W.Sink.failed sink in
    let fruitless = g.W.Sink.fruitless sink in
    let e = c.in_err-engine.field-0.0 in
    let fault : Result Report RunError = Err (told_of_opening e) in
    let told : fault ≡ c.from_residual.result = search rules in
    subst (λ (r : Result Report RunError). CountsWriter r failed fruitless failed fruitless) told (writes_refused e failed fruitless)

pub returns-in_err-report-clause-read : goal.returns-in_err-report-clause-read
returns-in_err-report-clause-read g c =
    let run : Setting = record { calls = c.in_ok-engine.engine.core.calls; workers = c.args.workers; limit = c.args.limit; input = g.S.Source.remaining c.args.reader.now; contents = g.W.Sink.contents c.args.writer.now } in
    let left = g.S.Source.remaining c.turn.new.reader in
    let contents = g.W.Sink.contents c.turn.new.writer in
    let e = c.in_err-report.field-0.0 in
    let fault : Result Report RunError = Err (told_of_stop e) in
    let told : fault ≡ c.from_residual-in_err-report.result = search rules in
    let first = c.args.reader.now in
    let here = c.loop-engine.reader in
    let after = c.turn.new.reader in
    subst (λ (r : Result Report RunError). CountsReader r (g.S.Source.failed first) (g.S.Source.fruitless first) (g.S.Source.failed after) (g.S.Source.fruitless after)) told
    (reads_then Turn Report e (g.S.Source.failed first) (g.S.Source.fruitless first) (g.S.Source.failed here) (g.S.Source.fruitless here) (g.S.Source.failed after) (g.S.Source.fruitless after) c.loop-engine.invariant.reads c.in_err-report.ensures.read)

pub returns-in_err-report-clause-write : goal.returns-in_err-report-clause-write
returns-in_err-report-clause-write g c =
    let run : Setting = record { calls = c.in_ok-engine.engine.core.calls; workers = c.args.workers; limit = c.args.limit; input = g.S.Source.remaining c.args.reader.now; contents = g.W.Sink.contents c.args.writer.now } in
    let left = g.S.Source.remaining c.turn.new.reader in
    let contents = g.W.Sink.contents c.turn.new.writer in
    let e = c.in_err-report.field-0.0 in
    let fault : Result Report RunError = Err (told_of_stop e) in
    let told : fault ≡ c.from_residual-in_err-report.result = search rules in
    let first = c.args.writer.now in
    let here = c.loop-engine.writer in
    let after = c.turn.new.writer in
    subst (λ (r : Result Report RunError). CountsWriter r (g.W.Sink.failed first) (g.W.Sink.fruitless first) (g.W.Sink.failed after) (g.W.Sink.fruitless after)) told
    (writes_then Turn Report e (g.W.Sink.failed first) (g.W.Sink.fruitless first) (g.W.Sink.failed here) (g.W.Sink.fruitless here) (g.W.Sink.failed after) (g.W.Sink.fruitless after) c.loop-engine.invariant.writes c.in_err-report.ensures.write)

pub returns-in-Ended-clause-read : goal.returns-in-Ended-clause-read
returns-in-Ended-clause-read g c = good_then_good _ _ _ _ _ _ c.loop-engine.invariant.reads c.in_ok-report.ensures.read

pub returns-in-Ended-clause-write : goal.returns-in-Ended-clause-write
returns-in-Ended-clause-write g c = good_then_good _ _ _ _ _ _ c.loop-engine.invariant.writes c.in_ok-report.ensures.write
