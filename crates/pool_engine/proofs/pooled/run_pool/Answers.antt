use Rattle.std.proofs.Common.{◌≡◌, Result, Ok, Err, subst, arith, rules}
use Rattle.queue_code.specs.Codes.{calls_of}
use Rattle.executor_model.specs.Counts.{IsWorkerCount}
use Rattle.sched_engine.specs.Running.{CountsWriter}
use Rattle.sched_engine.specs.declared.report.Report.{Report}
use Rattle.sched_engine.specs.declared.report.RunError.{RunError}
use Rattle.sched_engine.specs.declared.report.RunError.TheVariants.{Memory}
use Rattle.pool_engine.specs.declared.stops.PoolStop.TheVariants as p
use Rattle.sched_engine.specs.Stages.{told_of_code}
use Rattle.pool_engine.specs.ClockLines.{told_of_reading}
use Rattle.byte_ends.proofs.Tries.{no_try}
use Rattle.pool_engine.specs.PoolRuns.{PoolRan, told_of_pool_stop}
use Rattle.pool_engine.proofs.Whole.{accepted, ends_unwritten, kept, refused_text, runs_all, stopped, unwritten}
use Rattle.pool_engine.proofs.pooled.run_pool.Goals as goal

pub returns-in_err-moments-clause-ran : goal.returns-in_err-moments-clause-ran
returns-in_err-moments-clause-ran g c =
    let input = g.S.Source.remaining c.args.reader.now in
    let left = g.S.Source.remaining c.read_clocks.new.reader in
    let contents = g.W.Sink.contents c.args.writer.now in
    let counted : IsWorkerCount c.args.workers = (omega (arith, c.if-workers-eq0.false), omega (arith, c.if-workers-gt-MOST_WORKERS.false)) in
    let e = c.in_err-moments.field-0.0 in
    let fault : Result Report RunError = Err (told_of_reading e) in
    let told : fault ≡ c.from_residual-in_err-moments.result = search rules in
    subst (λ (r : Result Report RunError). PoolRan r c.args.plan_text.now c.args.workers c.args.limit input left contents contents) told
    (ends_unwritten e c.args.plan_text.now (calls_of c.in_ok-code.code) c.args.workers c.args.limit input left contents
    (accepted _ _ _ _ c.in_ok-code.ensures.code counted (omega (arith, c.if-limit-eq0.false))) c.in_err-moments.ensures.ends)

pub returns-in_err-moments-clause-write : goal.returns-in_err-moments-clause-write
returns-in_err-moments-clause-write g c =
    let sink = c.args.writer.now in
    let e = c.in_err-moments.field-0.0 in
    let fault : Result Report RunError = Err (told_of_reading e) in
    let told : fault ≡ c.from_residual-in_err-moments.result = search rules in
    subst (λ (r : Result Report RunError). CountsWriter r (g.W.Sink.failed sink) (g.W.Sink.fruitless sink) (g.W.Sink.failed sink) (g.W.Sink.fruitless sink)) told
    (unwritten e (g.W.Sink.failed sink) (g.W.Sink.fruitless sink))

pub returns-in_err-draft-clause-ran : goal.returns-in_err-draft-clause-ran
returns-in_err-draft-clause-ran g c =
    let input = g.S.Source.remaining c.args.reader.now in
    let left = g.S.Source.remaining c.read_clocks.new.reader in
    let contents = g.W.Sink.contents c.args.writer.now in
    let counted : IsWorkerCount c.args.workers = (omega (arith, c.if-workers-eq0.false), omega (arith, c.if-workers-gt-MOST_WORKERS.false)) in
    let fault : Result Report RunError = Err Memory in
    let told : fault ≡ c.from_residual-in_err-draft.result = search rules in
    subst (λ (r : Result Report RunError). PoolRan r c.args.plan_text.now c.args.workers c.args.limit input left contents contents) told
    (stopped p.Memory _ _ _ _ _ _ _ (runs_all (Err p.Memory) c.args.plan_text.now (calls_of c.in_ok-code.code) c.args.workers c.args.limit input left contents contents c.in_ok-moments.moments.items
    (accepted _ _ _ _ c.in_ok-code.ensures.code counted (omega (arith, c.if-limit-eq0.false))) c.in_ok-moments.ensures.all (kept contents)))

pub returns-in_err-draft-clause-write : goal.returns-in_err-draft-clause-write
returns-in_err-draft-clause-write g c =
    let sink = c.args.writer.now in
    let fault : Result Report RunError = Err Memory in
    let told : fault ≡ c.from_residual-in_err-draft.result = search rules in
    subst (λ (r : Result Report RunError). CountsWriter r (g.W.Sink.failed sink) (g.W.Sink.fruitless sink) (g.W.Sink.failed sink) (g.W.Sink.fruitless sink)) told (no_try (g.W.Sink.failed sink) (g.W.Sink.fruitless sink))

pub returns-in_default-clause-ran : goal.returns-in_default-clause-ran
returns-in_default-clause-ran g c =
    let contents = g.W.Sink.contents c.args.writer.now in
    let counted : IsWorkerCount c.args.workers = (omega (arith, c.if-workers-eq0.false), omega (arith, c.if-workers-gt-MOST_WORKERS.false)) in
    stopped p.Memory _ _ _ _ _ _ _ (runs_all (Err p.Memory) c.args.plan_text.now (calls_of c.in_ok-code.code) c.args.workers c.args.limit _ _ contents contents c.in_ok-moments.moments.items
    (accepted _ _ _ _ c.in_ok-code.ensures.code counted (omega (arith, c.if-limit-eq0.false))) c.in_ok-moments.ensures.all (kept contents))

pub returns-clause-ran : goal.returns-clause-ran
returns-clause-ran g c =
    let counted : IsWorkerCount c.args.workers = (omega (arith, c.if-workers-eq0.false), omega (arith, c.if-workers-gt-MOST_WORKERS.false)) in
    runs_all (Ok c.in_ok-report.report) c.args.plan_text.now (calls_of c.in_ok-code.code) c.args.workers c.args.limit _ _ _ _ c.in_ok-moments.moments.items
    (accepted _ _ _ _ c.in_ok-code.ensures.code counted (omega (arith, c.if-limit-eq0.false))) c.in_ok-moments.ensures.all (rw c.deref.ensures.value at c.in_ok-report.ensures.wrote)

pub returns-in_err-code-clause-ran : goal.returns-in_err-code-clause-ran
returns-in_err-code-clause-ran g c =
    let input = g.S.Source.remaining c.args.reader.now in
    let contents = g.W.Sink.contents c.args.writer.now in
    let e = c.in_err-code.field-0.0 in
    let fault : Result Report RunError = Err (told_of_code e) in
    let told : fault ≡ c.from_residual.result = search rules in
    subst (λ (r : Result Report RunError). PoolRan r c.args.plan_text.now c.args.workers c.args.limit input input contents contents) told
    (refused_text e c.args.plan_text.now c.args.workers c.args.limit input contents c.in_err-code.ensures.refuses)

pub returns-in_err-report-clause-ran : goal.returns-in_err-report-clause-ran
returns-in_err-report-clause-ran g c =
    let input = g.S.Source.remaining c.args.reader.now in
    let left = g.S.Source.remaining c.read_clocks.new.reader in
    let before = g.W.Sink.contents c.args.writer.now in
    let after = g.W.Sink.contents c.run_named.new.writer in
    let counted : IsWorkerCount c.args.workers = (omega (arith, c.if-workers-eq0.false), omega (arith, c.if-workers-gt-MOST_WORKERS.false)) in
    let e = c.in_err-report.field-0.0 in
    let fault : Result Report RunError = Err (told_of_pool_stop e) in
    let told : fault ≡ c.from_residual-in_err-report.result = search rules in
    subst (λ (r : Result Report RunError). PoolRan r c.args.plan_text.now c.args.workers c.args.limit input left before after) told
    (stopped e _ _ _ _ _ _ _ (runs_all (Err e) c.args.plan_text.now (calls_of c.in_ok-code.code) c.args.workers c.args.limit input left before after c.in_ok-moments.moments.items
    (accepted _ _ _ _ c.in_ok-code.ensures.code counted (omega (arith, c.if-limit-eq0.false))) c.in_ok-moments.ensures.all (rw c.deref.ensures.value at c.in_err-report.ensures.wrote)))
