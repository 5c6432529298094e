use Rattle.std.proofs.Common.{Err, subst, sym}
use Rattle.pool_engine.specs.declared.stops.PoolStop.{PoolStop}
use Rattle.pool_engine.specs.own.Ended.{StopLeaves}
use Rattle.pool_engine.proofs.Whole.{kept, leaves_last}
use Rattle.pool_engine.proofs.pooled.run_named.Goals as goal

pub returns-in-Err-Memory-clause-wrote : goal.returns-in-Err-Memory-clause-wrote
returns-in-Err-Memory-clause-wrote g c = kept (g.W.Sink.contents c.args.writer.now)

pub returns-in-Ok-ran-clause-uncalled : goal.returns-in-Ok-ran-clause-uncalled
returns-in-Ok-ran-clause-uncalled g c =
    let sink = c.args.writer.now in
    let after = c.write_rested.new.writer in
    subst (λ (stop : PoolStop). StopLeaves (Err stop) (g.W.Sink.failed sink) (g.W.Sink.fruitless sink) (g.W.Sink.failed after) (g.W.Sink.fruitless after)) (sym c.stop.ensures)
    (leaves_last c.in-Err-write_rested.error _ _ _ _ c.in-Err-write_rested.ensures.uncalled)

pub returns-in-Err-Full-clause-uncalled : goal.returns-in-Err-Full-clause-uncalled
returns-in-Err-Full-clause-uncalled g c =
    let sink = c.args.writer.now in
    let after = c.write_full.new.writer in
    subst (λ (stop : PoolStop). StopLeaves (Err stop) (g.W.Sink.failed sink) (g.W.Sink.fruitless sink) (g.W.Sink.failed after) (g.W.Sink.fruitless after)) (sym c.stop-in-Err-write_full.ensures)
    (leaves_last c.in-Err-write_full.error _ _ _ _ c.in-Err-write_full.ensures.uncalled)
