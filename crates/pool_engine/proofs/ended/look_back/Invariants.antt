use Rattle.std.proofs.Common.{◌≡◌, ◌≤◌, take}
use Rattle.std.specs.Prelude.{All}
use Rattle.trace_check.specs.Laws.{FitsHappening}
use Rattle.pool_engine.specs.PoolRuns.{IsByPool, clocks_of, event_count}
use Rattle.pool_engine.specs.own.Ended.{AllSoFar, ShowsSoFar}
use Rattle.pool_engine.proofs.ended.look_back.Given as goal

-- the events so far are counted, what they hand in fits, and it is known whether they are by the workers, and whether the clocks so far show the first moments
abbrev pub invariant-loop-kept : goal.invariant-loop-kept
invariant-loop-kept l = record {
  counted : l.events ≡ event_count (take l.kept-index l.happened);
  few : l.events ≤ l.kept-index;
  fit : All FitsHappening (take l.kept-index l.happened);
  by : AllSoFar (IsByPool l.workers) l.by_pool (take l.kept-index l.happened) l.happened;
  shown : ShowsSoFar l.shows (clocks_of (take l.kept-index l.happened)) l.left l.moments;
}
