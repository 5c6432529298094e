-- What holds of each run by a pool.
-- All of it is this project's rule.
use Rattle.std.specs.Prelude.{ℕ, List, ◌⊎◌}
use Rattle.queue_code.specs.Calls.{Planned, IsPlanned}
use Rattle.executor_model.specs.Counts.{IsWorkerCount}
use Rattle.executor_model.specs.Histories.{HistoryEntry}
use Rattle.trace_check.specs.Findings.{Conforms}
use Rattle.sched_engine.specs.Running.{text_of}
use Rattle.pool_engine.specs.PoolRuns.{RunsToLimit, RunsToRest}

-- what a run by a pool wrote conforms, where it ended well or with as many events as the limit allows
abbrev pub PoolRunsConform : Type 0
PoolRunsConform = (calls : List Planned) (workers limit : ℕ) (moments : List ℕ) (past : List HistoryEntry) → IsPlanned calls → IsWorkerCount workers
    → RunsToRest calls workers limit moments past ⊎ RunsToLimit calls workers limit moments past → Conforms calls workers (text_of calls past)
