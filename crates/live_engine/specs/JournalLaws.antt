-- JournalLaws: what holds of the calls that a run notes.
-- All of it is this project's rule.
use Rattle.std.specs.Prelude.{◌≡◌, ℕ, [], Result}
use Rattle.sched_engine.specs.declared.report.RunError.{RunError}
use Rattle.call_journal.specs.MadeCalls.{MayBePlanned}
use Rattle.live_engine.specs.declared.report.LiveReport.{LiveReport}
use Rattle.live_engine.specs.LiveRuns.{LiveEnds, Ran}

-- a plan may make the calls that a run noted in an empty journal, also where the run ended at a fault
abbrev pub NotedMayBePlanned : Type 0
NotedMayBePlanned =
    (result : Result LiveReport RunError) (workers : ℕ) (old new : LiveEnds) → Ran result workers old new → old.journal.calls ≡ [] → MayBePlanned new.journal.calls
