-- What a run by a pool reads and writes.
-- All of it is this project's rule.
use Rattle.std.specs.Prelude.{◌≡◌, ℕ, ◌^◌, ◌<◌, ◌≤◌, All, Bool, true, false, List, [], ◌∷◌, ◌++◌, ◌⊎◌, Option, None, Result, Ok, Err, length, reverse, take}
use Rattle.std.specs.Io.KnownBytes.{Appends, Keeps}
use Rattle.executor_model.specs.declared.Happening.{Happening}
use Rattle.executor_model.specs.declared.Happening.TheVariants as h
use Rattle.executor_model.specs.Histories.{HistoryEntry, IsHistoryOf, happenings}
use Rattle.executor_model.specs.Flows.{lines_of}
use Rattle.executor_model.specs.Needs.{IsRipe}
use Rattle.executor_model.specs.State.{after, view_of_state}
use Rattle.queue_code.specs.Calls.{Planned, how_many}
use Rattle.trace_check.specs.Laws.{FitsHappening}
use Rattle.sched_engine.specs.declared.report.Report.{Report}
use Rattle.sched_engine.specs.declared.report.OpenError.TheVariants as o
use Rattle.sched_engine.specs.declared.report.RunError.{RunError}
use Rattle.pool_engine.specs.declared.clocks.ReadingError.{ReadingError}
use Rattle.pool_engine.specs.declared.clocks.ReadingError.TheVariants as r
use Rattle.pool_engine.specs.declared.stops.PoolStop.{PoolStop}
use Rattle.pool_engine.specs.declared.stops.PoolStop.TheVariants as p
use Rattle.sched_engine.specs.declared.report.RunError.TheVariants as x
use Rattle.sched_engine.specs.Running.{IsAccepted, IsRefusedRun, text_of}
use Rattle.pool_engine.specs.ClockLines.{AreAllClocks, EndsReading}

-- ---- what happened in a history

-- what happened in a history, the oldest first
abbrev pub happened_in : List HistoryEntry → List Happening
happened_in past = reverse (happenings past)

-- the moments that the clocks among some happenings show
abbrev pub clocks_of : List Happening → List ℕ
clocks_of [] = []
clocks_of (h.Clock t ∷ later) = t ∷ clocks_of later
clocks_of (_ ∷ later) = clocks_of later

-- a happening is an event that a pool takes: the calls of the plan are none, a cancel from outside is that of a handle, and a purge
-- is no event
abbrev pub is_taken : Happening → Bool
is_taken (h.Clock t) = true
is_taken (h.Start worker) = true
is_taken (h.Finish worker ending) = true
is_taken _ = false

-- how many of some happenings are events
abbrev pub event_count : List Happening → ℕ
event_count happened = how_many is_taken happened

-- no task that waits or is kept is due once a history has happened
abbrev pub IsAtRest : List Planned → ℕ → List HistoryEntry → Type 0
IsAtRest calls workers past = IsRipe calls (view_of_state calls (after calls workers (happenings past))) → ⊥

-- no run is under way once a history has happened: no worker has a task
abbrev pub IsIdleAfter : List Planned → ℕ → List HistoryEntry → Type 0
IsIdleAfter calls workers past = (worker : ℕ) → (after calls workers (happenings past)).workers worker ≡ None

-- what happens is by a pool of so many workers to which no handle is out: a start or a finish is by one of them, and nothing is a
-- cancel from outside or a purge
abbrev pub IsByPool : ℕ → Happening → Type 0
IsByPool workers (h.Start worker) = worker < workers
IsByPool workers (h.Finish worker ending) = worker < workers
IsByPool workers (h.Cancel task) = ⊥
IsByPool workers h.Purge = ⊥
IsByPool workers _ = Unit {0}

-- some moments are the first of these
abbrev pub AreFirstOf : List ℕ → List ℕ → Type 0
AreFirstOf front moments = (later : List ℕ) × (front ++ later ≡ moments)

-- a history is one that the calls allow, with the clocks of the input, and all else by a pool of the workers, within the limit;
-- after it nothing is due, and no run is under way. What it hands in fits, and it is no longer than 2^64: so its text conforms, as
-- a law says
pub record RunsToRest (calls : List Planned) (workers limit : ℕ) (moments : List ℕ) (past : List HistoryEntry) : Type 0 where
  pub means : IsHistoryOf calls workers past
  pub fit : All FitsHappening (happenings past)
  pub short : length past ≤ 2 ^ 64
  pub clocks : clocks_of (happened_in past) ≡ moments
  pub by : All (IsByPool workers) (happenings past)
  pub rests : IsAtRest calls workers past
  pub idle : IsIdleAfter calls workers past
  pub within : event_count (happened_in past) ≤ limit

-- a history is one that the calls allow, with clocks that are the first of the input, and all else by a pool of the workers, and
-- with as many events as the limit allows; what it hands in fits, and it is no longer than 2^64
pub record RunsToLimit (calls : List Planned) (workers limit : ℕ) (moments : List ℕ) (past : List HistoryEntry) : Type 0 where
  pub means : IsHistoryOf calls workers past
  pub fit : All FitsHappening (happenings past)
  pub short : length past ≤ 2 ^ 64
  pub clocks : AreFirstOf (clocks_of (happened_in past)) moments
  pub by : All (IsByPool workers) (happenings past)
  pub full : event_count (happened_in past) ≡ limit

-- ---- a run

-- what a pool wrote that ran over these calls and moments
abbrev pub PoolWrote : Result Report PoolStop → List Planned → ℕ → ℕ → List ℕ → Option (List ℕ) → Option (List ℕ) → Type 0
PoolWrote (Ok report) calls workers limit moments old new =
    (past : List HistoryEntry) × RunsToRest calls workers limit moments past
    × (report.events ≡ event_count (happened_in past)) × (report.lines ≡ length (lines_of calls past)) × Appends old new (text_of calls past)
PoolWrote (Err p.Full) calls workers limit moments old new =
    (past : List HistoryEntry) × RunsToLimit calls workers limit moments past × Appends old new (text_of calls past)
PoolWrote (Err p.Write) calls workers limit moments old new =
    (past : List HistoryEntry) × (RunsToRest calls workers limit moments past ⊎ RunsToLimit calls workers limit moments past)
    × (n : ℕ) × Appends old new (take n (text_of calls past))
PoolWrote (Err p.Lost) calls workers limit moments old new = Keeps old new
PoolWrote (Err p.Memory) calls workers limit moments old new = Keeps old new

-- at each error with which nothing is written, the counts of the writer stay, as it was not called. With `Full` the text of a run may
-- be written, so it is left out here
abbrev pub LeavesWriter : Result Report RunError → ℕ → ℕ → ℕ → ℕ → Type 0
LeavesWriter (Ok r) failed fruitless failed' fruitless' = Unit {0}
LeavesWriter (Err x.Full) failed fruitless failed' fruitless' = Unit {0}
LeavesWriter (Err x.Write) failed fruitless failed' fruitless' = Unit {0}
LeavesWriter (Err _) failed fruitless failed' fruitless' = (failed' ≡ failed) × (fruitless' ≡ fruitless)

-- the reading ended before the input did, and nothing was written
abbrev pub EndsUnwritten : ReadingError → List ℕ → ℕ → ℕ → Option (List ℕ) → Option (List ℕ) → Option (List ℕ) → Option (List ℕ) → Type 0
EndsUnwritten e text workers limit input left old new =
    (calls : List Planned) × IsAccepted text calls workers limit × EndsReading e limit input left × Keeps old new

-- all of the input was read, and a pool ran over it
abbrev pub RunsAll : Result Report PoolStop → List ℕ → ℕ → ℕ → Option (List ℕ) → Option (List ℕ) → Option (List ℕ) → Option (List ℕ) → Type 0
RunsAll result text workers limit input left old new =
    (calls : List Planned) × IsAccepted text calls workers limit
    × (moments : List ℕ) × AreAllClocks limit input left moments × PoolWrote result calls workers limit moments old new

-- what a caller is told of a pool that did not end well
abbrev pub told_of_pool_stop : PoolStop → RunError
told_of_pool_stop p.Full = x.Full
told_of_pool_stop p.Write = x.Write
told_of_pool_stop p.Lost = x.Lost
told_of_pool_stop p.Memory = x.Memory

-- what a run by a pool did: it refused, with nothing read or written; or the reading ended early, and nothing was written; or all
-- was read, and the pool ran
abbrev pub PoolRan : Result Report RunError → List ℕ → ℕ → ℕ → Option (List ℕ) → Option (List ℕ) → Option (List ℕ) → Option (List ℕ) → Type 0
PoolRan (Ok report) text workers limit input left old new = RunsAll (Ok report) text workers limit input left old new
PoolRan (Err (x.Plan fault)) text workers limit input left old new = IsRefusedRun (o.Plan fault) text workers limit input left old new
PoolRan (Err x.Workers) text workers limit input left old new = IsRefusedRun o.Workers text workers limit input left old new
PoolRan (Err x.Limit) text workers limit input left old new = IsRefusedRun o.Limit text workers limit input left old new
PoolRan (Err (x.EventLine n)) text workers limit input left old new = EndsUnwritten (r.EventLine n) text workers limit input left old new
PoolRan (Err x.Full) text workers limit input left old new =
    EndsUnwritten r.Full text workers limit input left old new ⊎ RunsAll (Err p.Full) text workers limit input left old new
PoolRan (Err x.Read) text workers limit input left old new = EndsUnwritten r.Read text workers limit input left old new
PoolRan (Err x.Write) text workers limit input left old new = RunsAll (Err p.Write) text workers limit input left old new
PoolRan (Err x.Lost) text workers limit input left old new = RunsAll (Err p.Lost) text workers limit input left old new
PoolRan (Err x.Memory) text workers limit input left old new =
    IsRefusedRun o.Memory text workers limit input left old new
    ⊎ (EndsUnwritten r.Memory text workers limit input left old new ⊎ RunsAll (Err p.Memory) text workers limit input left old new)
