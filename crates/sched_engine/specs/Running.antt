-- What a run reads and writes.
-- All of it is this project's rule.
use Rattle.std.specs.Prelude.{◌≡◌, ℕ, ◌+◌, ◌<◌, ◌≤◌, List, [], ◌++◌, ◌⊎◌, Option, Some, Result, Ok, Err, IfSome, length, take}
use Rattle.std.specs.Io.KnownBytes.{Appends, Consumes, IsAtEnd, Keeps}
use Rattle.executor_model.specs.declared.Event.{Event}
use Rattle.executor_model.specs.Counts.{IsWorkerCount}
use Rattle.queue_code.specs.Calls.{Planned}
use Rattle.executor_model.specs.Histories.{HistoryEntry, happenings, IsHistoryOf}
use Rattle.executor_model.specs.Flows.{flow, lines_of}
use Rattle.sched_engine.specs.declared.report.Report.{Report}
use Rattle.sched_engine.specs.declared.report.OpenError.{OpenError}
use Rattle.sched_engine.specs.declared.report.OpenError.TheVariants as o
use Rattle.sched_engine.specs.declared.report.StopError.{StopError}
use Rattle.sched_engine.specs.declared.report.StopError.TheVariants as s
use Rattle.sched_engine.specs.declared.report.RunError.{RunError}
use Rattle.sched_engine.specs.declared.report.RunError.TheVariants as x
use Rattle.byte_ends.specs.Ends.{AllGood, LastBad, NoneFailed}
use Rattle.byte_ends.specs.Refills.{piece}
use Rattle.sched_engine.specs.Inputs.{input_of, AreEvents, IsRefused, BeginsWithEvent}
use Rattle.trace_text.specs.Spelling.{IsLine, lines_text}
use Rattle.trace_text.specs.declared.front.Front.TheVariants as front
use Rattle.trace_text.specs.Reading.{IsFront, most_event_bytes}
use Rattle.plan_read.specs.Plans.{PlanTree}
use Rattle.plan_read.specs.Reads.{out_of_memory}
use Rattle.plan_read.specs.Texts.{TextWrites, TextFails}
use Rattle.plan_compile.specs.PlanCalls.{calls_of_plan}

-- ---- traces

-- the history is the one that the plan's equations allow for the events, which stand the newest first
pub record IsTrace (calls : List Planned) (workers : ℕ) (events : List Event) (past : List HistoryEntry) : Type 0 where
  pub means : IsHistoryOf calls workers past
  pub flows : happenings past ≡ flow calls events

-- the text of a history
abbrev pub text_of : List Planned → List HistoryEntry → List ℕ
text_of calls past = lines_text (lines_of calls past)

-- ---- a run

-- the input is the lines of the events, and then a rest of which P holds
abbrev pub Splits : Option (List ℕ) → List Event → (List ℕ → Type 0) → Type 0
Splits input events P = IfSome input (λ xs. (rest : List ℕ) × (xs ≡ input_of events ++ rest) × P rest)

-- the events that a run took from its input, and the one trace that they have. `IsAhead` holds of the bytes that were read behind
-- their lines, `IsRest` of all of the input behind them, and `Gives` of the numbers of events and lines, and of the trace's text
pub record Taken (calls : List Planned) (workers limit : ℕ) (input left : Option (List ℕ)) (IsAhead IsRest : List ℕ → Type 0) (Gives : ℕ → ℕ → List ℕ → Type 0) : Type 0 where
  pub events : List Event
  pub fit : AreEvents events
  pub past : List HistoryEntry
  pub trace : IsTrace calls workers events past
  pub ahead : List ℕ
  pub read : Consumes input left (input_of events ++ ahead)
  -- no more than one piece is read behind the last event taken
  pub near : length ahead ≤ piece
  pub stops : IsAhead ahead
  pub splits : Splits input events IsRest
  pub within : length events ≤ limit
  pub gives : Gives (length events) (length (lines_of calls past)) (text_of calls past)

-- the plan text writes a plan that makes these calls, and the numbers are in range
pub record IsAccepted (text : List ℕ) (calls : List Planned) (workers limit : ℕ) : Type 0 where
  pub plan : PlanTree
  pub reads : TextWrites text plan
  pub makes : calls ≡ calls_of_plan plan
  pub counted : IsWorkerCount workers
  pub positive : 0 < limit

-- nothing was read or written
abbrev pub IsUntouched : Option (List ℕ) → Option (List ℕ) → Option (List ℕ) → Option (List ℕ) → Type 0
IsUntouched input left old new = Keeps input left × Keeps old new

-- why the bytes behind the events are no event line: they are refused, or are a part of a line with which the input ends
abbrev pub IsNoEventLine : Option (List ℕ) → List ℕ → Type 0
IsNoEventLine left ahead = IsFront front.Refused ahead ⊎ (IsFront front.Part ahead × (0 < length ahead) × IsAtEnd left)

-- what a run over these calls did, which stand for a plan
abbrev pub Runs : Result Report StopError → List Planned → ℕ → ℕ → Option (List ℕ) → Option (List ℕ) → Option (List ℕ) → Option (List ℕ) → Type 0
Runs (Ok r) calls workers limit input left old new =
    Taken calls workers limit input left (λ ahead. ahead ≡ []) (λ rest. rest ≡ []) (λ events lines trace. (events ≡ r.events) × (lines ≡ r.lines) × Appends old new trace)
Runs (Err (s.EventLine n)) calls workers limit input left old new =
    Taken calls workers limit input left (IsNoEventLine left) (λ rest. IsRefused rest × (0 < length rest)) (λ events lines trace. (n ≡ events + 1) × Appends old new trace)
Runs (Err s.Full) calls workers limit input left old new =
    Taken calls workers limit input left BeginsWithEvent BeginsWithEvent (λ events lines trace. (events ≡ limit) × Appends old new trace)
Runs (Err s.Read) calls workers limit input left old new =
    Taken calls workers limit input left (λ ahead. IsLine ahead × (length ahead < most_event_bytes)) (λ rest. Unit {0}) (λ events lines trace. Appends old new trace)
Runs (Err s.Write) calls workers limit input left old new =
    Taken calls workers limit input left (λ ahead. Unit {0}) (λ rest. Unit {0}) (λ events lines trace. (n : ℕ) × Appends old new (take n trace))
Runs (Err s.Memory) calls workers limit input left old new =
    Taken calls workers limit input left BeginsWithEvent BeginsWithEvent (λ events lines trace. (events < limit) × Appends old new trace)

-- why there is no core for a text and these numbers, the plan first, then the workers, then the limit
abbrev pub RefusesToRun : OpenError → List ℕ → ℕ → ℕ → Type 0
RefusesToRun (o.Plan fault) text workers limit = TextFails text fault ⊎ (fault ≡ out_of_memory)
RefusesToRun o.Workers text workers limit = (plan : PlanTree) × TextWrites text plan × (IsWorkerCount workers → ⊥)
RefusesToRun o.Limit text workers limit = (plan : PlanTree) × TextWrites text plan × IsWorkerCount workers × (limit ≡ 0)
RefusesToRun o.Memory text workers limit = (plan : PlanTree) × TextWrites text plan

-- a run was refused, with nothing read or written
abbrev pub IsRefusedRun : OpenError → List ℕ → ℕ → ℕ → Option (List ℕ) → Option (List ℕ) → Option (List ℕ) → Option (List ℕ) → Type 0
IsRefusedRun e text workers limit input left old new = RefusesToRun e text workers limit × IsUntouched input left old new

-- a run over the calls of the plan that the text writes
abbrev pub RunsPlan : Result Report StopError → List ℕ → ℕ → ℕ → Option (List ℕ) → Option (List ℕ) → Option (List ℕ) → Option (List ℕ) → Type 0
RunsPlan result text workers limit input left old new =
    (calls : List Planned) × IsAccepted text calls workers limit × Runs result calls workers limit input left old new

-- what a run did, by what its caller is told
abbrev pub Ran : Result Report RunError → List ℕ → ℕ → ℕ → Option (List ℕ) → Option (List ℕ) → Option (List ℕ) → Option (List ℕ) → Type 0
Ran (Ok r) text workers limit input left old new = RunsPlan (Ok r) text workers limit input left old new
Ran (Err (x.Plan fault)) text workers limit input left old new = IsRefusedRun (o.Plan fault) text workers limit input left old new
Ran (Err x.Workers) text workers limit input left old new = IsRefusedRun o.Workers text workers limit input left old new
Ran (Err x.Limit) text workers limit input left old new = IsRefusedRun o.Limit text workers limit input left old new
Ran (Err (x.EventLine n)) text workers limit input left old new = RunsPlan (Err (s.EventLine n)) text workers limit input left old new
Ran (Err x.Full) text workers limit input left old new = RunsPlan (Err s.Full) text workers limit input left old new
Ran (Err x.Read) text workers limit input left old new = RunsPlan (Err s.Read) text workers limit input left old new
Ran (Err x.Write) text workers limit input left old new = RunsPlan (Err s.Write) text workers limit input left old new
Ran (Err x.Memory) text workers limit input left old new =
    IsRefusedRun o.Memory text workers limit input left old new ⊎ RunsPlan (Err s.Memory) text workers limit input left old new
Ran (Err x.Lost) text workers limit input left old new = ⊥

-- what the calls of the reader count: nothing where the plan or a number is refused, and else what good tries do, the last of
-- which was bad at `Read`
abbrev pub CountsReader : {T : Type 0} → Result T RunError → ℕ → ℕ → ℕ → ℕ → Type 0
CountsReader (Err (x.Plan fault)) failed fruitless failed' fruitless' = NoneFailed 0 failed fruitless failed' fruitless'
CountsReader (Err x.Workers) failed fruitless failed' fruitless' = NoneFailed 0 failed fruitless failed' fruitless'
CountsReader (Err x.Limit) failed fruitless failed' fruitless' = NoneFailed 0 failed fruitless failed' fruitless'
CountsReader (Err x.Read) failed fruitless failed' fruitless' = LastBad failed fruitless failed' fruitless'
CountsReader _ failed fruitless failed' fruitless' = AllGood failed fruitless failed' fruitless'

-- what the calls of the writer count: nothing where the plan or a number is refused, and else what good tries do, the last of
-- which was bad at `Write`
abbrev pub CountsWriter : {T : Type 0} → Result T RunError → ℕ → ℕ → ℕ → ℕ → Type 0
CountsWriter (Err (x.Plan fault)) failed fruitless failed' fruitless' = NoneFailed 0 failed fruitless failed' fruitless'
CountsWriter (Err x.Workers) failed fruitless failed' fruitless' = NoneFailed 0 failed fruitless failed' fruitless'
CountsWriter (Err x.Limit) failed fruitless failed' fruitless' = NoneFailed 0 failed fruitless failed' fruitless'
CountsWriter (Err x.Write) failed fruitless failed' fruitless' = LastBad failed fruitless failed' fruitless'
CountsWriter _ failed fruitless failed' fruitless' = AllGood failed fruitless failed' fruitless'

-- what the tries of the reader count of a run that stopped so, or went on: the last was bad at `Read`, and all others were good
abbrev pub CountsReads : {T : Type 0} → Result T StopError → ℕ → ℕ → ℕ → ℕ → Type 0
CountsReads (Err s.Read) failed fruitless failed' fruitless' = LastBad failed fruitless failed' fruitless'
CountsReads _ failed fruitless failed' fruitless' = AllGood failed fruitless failed' fruitless'

-- what the tries of the writer count: the last was bad at `Write`, and all others were good
abbrev pub CountsWrites : {T : Type 0} → Result T StopError → ℕ → ℕ → ℕ → ℕ → Type 0
CountsWrites (Err s.Write) failed fruitless failed' fruitless' = LastBad failed fruitless failed' fruitless'
CountsWrites _ failed fruitless failed' fruitless' = AllGood failed fruitless failed' fruitless'

-- ---- a run over memory

-- a run over bytes in memory that answers so took all of them, and this is what it wrote
pub record IsWholeRun (report : Report) (text : List ℕ) (workers limit : ℕ) (input output : List ℕ) : Type 0 where
  pub calls : List Planned
  pub accepted : IsAccepted text calls workers limit
  pub events : List Event
  pub fit : AreEvents events
  pub past : List HistoryEntry
  pub trace : IsTrace calls workers events past
  pub read : input ≡ input_of events
  pub written : output ≡ text_of calls past
  pub taken : report.events ≡ length events
  pub lines : report.lines ≡ length (lines_of calls past)
  pub within : length events ≤ limit

-- what a run over bytes in memory answers and writes: a fault of the reader can't come
abbrev pub RanInMemory : Result Report RunError → List ℕ → ℕ → ℕ → List ℕ → List ℕ → Type 0
RanInMemory (Ok report) text workers limit input output = IsWholeRun report text workers limit input output
RanInMemory (Err x.Read) text workers limit input output = ⊥
RanInMemory (Err e) text workers limit input output = (left : List ℕ) × Ran (Err e) text workers limit (Some input) (Some left) (Some []) (Some output)
