-- What a live run reads, writes and notes.
-- All of it is this project's rule.
use Rattle.std.specs.Prelude.{◌≡◌, ℕ, ◌+◌, ◌<◌, ◌≤◌, List, [], ◌∷◌, ◌++◌, ◌⊎◌, Option, Result, Ok, Err, IfSome, length, take}
use Rattle.std.specs.Io.KnownBytes.{Appends, Consumes, IsAtEnd}
use Rattle.queue_code.specs.Calls.{IsOrderly}
use Rattle.executor_model.specs.Counts.{IsWorkerCount}
use Rattle.executor_model.specs.Histories.{happenings, made, IsHistoryOf}
use Rattle.trace_text.specs.Reading.{IsPart, IsRead, IsUnread}
use Rattle.call_text.specs.declared.live.LiveFront.TheVariants as front
use Rattle.call_text.specs.Reading.{IsLiveFront}
use Rattle.call_journal.specs.declared.journal.MadeCall.{MadeCall}
use Rattle.call_journal.specs.Journals.{JournalView, noted}
use Rattle.sched_engine.specs.declared.report.StopError.{StopError}
use Rattle.sched_engine.specs.declared.report.StopError.TheVariants as s
use Rattle.live_engine.specs.declared.opening.OpenError.{OpenError}
use Rattle.live_engine.specs.declared.opening.OpenError.TheVariants as o
use Rattle.sched_engine.specs.declared.report.RunError.{RunError}
use Rattle.sched_engine.specs.declared.report.RunError.TheVariants as x
use Rattle.byte_ends.specs.Refills.{piece}
use Rattle.sched_engine.specs.Running.{IsUntouched}
use Rattle.live_engine.specs.declared.live_line.LiveLine.{LiveLine}
use Rattle.live_engine.specs.declared.live_line.LiveLine.TheVariants as l
use Rattle.live_engine.specs.declared.report.LiveReport.{LiveReport}
use Rattle.live_engine.specs.LiveLines.{LiveHistory, FitsLive, IsBeyond, IsCallLine, MayCome, input_of, live_history, live_line, meant_in, next_moment, trace_length, trace_of}

-- ---- what stands behind the lines that were taken

-- some bytes begin with a line that fits
pub record BeginsWith (bytes : List ℕ) (IsSo : LiveLine → Type 0) : Type 0 where
  pub line : LiveLine
  pub rest : List ℕ
  pub read : IsRead live_line FitsLive bytes line rest
  pub so : IsSo line

-- some bytes begin with a line for which there is no room where this is the history
abbrev pub BeginsBeyond : ℕ → LiveHistory → List ℕ → Type 0
BeginsBeyond workers so_far bytes = BeginsWith bytes (λ line. IsBeyond workers so_far (meant_in so_far line))

-- with one that makes a call, and for which there is room, so that nothing is wanting for it but memory; an event wants none
abbrev pub BeginsWanting : ℕ → LiveHistory → List ℕ → Type 0
BeginsWanting workers so_far bytes = BeginsWith bytes (λ line. IsCallLine (meant_in so_far line) × (IsBeyond workers so_far (meant_in so_far line) → ⊥))

-- why the bytes that were read behind the lines are no line: they are refused, or are a part of a line with which the input ends
abbrev pub IsNoLine : Option (List ℕ) → List ℕ → Type 0
IsNoLine left ahead = IsLiveFront front.Refused ahead ⊎ (IsPart ahead × (0 < length ahead) × IsAtEnd left)

-- ---- the journal

-- the call that a line makes that is meant so, with its moment, and none where it makes none
abbrev pub made_by : LiveHistory → LiveLine → List MadeCall
made_by so_far (l.Event event) = []
made_by so_far (l.Call made) = record { moment = next_moment so_far; call = made } ∷ []

-- the calls that some lines made, with their moments, the newest first
abbrev pub made_calls : ℕ → List LiveLine → List MadeCall
made_calls workers [] = []
made_calls workers (line ∷ before) = made_by (live_history workers before) (meant_in (live_history workers before) line) ++ made_calls workers before

-- a journal, once some calls were noted one after the other, the newest first in the list
abbrev pub all_noted : JournalView → List MadeCall → JournalView
all_noted journal [] = journal
all_noted journal (call ∷ before) = noted (all_noted journal before) call

-- some calls were noted, whatever room there is for more
abbrev pub Notes : JournalView → JournalView → List MadeCall → Type 0
Notes old new calls = new ≡ record (all_noted old calls) { room = new.room }

-- ---- a run

-- a history of some calls that is allowed: the calls are in order, all of them were made, and each answer is the one that it has to be
pub record IsLiveHistory (workers : ℕ) (so_far : LiveHistory) : Type 0 where
  pub orderly : IsOrderly so_far.calls
  pub means : IsHistoryOf so_far.calls workers so_far.past
  pub made : made (happenings so_far.past) ≡ length so_far.calls

-- the input is the lines, and then a rest of which P holds
abbrev pub Splits : Option (List ℕ) → List LiveLine → (List ℕ → Type 0) → Type 0
Splits input lines P = IfSome input (λ xs. (rest : List ℕ) × (xs ≡ input_of lines ++ rest) × P rest)

-- The lines that a run took from its input, the newest first, and their one history. `IsAhead` holds of the history and of the bytes
-- that were read behind the lines, `IsRest` of it and of all of the input behind them, and `Gives` of the lines and their history.
pub record Taken (workers : ℕ) (input left : Option (List ℕ)) (old new : JournalView) (IsAhead IsRest : LiveHistory → List ℕ → Type 0)
    (Gives : List LiveLine → LiveHistory → Type 0) : Type 0 where
  pub lines : List LiveLine
  pub come : MayCome workers lines
  pub allowed : IsLiveHistory workers (live_history workers lines)
  pub ahead : List ℕ
  pub read : Consumes input left (input_of lines ++ ahead)
  -- no more than one piece is read behind the last line taken
  pub near : length ahead ≤ piece
  pub stops : IsAhead (live_history workers lines) ahead
  pub splits : Splits input lines (IsRest (live_history workers lines))
  pub journal : Notes old new (made_calls workers lines)
  pub gives : Gives lines (live_history workers lines)

-- what a run had before it, and has after it: what is left of the input, what the writer took, and the journal
pub record LiveEnds : Type 0 where
  pub left : Option (List ℕ)
  pub contents : Option (List ℕ)
  pub journal : JournalView

-- the whole trace was written, and this is so of the lines and their history
abbrev pub Writes : LiveEnds → LiveEnds → (List LiveLine → LiveHistory → Type 0) → List LiveLine → LiveHistory → Type 0
Writes old new IsSo lines so_far = Appends old.contents new.contents (trace_of so_far) × IsSo lines so_far

-- what a run did that had begun
abbrev pub Runs : Result LiveReport StopError → ℕ → LiveEnds → LiveEnds → Type 0
Runs (Ok report) workers old new = Taken workers old.left new.left old.journal new.journal (λ _ ahead. ahead ≡ []) (λ _ rest. rest ≡ [])
    (Writes old new (λ lines so_far. (report.lines_read ≡ length lines) × (report.lines_written ≡ trace_length so_far)))
Runs (Err (s.EventLine n)) workers old new = Taken workers old.left new.left old.journal new.journal (λ _. IsNoLine new.left)
    (λ _ rest. IsUnread live_line FitsLive rest × (0 < length rest)) (Writes old new (λ lines _. n ≡ length lines + 1))
Runs (Err s.Full) workers old new = Taken workers old.left new.left old.journal new.journal (BeginsBeyond workers) (BeginsBeyond workers)
    (Writes old new (λ _ _. Unit {0}))
Runs (Err s.Read) workers old new = Taken workers old.left new.left old.journal new.journal (λ _ ahead. IsPart ahead) (λ _ _. Unit {0})
    (Writes old new (λ _ _. Unit {0}))
Runs (Err s.Write) workers old new = Taken workers old.left new.left old.journal new.journal (λ _ _. Unit {0}) (λ _ _. Unit {0})
    (λ _ so_far. (n : ℕ) × Appends old.contents new.contents (take n (trace_of so_far)))
Runs (Err s.Memory) workers old new = Taken workers old.left new.left old.journal new.journal (BeginsWanting workers) (BeginsWanting workers)
    (Writes old new (λ _ _. Unit {0}))

-- nothing was read, written or noted
abbrev pub ChangesNothing : LiveEnds → LiveEnds → Type 0
ChangesNothing old new = IsUntouched old.left new.left old.contents new.contents × (new.journal ≡ old.journal)

-- why a run does not begin: the workers are not 1 to 64, or else memory was refused
abbrev pub RefusesToRun : OpenError → ℕ → Type 0
RefusesToRun o.Workers workers = IsWorkerCount workers → ⊥
RefusesToRun o.Memory workers = IsWorkerCount workers

-- what a caller is told then
abbrev pub told_of_opening : OpenError → RunError
told_of_opening o.Workers = x.Workers
told_of_opening o.Memory = x.Memory

-- a run that began
abbrev pub Begins : Result LiveReport StopError → ℕ → LiveEnds → LiveEnds → Type 0
Begins result workers old new = IsWorkerCount workers × Runs result workers old new

-- what a run did, by what its caller is told: it did not begin, or it ran over the lines of its input
abbrev pub Ran : Result LiveReport RunError → ℕ → LiveEnds → LiveEnds → Type 0
Ran (Ok report) workers old new = Begins (Ok report) workers old new
Ran (Err x.Workers) workers old new = RefusesToRun o.Workers workers × ChangesNothing old new
Ran (Err (x.EventLine n)) workers old new = Begins (Err (s.EventLine n)) workers old new
Ran (Err x.Full) workers old new = Begins (Err s.Full) workers old new
Ran (Err x.Read) workers old new = Begins (Err s.Read) workers old new
Ran (Err x.Write) workers old new = Begins (Err s.Write) workers old new
Ran (Err x.Memory) workers old new = (RefusesToRun o.Memory workers × ChangesNothing old new) ⊎ Begins (Err s.Memory) workers old new
Ran (Err _) workers old new = ⊥
