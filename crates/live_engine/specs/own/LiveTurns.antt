-- Turns: how far a live run has come, between one read and the next.
-- All of it is this project's rule.
use Rattle.std.specs.Prelude.{◌≡◌, ℕ, ◌+◌, ◌-◌, ◌*◌, ◌<◌, ◌≤◌, List, [], ◌++◌, Option, Result, Ok, Err, length, take}
use Rattle.std.specs.Io.KnownBytes.{Appends, Consumes, prepend_known}
use Rattle.executor_model.specs.Counts.{IsWorkerCount}
use Rattle.trace_text.specs.Reading.{IsPart, most_event_bytes}
use Rattle.call_text.specs.declared.live.LiveFront.TheVariants as front
use Rattle.call_text.specs.Reading.{IsLiveFront}
use Rattle.call_journal.specs.Journals.{JournalView}
use Rattle.live_core.specs.Lives.{LiveView}
use Rattle.sched_engine.specs.declared.report.StopError.{StopError}
use Rattle.sched_engine.specs.declared.report.StopError.TheVariants as s
use Rattle.live_engine.specs.declared.live_line.LiveLine.{LiveLine}
use Rattle.live_engine.specs.declared.stops.PieceEnd.{PieceEnd}
use Rattle.live_engine.specs.declared.stops.PieceEnd.TheVariants as e
use Rattle.live_engine.specs.declared.counts.Counts.{Counts}
use Rattle.live_engine.specs.declared.engine.Turn.{Turn}
use Rattle.live_engine.specs.declared.engine.Turn.TheVariants as t
use Rattle.live_engine.specs.LiveLines.{MayCome, input_of, most_lines, no_history, live_history, trace_length, trace_of}
use Rattle.live_engine.specs.LiveRuns.{BeginsBeyond, BeginsWanting, IsLiveHistory, LiveEnds, Notes, Runs, made_calls}
use Rattle.live_engine.specs.own.LiveSteps.{IsAt}

-- what a run runs over: how many workers there are, and what the ends had at first
pub record Setting : Type 0 where
  pub workers : ℕ
  pub first : LiveEnds

-- how far a run has come: what is left of the input, what the writer has, and the journal; the bytes that are held, the text that was
-- not written yet, and the numbers of lines that were read and that answer them
pub record Progress : Type 0 where
  pub ends : LiveEnds
  pub held : List ℕ
  pub text : List ℕ
  pub counts : Counts

-- the counts are in range, and each line that was read has an answer
abbrev pub AreCounted : Counts → Type 0
AreCounted counts = (counts.read ≤ counts.written) × (counts.written ≤ most_lines)

-- these lines were taken so far, and their trace was written but for the text at hand
pub record Done (run : Setting) (at : Progress) (lines : List LiveLine) : Type 0 where
  pub come : MayCome run.workers lines
  pub allowed : IsLiveHistory run.workers (live_history run.workers lines)
  pub read : Consumes run.first.left (prepend_known at.held at.ends.left) (input_of lines)
  pub before : List ℕ
  pub written : Appends run.first.contents at.ends.contents before
  pub says : trace_of (live_history run.workers lines) ≡ before ++ at.text
  pub journal : Notes run.first.journal at.ends.journal (made_calls run.workers lines)
  pub taken : at.counts.read ≡ length lines
  pub counted : at.counts.written ≡ trace_length (live_history run.workers lines)

-- these lines were taken, and the executor stands where they led it
pub record DoneAt (run : Setting) (at : Progress) (m : LiveView) (lines : List LiveLine) : Type 0 where
  pub done : Done run at lines
  pub stands : IsAt run.workers m (live_history run.workers lines)

-- why the bytes that are held were not taken further, once these lines were: where a part of a line is left, the executor stands
-- where the lines led it
abbrev pub IsPieceEnd : PieceEnd → ℕ → LiveView → List LiveLine → List ℕ → Type 0
IsPieceEnd e.Part workers m lines rest = IsPart rest × IsAt workers m (live_history workers lines)
IsPieceEnd e.Refused workers m lines rest = IsLiveFront front.Refused rest
IsPieceEnd e.Full workers m lines rest = BeginsBeyond workers (live_history workers lines) rest
IsPieceEnd e.Memory workers m lines rest = BeginsWanting workers (live_history workers lines) rest

-- an executor before anything happened
pub record Opens (m : LiveView) (workers : ℕ) : Type 0 where
  pub counted : IsWorkerCount workers
  pub stands : IsAt workers m no_history
  pub numbers : m.count ≡ 0

-- some lines were taken, and no further one, for this reason
pub record Stopped (end : PieceEnd) (run : Setting) (at : Progress) (m : LiveView) : Type 0 where
  pub lines : List LiveLine
  pub done : Done run at lines
  pub stop : IsPieceEnd end run.workers m lines at.held

-- some lines were taken, and of the text at hand then, and of that of the answer to the last of them, a front was written
pub record IsCut (run : Setting) (left : Option (List ℕ)) (held : List ℕ) (contents : Option (List ℕ)) (journal : JournalView) : Type 0 where
  pub lines : List LiveLine
  pub come : MayCome run.workers lines
  pub allowed : IsLiveHistory run.workers (live_history run.workers lines)
  pub rest : List ℕ
  pub short : length rest ≤ length held
  pub read : Consumes run.first.left (prepend_known rest left) (input_of lines)
  pub notes : Notes run.first.journal journal (made_calls run.workers lines)
  pub front : (n : ℕ) × Appends run.first.contents contents (take n (trace_of (live_history run.workers lines)))

-- between two turns each line that was read is answered and the answers are written: what is held is a part of one line
pub record IsBetweenTurns (run : Setting) (at : Progress) (m : LiveView) : Type 0 where
  pub lines : List LiveLine
  pub done : DoneAt run at m lines
  pub none : at.text ≡ []
  pub part : IsPart at.held
  pub range : IsWorkerCount run.workers

-- falls from turn to turn: each brings a line, or a byte more of one
abbrev pub still_to_come : Progress → ℕ
still_to_come at = (most_lines - at.counts.read) * (most_event_bytes + 1) + (most_event_bytes - length at.held)

-- what a turn did: the run goes on, or it ended so
abbrev pub Turns : Result Turn StopError → Setting → Progress → Progress → LiveView → Type 0
Turns (Ok t.More) run old new m = IsBetweenTurns run new m × (still_to_come new < still_to_come old)
Turns (Ok (t.Ended report)) run old new m = Runs (Ok report) run.workers run.first new.ends
Turns (Err error) run old new m = Runs (Err error) run.workers run.first new.ends

-- how a run ends at a line that is none, where so many were taken
abbrev pub EndsAtLine : StopError → ℕ → Type 0
EndsAtLine error read = error ≡ s.EventLine (read + 1)

-- why no line stands at the front of some bytes
abbrev pub IsFrontEnd : PieceEnd → List ℕ → Type 0
IsFrontEnd e.Part bytes = IsPart bytes
IsFrontEnd e.Refused bytes = IsLiveFront front.Refused bytes
IsFrontEnd _ bytes = ⊥
