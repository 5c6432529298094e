-- Steps: where an executor stands once some lines were taken, and what one line more, as it is meant, makes of it.
-- All of it is this project's rule.
use Rattle.std.specs.Prelude.{◌≡◌, ℕ, ◌+◌, ◌<◌, List, [], ◌∷◌, ◌++◌, length}
use Rattle.executor_model.specs.declared.Line.{Line}
use Rattle.executor_model.specs.Answers.{Reply}
use Rattle.executor_model.specs.Flows.{lines_at, lines_of}
use Rattle.task_table.specs.Tables.{workers_of}
use Rattle.call_text.specs.declared.call.CallLine.TheVariants as call
use Rattle.live_core.specs.declared.error.CallError.{CallError}
use Rattle.live_core.specs.declared.error.CallError.TheVariants as ce
use Rattle.live_core.specs.Lives.{LiveView, Stands}
use Rattle.live_engine.specs.declared.live_line.LiveLine.{LiveLine}
use Rattle.call_journal.specs.Journals.{JournalView, noted}
use Rattle.live_engine.specs.declared.live_line.LiveLine.TheVariants as l
use Rattle.live_engine.specs.declared.counts.Counts.{Counts}
use Rattle.live_engine.specs.declared.answer_texts.Told.{Told}
use Rattle.live_engine.specs.declared.answer_texts.Told.TheVariants as told
use Rattle.live_engine.specs.declared.stops.PieceEnd.{PieceEnd}
use Rattle.live_engine.specs.declared.stops.PieceEnd.TheVariants as e
use Rattle.live_engine.specs.LiveLines.{LiveHistory, FitsLive, IsBeyond, IsCallLine, IsOverLimit, after_meant, meant, trace_length}

-- the executor stands where a history leads
pub record IsAt (workers : ℕ) (m : LiveView) (so_far : LiveHistory) : Type 0 where
  pub stands : Stands m so_far.calls so_far.past
  pub width : workers_of m.table ≡ workers

-- one history is another and this reply
pub record IsLonger (workers : ℕ) (new : LiveView) (so_far longer : LiveHistory) (r : Reply) : Type 0 where
  pub at : IsAt workers new longer
  pub lines : lines_of longer.calls longer.past ≡ lines_of so_far.calls so_far.past ++ lines_at new.table.moment r

-- a line is meant as it stands where so many numbers were given out: one that it cancels by a call was
abbrev pub IsMeant : ℕ → LiveLine → Type 0
IsMeant numbers (l.Call (call.Cancel task)) = task < numbers
IsMeant numbers line = Unit {0}

-- a line is taken after this history, with this reply: it is beyond no limit
pub record TakesAfter (workers : ℕ) (new : LiveView) (so_far : LiveHistory) (line : LiveLine) (r : Reply) : Type 0 where
  pub within : IsOverLimit workers so_far line → ⊥
  pub longer : IsLonger workers new so_far (after_meant workers so_far line) r

-- whatever history led here, a line is taken with this reply
abbrev pub TakesLine : LiveView → LiveView → LiveLine → Reply → Type 0
TakesLine old new line r = (workers : ℕ) (so_far : LiveHistory) → IsAt workers old so_far → TakesAfter workers new so_far line r

-- why a line is not taken after this history: want of memory is told only of a call for which there is room
abbrev pub IsNotTaken : PieceEnd → ℕ → LiveHistory → LiveLine → Type 0
IsNotTaken e.Part workers so_far line = ⊥
IsNotTaken e.Refused workers so_far line = ⊥
IsNotTaken e.Full workers so_far line = IsBeyond workers so_far line
IsNotTaken e.Memory workers so_far line = IsCallLine line × (IsBeyond workers so_far line → ⊥)

-- why the executor does not take a line, which knows nothing of the length of the trace: it lacks memory only for a call that
-- is answered by one line
abbrev pub IsNoStep : PieceEnd → ℕ → LiveHistory → LiveLine → Type 0
IsNoStep e.Part workers so_far line = ⊥
IsNoStep e.Refused workers so_far line = ⊥
IsNoStep e.Full workers so_far line = IsOverLimit workers so_far line
IsNoStep e.Memory workers so_far line = IsCallLine line × (IsOverLimit workers so_far line → ⊥) × (trace_length (after_meant workers so_far line) ≡ trace_length so_far + 1)

-- whatever history led here, the executor does not take a line, for this reason
abbrev pub Refuses : PieceEnd → LiveView → LiveLine → Type 0
Refuses end old line = (workers : ℕ) (so_far : LiveHistory) → IsAt workers old so_far → IsNoStep end workers so_far line

-- a journal once a line was taken: with the call that it makes, if it makes one, at this moment
abbrev pub noted_line : JournalView → LiveLine → ℕ → JournalView
noted_line journal (l.Event event) moment = journal
noted_line journal (l.Call call) moment = noted journal (record { moment = moment; call = call })

-- the lines of an answer: the one that is told, or those of the list
abbrev pub lines_told : Told → List Line → List Line
lines_told (told.One line) list = line ∷ []
lines_told told.Listed list = list

-- a line was taken as it is meant: it fits, there is room for it, and these are the lines of its answer; it was counted, and the call
-- that it makes was noted
pub record Answers (old new : LiveView) (line : LiveLine) (lines : List Line) (before after : Counts) (journal noted : JournalView) : Type 0 where
  pub reply : Reply
  pub takes : TakesLine old new (meant old.count line) reply
  pub fits : FitsLive line
  pub room : (workers : ℕ) (so_far : LiveHistory) → IsAt workers old so_far → before.written ≡ trace_length so_far → IsBeyond workers so_far (meant old.count line) → ⊥
  pub given : lines ≡ lines_at new.table.moment reply
  pub counts : after ≡ record { read = before.read + 1; written = before.written + length lines }
  pub notes : noted ≡ record (noted_line journal (meant old.count line) new.table.moment) { room = noted.room }

-- why a line is not taken whose call is not made for this reason; a line that fits, and is meant so, has no other than the last three
abbrev pub stop_of : CallError → PieceEnd
stop_of ce.Illegal = e.Refused
stop_of ce.TooLong = e.Refused
stop_of ce.NoTask = e.Refused
stop_of ce.TooFar = e.Full
stop_of ce.Full = e.Full
stop_of ce.Memory = e.Memory
