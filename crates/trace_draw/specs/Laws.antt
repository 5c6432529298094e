-- What holds of the pictures of a trace. The lines stand in the order of the trace, the oldest first.
-- All of it is this project's rule.
use Rattle.std.specs.Prelude.{◌≡◌, ℕ, ◌+◌, ◌<◌, ◌≤◌, ◌==◌, ◌&&◌, Bool, true, false, List, ◌∷◌, ◌++◌, length, Some, slice_get, is_some}
use Rattle.queue_code.specs.Calls.{Planned, IsOrderly, IsPlanned, how_many}
use Rattle.executor_model.specs.Counts.{IsWorkerCount}
use Rattle.executor_model.specs.declared.types.Answer.{Answer}
use Rattle.executor_model.specs.declared.types.Answer.TheVariants as a
use Rattle.executor_model.specs.declared.types.Line.{Line}
use Rattle.executor_model.specs.declared.types.Message.{Message}
use Rattle.executor_model.specs.declared.types.Message.TheVariants as m
use Rattle.executor_model.specs.Histories.{HistoryEntry, IsHistoryOf}
use Rattle.executor_model.specs.Flows.{answer_line, lines_of}
use Rattle.executor_laws.specs.Positions.{finishes_by}
use Rattle.trace_check.specs.Findings.{Conforms}
use Rattle.trace_check.specs.Lines.{AreSpelled}
use Rattle.trace_draw.specs.declared.bars.Bar.{Bar}
use Rattle.trace_draw.specs.declared.bars.Finish.{Finish}
use Rattle.trace_draw.specs.declared.window.Window.{Window}
use Rattle.trace_draw.specs.Bars.{finish_of, bars_of, shows_bar}
use Rattle.trace_draw.specs.Marks.{is_mark, marks_of, shows_line}
use Rattle.trace_draw.specs.Pictures.{marks_within, picture_of}

-- these are the lines of a history that means the calls
pub record IsTraceOf (calls : List Planned) (workers : ℕ) (lines : List Line) : Type 0 where
  pub past : List HistoryEntry
  pub means : IsHistoryOf calls workers past
  pub are : lines ≡ lines_of calls past

-- the lines of a text that conforms are such
abbrev pub ConformingTextsAreTraces : Type 0
ConformingTextsAreTraces = (calls : List Planned) (workers : ℕ) (text : List ℕ) (lines : List Line) → IsPlanned calls → IsWorkerCount workers
    → Conforms calls workers text → AreSpelled text lines → IsTraceOf calls workers lines

-- ---- moments

-- no line has a moment below that of one before it
abbrev pub MomentsDoNotFall : Type 0
MomentsDoNotFall = (calls : List Planned) (workers : ℕ) (lines : List Line) (i j : ℕ) (one other : Line) → IsTraceOf calls workers lines
    → i ≤ j → slice_get lines i ≡ Some one → slice_get lines j ≡ Some other → one.moment ≤ other.moment

-- ---- bars

-- the line with which a run starts
abbrev pub start_line : Bar → Line
start_line bar = answer_line bar.first (a.Start bar.worker bar.task bar.run bar.due)

-- the line with which it finishes
abbrev pub finish_line : Bar → Finish → Line
finish_line bar finish = answer_line finish.moment (a.Finish bar.worker bar.task bar.run finish.outcome)

-- the line that starts a bar stands among the lines, and its finish is the first by its worker behind it
pub record StartsIn (lines : List Line) (bar : Bar) : Type 0 where
  pub before : List Line
  pub later : List Line
  pub parts : lines ≡ before ++ start_line bar ∷ later
  pub finish : bar.finish ≡ finish_of bar.worker later

-- each bar stands for a start of a run
abbrev pub BarsStart : Type 0
BarsStart = (lines : List Line) (i : ℕ) (bar : Bar) → slice_get (bars_of lines) i ≡ Some bar → StartsIn lines bar

-- each start of a run has its bar in each picture whose window shows a part of the run
abbrev pub StartsHaveBars : Type 0
StartsHaveBars = (lines : List Line) (workers : ℕ) (window : Window) (bar : Bar) → StartsIn lines bar → shows_bar window bar ≡ true
    → (i : ℕ) × (slice_get (picture_of lines workers window).bars i ≡ Some bar)

-- a picture has no other bars
abbrev pub BarsMeetTheWindow : Type 0
BarsMeetTheWindow = (lines : List Line) (workers : ℕ) (window : Window) (i : ℕ) (bar : Bar)
    → slice_get (picture_of lines workers window).bars i ≡ Some bar → StartsIn lines bar × (shows_bar window bar ≡ true)

-- of two bars not both the task and the run are the same
abbrev pub NoRunHasTwoBars : Type 0
NoRunHasTwoBars = (calls : List Planned) (workers : ℕ) (lines : List Line) (i j : ℕ) (one other : Bar) → IsTraceOf calls workers lines
    → i < j → slice_get (bars_of lines) i ≡ Some one → slice_get (bars_of lines) j ≡ Some other → one.task ≡ other.task → one.run ≡ other.run → ⊥

-- the worker of a bar is one of the workers
abbrev pub BarsAreInLanes : Type 0
BarsAreInLanes = (calls : List Planned) (workers : ℕ) (lines : List Line) (i : ℕ) (bar : Bar) → IsOrderly calls → IsTraceOf calls workers lines
    → slice_get (bars_of lines) i ≡ Some bar → bar.worker < workers

-- the line that finishes a bar stands behind the one that starts it, at no lower moment: it is of the same worker, task and run
pub record FinishesIn (lines : List Line) (bar : Bar) (finish : Finish) : Type 0 where
  pub before : List Line
  pub between : List Line
  pub behind : List Line
  pub parts : lines ≡ before ++ start_line bar ∷ (between ++ finish_line bar finish ∷ behind)
  pub later : bar.first ≤ finish.moment

-- each bar that has a finish ends with that of its own run
abbrev pub FinishesAreTheirOwn : Type 0
FinishesAreTheirOwn = (calls : List Planned) (workers : ℕ) (lines : List Line) (i : ℕ) (bar : Bar) (finish : Finish) → IsTraceOf calls workers lines
    → slice_get (bars_of lines) i ≡ Some bar → bar.finish ≡ Some finish → FinishesIn lines bar finish

-- a bar is over before another begins
pub record IsOverBefore (one other : Bar) : Type 0 where
  pub finish : Finish
  pub has : one.finish ≡ Some finish
  pub over : finish.moment ≤ other.first

-- of two bars in one lane the one that stands first is over before the other begins
abbrev pub BarsDoNotOverlap : Type 0
BarsDoNotOverlap = (calls : List Planned) (workers : ℕ) (lines : List Line) (i j : ℕ) (one other : Bar) → IsTraceOf calls workers lines
    → i < j → slice_get (bars_of lines) i ≡ Some one → slice_get (bars_of lines) j ≡ Some other → one.worker ≡ other.worker → IsOverBefore one other

-- ---- marks

-- a line is a mark, and as many lines before it are marks that the window shows as the index says: it starts no run, finishes none
-- and is no purge, and the window shows it
pub record IsMarkAt (lines : List Line) (window : Window) (i : ℕ) (line : Line) : Type 0 where
  pub before : List Line
  pub later : List Line
  pub parts : lines ≡ before ++ line ∷ later
  pub mark : is_mark line.message ≡ true
  pub shown : shows_line window line ≡ true
  pub index : i ≡ length (marks_within window before)

-- each such line has its mark in a picture, there
abbrev pub LinesHaveMarks : Type 0
LinesHaveMarks = (lines : List Line) (workers : ℕ) (window : Window) (i : ℕ) (line : Line) → IsMarkAt lines window i line
    → slice_get (picture_of lines workers window).marks i ≡ Some line

-- a picture has no other marks
abbrev pub MarksAreLines : Type 0
MarksAreLines = (lines : List Line) (workers : ℕ) (window : Window) (i : ℕ) (line : Line) → slice_get (picture_of lines workers window).marks i ≡ Some line
    → IsMarkAt lines window i line

-- ---- each line is shown once, but a purge

-- what a line says is that a worker finished a run
abbrev pub tells_finish_by : ℕ → Message → Bool
tells_finish_by w (m.Answer answer) = finishes_by w answer
tells_finish_by w (m.End task) = false

-- an answer says that a run was finished
abbrev pub finishes_some : Answer → Bool
finishes_some (a.Finish worker task run outcome) = true
finishes_some _ = false

-- the same of what a line says
abbrev pub tells_finish : Message → Bool
tells_finish (m.Answer answer) = finishes_some answer
tells_finish (m.End task) = false

-- what a line says is that there was a purge, for which nothing is drawn
abbrev pub tells_purge : Message → Bool
tells_purge (m.Answer a.Purge) = true
tells_purge _ = false

-- the lines are as many as the bars, the finishes, the marks and the purges
abbrev pub LinesAreCounted : Type 0
LinesAreCounted = (lines : List Line)
    → length lines ≡ length (bars_of lines) + (how_many (λ line. tells_finish line.message) lines + (how_many (λ line. tells_purge line.message) lines + length (marks_of lines)))

-- a bar is of a worker, and has a finish
abbrev pub is_finished_of : ℕ → Bar → Bool
is_finished_of w bar = (bar.worker == w) && is_some bar.finish

-- a worker has as many finishes as bars that have one
abbrev pub FinishesAreCounted : Type 0
FinishesAreCounted = (calls : List Planned) (workers : ℕ) (lines : List Line) (w : ℕ) → IsTraceOf calls workers lines
    → how_many (λ line. tells_finish_by w line.message) lines ≡ how_many (is_finished_of w) (bars_of lines)
