-- What a picture of lines shows. The lines stand in the order of the trace, the oldest first. All of it is this project's rule.
use Rattle.std.specs.Prelude.{ℕ, nat_lt, if◌then◌else◌, List, length, Option, Some, None}
use Rattle.std.specs.List.{filter}
use Rattle.executor_model.specs.declared.types.Line.{Line}
use Rattle.trace_draw.specs.declared.bars.Bar.{Bar}
use Rattle.trace_draw.specs.declared.ticks.Tick.{Tick}
use Rattle.trace_draw.specs.declared.window.Window.{Window}
use Rattle.trace_draw.specs.declared.error.PictureError.{PictureError}
use Rattle.trace_draw.specs.declared.error.PictureError.TheVariants.{Crowded, Memory}
use Rattle.trace_draw.specs.Bars.{bars_of, shows_bar}
use Rattle.trace_draw.specs.Marks.{marks_of, shows_line}
use Rattle.trace_draw.specs.Ticks.{ticks_of}

-- what a picture shows: a part of time, a lane for each worker, the bars and the marks, and an axis
pub record Shown : Type 0 where
  pub window : Window
  pub workers : ℕ
  pub bars : List Bar
  pub marks : List Line
  pub ticks : List Tick

-- the bars of lines of which a window shows a part, in their order
abbrev pub bars_within : Window → List Line → List Bar
bars_within window lines = filter (shows_bar window) (bars_of lines)

-- the marks of lines that a window shows, in their order
abbrev pub marks_within : Window → List Line → List Line
marks_within window lines = filter (shows_line window) (marks_of lines)

-- the picture of lines
abbrev pub picture_of : List Line → ℕ → Window → Shown
picture_of lines workers window = record { window = window; workers = workers; bars = bars_within window lines; marks = marks_within window lines; ticks = ticks_of window }

-- a number that is more than it may be
abbrev pub excess : ℕ → ℕ → Option ℕ
excess most number = if nat_lt most number then Some number else None

-- too many for a picture: the number of its marks where they are more than it may have, else that of its bars where they are
abbrev pub crowd : ℕ → List Line → List Bar → Option ℕ
crowd most marks bars = if nat_lt most (length marks) then Some (length marks) else excess most (length bars)

-- the number that an error tells
abbrev pub crowd_told : PictureError → Option ℕ
crowd_told (Crowded marks) = Some marks
crowd_told Memory = None
