-- The runs and the marks of a picture. All of it is this project's rule. A text is grouped to the right.
use Rattle.std.specs.Prelude.{ℕ, ◌+◌, ◌-◌, ◌/◌, nat_le, if◌then◌else◌, List, [], ◌++◌, Option, Some, None, unwrap_or, slice_get, length, codes}
use Rattle.std.specs.Fmt.{decimal}
use Rattle.executor_model.specs.declared.types.Answer.TheVariants as a
use Rattle.executor_model.specs.declared.types.Line.{Line}
use Rattle.executor_model.specs.declared.types.Message.TheVariants as m
use Rattle.executor_model.specs.declared.types.Outcome.{Outcome}
use Rattle.executor_model.specs.declared.types.Outcome.TheVariants as outcome
use Rattle.trace_text.specs.Spelling.{line_text}
use Rattle.trace_svg.specs.declared.elements.words.Fill.{Fill}
use Rattle.trace_svg.specs.declared.elements.words.Fill.TheVariants as fill
use Rattle.trace_svg.specs.declared.elements.words.Face.TheVariants as face
use Rattle.trace_svg.specs.elements.Elements.{rectangle_text, mark_text, label_text}
use Rattle.trace_draw.specs.declared.bars.Bar.{Bar}
use Rattle.trace_draw.specs.declared.bars.Finish.{Finish}
use Rattle.trace_draw.specs.declared.window.Window.{Window}
use Rattle.trace_svg.specs.Places.{across, bar_width, glyph_of, height_of, lane_top}

-- the name of a task, and `?` where there is none
abbrev pub name_of : List (List ℕ) → ℕ → List ℕ
name_of names task = unwrap_or (slice_get names task) (codes "?")

-- what a run led to, as a colour
abbrev pub fill_by : Outcome → Fill
fill_by (outcome.Done value) = fill.Done
fill_by (outcome.Failed code) = fill.Failed
fill_by (outcome.Again due) = fill.Again
fill_by outcome.Dropped = fill.Dropped
fill_by outcome.Ended = fill.Ended

abbrev pub fill_of : Option Finish → Fill
fill_of (Some finish) = fill_by finish.outcome
fill_of None = fill.Open

-- the trace's line that starts a run
abbrev pub start_line : Bar → Line
start_line bar = record { moment = bar.first; message = m.Answer (a.Start bar.worker bar.task bar.run bar.due) }

-- that which finishes it
abbrev pub finish_line : Bar → Finish → Line
finish_line bar finish = record { moment = finish.moment; message = m.Answer (a.Finish bar.worker bar.task bar.run finish.outcome) }

-- the tooltip of a bar: the name of its task, and the trace's own lines of its run, one or two
abbrev pub tip_by : List ℕ → Bar → Option Finish → List ℕ
tip_by name bar (Some finish) = name ++ (codes "\n" ++ (line_text (start_line bar) ++ line_text (finish_line bar finish)))
tip_by name bar None = name ++ (codes "\n" ++ line_text (start_line bar))

abbrev pub bar_tip : List ℕ → Bar → List ℕ
bar_tip name bar = tip_by name bar bar.finish

-- the label of a run
abbrev pub run_label : List ℕ → ℕ → List ℕ
run_label name run = name ++ (codes " #" ++ decimal run)

-- how many letters fit into a bar of this width
abbrev pub letters_in : ℕ → ℕ
letters_in width = (width - 8) / 7

-- the bar of a run of the task with this name
abbrev pub bar_shape : Window → List ℕ → Bar → List ℕ
bar_shape window name bar = rectangle_text (fill_of bar.finish) (across window bar.first) (lane_top bar.worker) (bar_width window bar) 22 (bar_tip name bar)

-- its label, and none where that does not fit
abbrev pub bar_label : Window → List ℕ → Bar → List ℕ
bar_label window name bar =
    if nat_le (length (run_label name bar.run)) (letters_in (bar_width window bar)) then label_text face.Run (across window bar.first + 4) (lane_top bar.worker + 15) (run_label name bar.run) else []

-- both
abbrev pub named_bar_text : Window → List ℕ → Bar → List ℕ
named_bar_text window name bar = bar_shape window name bar ++ bar_label window name bar

-- the bar of a run, where these are the names of the tasks
unfoldable pub bar_text : Window → List (List ℕ) → Bar → List ℕ
bar_text window names bar = named_bar_text window (name_of names bar.task) bar

-- the mark of a line, with a tooltip
abbrev pub telling_mark : Window → List ℕ → Line → List ℕ
telling_mark window tip line = mark_text (glyph_of line.message) (across window line.moment) (height_of (glyph_of line.message)) tip

-- the mark of a line, and the line as its tooltip
abbrev pub line_mark : Window → Line → List ℕ
line_mark window line = telling_mark window (line_text line) line
