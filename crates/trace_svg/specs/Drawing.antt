-- What the drawing of a trace did. All of it is this project's rule.
use Rattle.std.specs.Prelude.{◌≡◌, ℕ, ◌<◌, List, map, Option, Some, None, unwrap_or, Result, Ok, Err, take}
use Rattle.std.specs.Io.KnownBytes.{Appends, Keeps}
use Rattle.plan_read.specs.Plans.{PlanTree}
use Rattle.plan_compile.specs.PlanCalls.{calls_of_plan}
use Rattle.executor_model.specs.Counts.{IsWorkerCount}
use Rattle.executor_model.specs.declared.types.Line.{Line}
use Rattle.byte_ends.specs.Ends.{AllGood, LastBad, NoneFailed}
use Rattle.plan_compile.specs.Submissions.{submissions_of_plan}
use Rattle.trace_check.specs.Findings.{Breaks, Conforms}
use Rattle.trace_check.specs.Lines.{AreSpelled}
use Rattle.trace_draw.specs.Pictures.{bars_within, crowd, marks_within, picture_of}
use Rattle.trace_draw.specs.Whole.{least_moment, greatest_moment}
use Rattle.trace_draw.specs.declared.window.Window.{Window}
use Rattle.trace_svg.specs.Shown.{svg_text}
use Rattle.trace_svg.specs.declared.view.View.{View}
use Rattle.trace_svg.specs.declared.report.Drawn.{Drawn}
use Rattle.trace_svg.specs.declared.report.Drawn.TheVariants as drawn
use Rattle.trace_svg.specs.declared.report.DrawError.{DrawError}
use Rattle.trace_svg.specs.declared.report.DrawError.TheVariants as error

-- a text is a trace of a plan with this many workers, and these are its lines
pub record IsTrace (plan : PlanTree) (workers : ℕ) (text : List ℕ) (lines : List Line) : Type 0 where
  pub conforms : Conforms (calls_of_plan plan) workers text
  pub spelled : AreSpelled text lines

-- where a view of lines begins and ends: where it says so, and else at their least and greatest moment
abbrev pub view_begins : View → List Line → ℕ
view_begins view lines = unwrap_or view.from (least_moment lines)

abbrev pub view_ends : View → List Line → ℕ
view_ends view lines = unwrap_or view.to (greatest_moment lines)

-- the window from the one to the other
pub record IsViewOf (view : View) (lines : List Line) (window : Window) : Type 0 where
  pub from : window.from ≡ view_begins view lines
  pub to : window.to ≡ view_ends view lines

-- how many marks, or else bars, are too many for a view
abbrev pub crowd_of : View → List Line → Window → Option ℕ
crowd_of view lines window = crowd view.marks (marks_within window lines) (bars_within window lines)

-- the names of a plan's tasks, by their numbers
abbrev pub task_names : PlanTree → List (List ℕ)
task_names plan = map (λ s. s.name) (submissions_of_plan plan)

-- the picture of a trace
pub record IsPictureOf (plan : PlanTree) (workers : ℕ) (text : List ℕ) (view : View) (svg : List ℕ) : Type 0 where
  pub lines : List Line
  pub trace : IsTrace plan workers text lines
  pub window : Window
  pub views : IsViewOf view lines window
  pub fits : crowd_of view lines window ≡ None
  pub spelled : svg ≡ svg_text (picture_of lines workers window) (task_names plan)

-- a view of a trace ends before it begins
pub record EndsFirst (plan : PlanTree) (workers : ℕ) (text : List ℕ) (view : View) : Type 0 where
  pub lines : List Line
  pub trace : IsTrace plan workers text lines
  pub before : view_ends view lines < view_begins view lines

-- a view of a trace shows more than it may
pub record IsCrowded (plan : PlanTree) (workers : ℕ) (text : List ℕ) (view : View) (marks : ℕ) : Type 0 where
  pub lines : List Line
  pub trace : IsTrace plan workers text lines
  pub window : Window
  pub views : IsViewOf view lines window
  pub over : crowd_of view lines window ≡ Some marks

-- why there is no picture
abbrev pub RefusesPicture : DrawError → PlanTree → ℕ → List ℕ → View → Type 0
RefusesPicture error.Workers plan workers text view = ¬ IsWorkerCount workers
RefusesPicture error.Window plan workers text view = EndsFirst plan workers text view
RefusesPicture (error.Crowded marks) plan workers text view = IsCrowded plan workers text view marks
RefusesPicture error.Write plan workers text view = ⊥
RefusesPicture error.Memory plan workers text view = Unit {0}

-- what was done: the whole picture was written, or nothing, or a front of the picture where the writer was at fault
abbrev pub Draws : Result Drawn DrawError → PlanTree → ℕ → List ℕ → View → Option (List ℕ) → Option (List ℕ) → Type 0
Draws (Ok drawn.Drawn) plan workers text view old new = (svg : List ℕ) × IsPictureOf plan workers text view svg × Appends old new svg
Draws (Ok (drawn.Breaks line)) plan workers text view old new = Breaks (calls_of_plan plan) workers text line × Keeps old new
Draws (Err error.Write) plan workers text view old new = (svg : List ℕ) × IsPictureOf plan workers text view svg × (n : ℕ) × Appends old new (take n svg)
Draws (Err e) plan workers text view old new = RefusesPicture e plan workers text view × Keeps old new

-- what the calls of the writer count: what good tries do, the last of which was bad at `Write`; nothing where there is no picture
abbrev pub CountsDrawing : Result Drawn DrawError → ℕ → ℕ → ℕ → ℕ → Type 0
CountsDrawing (Ok drawn.Drawn) failed fruitless failed' fruitless' = AllGood failed fruitless failed' fruitless'
CountsDrawing (Err error.Write) failed fruitless failed' fruitless' = LastBad failed fruitless failed' fruitless'
CountsDrawing _ failed fruitless failed' fruitless' = NoneFailed 0 failed fruitless failed' fruitless'
