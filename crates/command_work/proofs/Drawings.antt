-- Drawings: how the drawing of a trace is told, by what it did.
use Rattle.std.proofs.Common.{ℕ, List, Option, Some, None, Result, Ok, Err, inl, inr, refl, ◌∙◌}
use Rattle.std.specs.Io.KnownBytes.{Appends, Keeps}
use Rattle.plan_read.specs.Plans.{PlanTree}
use Rattle.plan_compile.specs.PlanCalls.{calls_of_plan}
use Rattle.trace_check.specs.Findings.{Breaks}
use Rattle.trace_check.specs.declared.finding.Finding.TheVariants as finding
use Rattle.trace_svg.specs.Drawing.{Draws}
use Rattle.trace_svg.specs.declared.report.DrawError.{DrawError}
use Rattle.trace_svg.specs.declared.report.DrawError.TheVariants as d
use Rattle.trace_svg.specs.declared.view.View.{View}
use Rattle.sched_engine.specs.declared.report.RunError.TheVariants as x
use Rattle.command_work.specs.Drawings.{IsDrawnAsAsked}
use Rattle.command_work.specs.Errors.{of_drawing}
use Rattle.command_work.specs.Findings.{IsFindingTold}
use Rattle.command_work.specs.declared.error.ProgramError.{ProgramError}
use Rattle.command_work.specs.declared.error.ProgramError.TheVariants as f

-- what stays and then grows has grown
pub keeps_then_appends : (old mid new : Option (List ℕ)) (text : List ℕ) → Keeps old mid → Appends mid new text → Appends old new text
keeps_then_appends None mid new text stays grows = tt
keeps_then_appends (Some a) None new text stays grows = absurd stays
keeps_then_appends (Some a) (Some b) None text stays grows = absurd grows
keeps_then_appends (Some a) (Some b) (Some c) text stays grows = rw stays at grows

-- what stays twice stays
pub keeps_then_keeps : (old mid new : Option (List ℕ)) → Keeps old mid → Keeps mid new → Keeps old new
keeps_then_keeps None mid new stays also = tt
keeps_then_keeps (Some a) None new stays also = absurd stays
keeps_then_keeps (Some a) (Some b) None stays also = absurd also
keeps_then_keeps (Some a) (Some b) (Some c) stays also = also ∙ stays

-- nothing was drawn, and then told that the trace breaks
pub drawn_as_told : (result : Result ℕ ProgramError) (plan : PlanTree) (workers : ℕ) (trace : List ℕ) (view : View) (line : ℕ) (old mid new : Option (List ℕ))
    → Breaks (calls_of_plan plan) workers trace line → Keeps old mid → IsFindingTold result (finding.Breaks line) mid new
    → IsDrawnAsAsked result plan workers trace view old new
drawn_as_told (Ok status) plan workers trace view line old mid new breaks stays told = (_, inr (told.0, line, breaks, refl), keeps_then_appends old mid new _ stays told.1)
drawn_as_told (Err (f.Run x.Write)) plan workers trace view line old mid new breaks stays told =
    (_, 1, inr (refl, line, breaks, refl), told.0, keeps_then_appends old mid new _ stays told.1)
drawn_as_told (Err (f.Run x.Memory)) plan workers trace view line old mid new breaks stays told = keeps_then_keeps old mid new stays told
drawn_as_told (Err (f.Run x.Workers)) plan workers trace view line old mid new breaks stays told = absurd told
drawn_as_told (Err (f.Run (x.Plan fault))) plan workers trace view line old mid new breaks stays told = absurd told
drawn_as_told (Err (f.Run x.Limit)) plan workers trace view line old mid new breaks stays told = absurd told
drawn_as_told (Err (f.Run (x.EventLine n))) plan workers trace view line old mid new breaks stays told = absurd told
drawn_as_told (Err (f.Run x.Full)) plan workers trace view line old mid new breaks stays told = absurd told
drawn_as_told (Err (f.Run x.Read)) plan workers trace view line old mid new breaks stays told = absurd told
drawn_as_told (Err (f.Run x.Lost)) plan workers trace view line old mid new breaks stays told = absurd told
drawn_as_told (Err f.Arguments) plan workers trace view line old mid new breaks stays told = absurd told
drawn_as_told (Err f.LintOptions) plan workers trace view line old mid new breaks stays told = absurd told
drawn_as_told (Err f.PlanFile) plan workers trace view line old mid new breaks stays told = absurd told
drawn_as_told (Err f.PlanUnwritten) plan workers trace view line old mid new breaks stays told = absurd told
drawn_as_told (Err f.TraceFile) plan workers trace view line old mid new breaks stays told = absurd told
drawn_as_told (Err f.TraceTooLong) plan workers trace view line old mid new breaks stays told = absurd told
drawn_as_told (Err f.EndsFirst) plan workers trace view line old mid new breaks stays told = absurd told
drawn_as_told (Err (f.Crowded marks)) plan workers trace view line old mid new breaks stays told = absurd told

-- a fault of the drawing is told
pub drawn_as_refused : (fault : DrawError) (plan : PlanTree) (workers : ℕ) (trace : List ℕ) (view : View) (old new : Option (List ℕ))
    → Draws (Err fault) plan workers trace view old new → IsDrawnAsAsked (Err (of_drawing fault)) plan workers trace view old new
drawn_as_refused d.Workers plan workers trace view old new draws = draws
drawn_as_refused d.Window plan workers trace view old new draws = draws
drawn_as_refused (d.Crowded marks) plan workers trace view old new draws = draws
drawn_as_refused d.Write plan workers trace view old new draws = (draws.0, 0, inl (refl, draws.1), draws.2, draws.3)
drawn_as_refused d.Memory plan workers trace view old new draws = draws.1
