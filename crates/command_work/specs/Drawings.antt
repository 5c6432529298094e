-- Drawings: how the drawing of a trace is told.
-- All of it is this project's rule.
use Rattle.std.specs.Prelude.{◌≡◌, ℕ, ◌⊎◌, List, Option, Result, Ok, Err, take}
use Rattle.std.specs.Io.KnownBytes.{Appends, Keeps}
use Rattle.executor_model.specs.Counts.{IsWorkerCount}
use Rattle.plan_read.specs.Plans.{PlanTree}
use Rattle.plan_compile.specs.PlanCalls.{calls_of_plan}
use Rattle.trace_check.specs.Findings.{Breaks}
use Rattle.trace_check.specs.declared.finding.Finding.TheVariants as finding
use Rattle.trace_svg.specs.Drawing.{EndsFirst, IsCrowded, IsPictureOf}
use Rattle.trace_svg.specs.declared.view.View.{View}
use Rattle.sched_engine.specs.declared.report.RunError.TheVariants as x
use Rattle.command_work.specs.Findings.{finding_text}
use Rattle.command_work.specs.declared.error.ProgramError.{ProgramError}
use Rattle.command_work.specs.declared.error.ProgramError.TheVariants as f

-- what is written of a trace, and the exit status that tells it: its picture and 0, or, where it is no trace of the plan, the line
-- at which it breaks, as `check` tells that, and 1
abbrev pub ShowsTrace : PlanTree → ℕ → List ℕ → View → List ℕ → ℕ → Type 0
ShowsTrace plan workers trace view text status =
    ((status ≡ 0) × IsPictureOf plan workers trace view text)
    ⊎ ((status ≡ 1) × (line : ℕ) × Breaks (calls_of_plan plan) workers trace line × (text ≡ finding_text (finding.Breaks line)))

-- how the drawing of a trace is told: what is shown of it is written, and told by the status. Where the writer is at fault a front of
-- it was written, and nothing where the picture ends before it begins, where it shows more than it may, where the number of workers is
-- out of range or where memory ran out
abbrev pub IsDrawnAsAsked : Result ℕ ProgramError → PlanTree → ℕ → List ℕ → View → Option (List ℕ) → Option (List ℕ) → Type 0
IsDrawnAsAsked (Ok status) plan workers trace view old new = (text : List ℕ) × ShowsTrace plan workers trace view text status × Appends old new text
IsDrawnAsAsked (Err (f.Run x.Write)) plan workers trace view old new =
    (text : List ℕ) × (status : ℕ) × ShowsTrace plan workers trace view text status × (n : ℕ) × Appends old new (take n text)
IsDrawnAsAsked (Err f.EndsFirst) plan workers trace view old new = EndsFirst plan workers trace view × Keeps old new
IsDrawnAsAsked (Err (f.Crowded marks)) plan workers trace view old new = IsCrowded plan workers trace view marks × Keeps old new
IsDrawnAsAsked (Err (f.Run x.Workers)) plan workers trace view old new = (¬ IsWorkerCount workers) × Keeps old new
IsDrawnAsAsked (Err (f.Run x.Memory)) plan workers trace view old new = Keeps old new
IsDrawnAsAsked (Err fault) plan workers trace view old new = ⊥
