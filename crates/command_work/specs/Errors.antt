-- Errors: what the program's errors come to, and their exit statuses.
-- All of it is this project's rule.
use Rattle.std.specs.Prelude.{◌≡◌, ◌≢◌, ℕ, ◌⊎◌}
use Rattle.std.specs.IoError.{error_kind}
use Rattle.std.specs.declared.io.Error.{Error}
use Rattle.std.specs.declared.io.ErrorKind.TheVariants.{OutOfMemory}
use Rattle.command_work.specs.declared.error.ProgramError.{ProgramError}
use Rattle.command_work.specs.declared.error.ProgramError.TheVariants as f
use Rattle.plan_read.specs.declared.faults.PlanFaultKind.TheVariants as kinds
use Rattle.sched_engine.specs.declared.report.RunError.{RunError}
use Rattle.sched_engine.specs.declared.report.RunError.TheVariants as x
use Rattle.trace_svg.specs.declared.report.DrawError.{DrawError}
use Rattle.trace_svg.specs.declared.report.DrawError.TheVariants as d

-- the exit status that goes with an error: 2 for the command line, else 1
abbrev pub status_of : ProgramError → ℕ
status_of f.Arguments = 2
status_of f.LintOptions = 2
status_of f.PlanFile = 1
status_of f.PlanUnwritten = 1
status_of f.TraceFile = 1
status_of f.TraceTooLong = 1
status_of f.EndsFirst = 1
status_of (f.Crowded marks) = 1
status_of (f.Run e) = 1

-- why a run ended is the program's error; want of memory while the plan is read is want of memory, and says nothing of the plan
abbrev pub IsToldAs : RunError → ProgramError → Type 0
IsToldAs (x.Plan fault) told = (fault.kind ≡ kinds.Memory → told ≡ f.Run x.Memory) × (fault.kind ≢ kinds.Memory → told ≡ f.Run (x.Plan fault))
IsToldAs error told = told ≡ f.Run error

-- why there is no picture is the program's error
abbrev pub of_drawing : DrawError → ProgramError
of_drawing d.Workers = f.Run x.Workers
of_drawing d.Window = f.EndsFirst
of_drawing (d.Crowded marks) = f.Crowded marks
of_drawing d.Write = f.Run x.Write
of_drawing d.Memory = f.Run x.Memory

-- an error of the system is want of memory where its kind is that, and else another that is given
abbrev pub IsOfSystem : Error → ProgramError → ProgramError → Type 0
IsOfSystem error other told = (error_kind error ≡ OutOfMemory → told ≡ f.Run x.Memory) × (error_kind error ≢ OutOfMemory → told ≡ other)

-- an error is this one, or want of memory
abbrev pub IsOrMemory : ProgramError → ProgramError → Type 0
IsOrMemory fault told = (told ≡ fault) ⊎ (told ≡ f.Run x.Memory)
