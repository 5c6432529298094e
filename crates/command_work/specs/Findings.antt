-- Findings: how a check of a trace is told.
-- All of it is this project's rule.
use Rattle.std.specs.Prelude.{◌≡◌, ℕ, List, ◌++◌, Option, Result, Ok, Err, codes, take}
use Rattle.std.specs.Fmt.{decimal}
use Rattle.std.specs.Io.KnownBytes.{Appends, Keeps}
use Rattle.executor_model.specs.Counts.{IsWorkerCount}
use Rattle.plan_read.specs.Plans.{PlanTree}
use Rattle.plan_compile.specs.PlanCalls.{calls_of_plan}
use Rattle.trace_check.specs.Findings.{Finds}
use Rattle.trace_check.specs.declared.finding.Finding.{Finding}
use Rattle.trace_check.specs.declared.finding.Finding.TheVariants.{Conforms, Breaks}
use Rattle.sched_engine.specs.declared.report.RunError.TheVariants as x
use Rattle.command_work.specs.declared.error.ProgramError.{ProgramError}
use Rattle.command_work.specs.declared.error.ProgramError.TheVariants.{Run}

-- the line that tells a finding
abbrev pub finding_text : Finding → List ℕ
finding_text Conforms = codes "conforms\n"
finding_text (Breaks line) = codes "breaks " ++ (decimal line ++ codes "\n")

-- the exit status that tells a finding
abbrev pub finding_status : Finding → ℕ
finding_status Conforms = 0
finding_status (Breaks line) = 1

-- how a finding is told: it is written, and told by the status. Where the writer is at fault a front of it was written, and nothing
-- where memory ran out
abbrev pub IsFindingTold : Result ℕ ProgramError → Finding → Option (List ℕ) → Option (List ℕ) → Type 0
IsFindingTold (Ok status) finding old new = (status ≡ finding_status finding) × Appends old new (finding_text finding)
IsFindingTold (Err (Run x.Write)) finding old new = (n : ℕ) × Appends old new (take n (finding_text finding))
IsFindingTold (Err (Run x.Memory)) finding old new = Keeps old new
IsFindingTold (Err fault) finding old new = ⊥

-- how a check of a trace against a plan is told: what is found is written, and told by the status. Where the writer is at fault a front
-- of it was written, and nothing where the number of workers is out of range or memory ran out
abbrev pub IsCheckedAsAsked : Result ℕ ProgramError → PlanTree → ℕ → List ℕ → Option (List ℕ) → Option (List ℕ) → Type 0
IsCheckedAsAsked (Ok status) plan workers trace old new =
    (finding : Finding) × Finds (calls_of_plan plan) workers trace finding × (status ≡ finding_status finding) × Appends old new (finding_text finding)
IsCheckedAsAsked (Err (Run x.Write)) plan workers trace old new =
    (finding : Finding) × Finds (calls_of_plan plan) workers trace finding × (n : ℕ) × Appends old new (take n (finding_text finding))
IsCheckedAsAsked (Err (Run x.Workers)) plan workers trace old new = (¬ IsWorkerCount workers) × Keeps old new
IsCheckedAsAsked (Err (Run x.Memory)) plan workers trace old new = Keeps old new
IsCheckedAsAsked (Err fault) plan workers trace old new = ⊥
