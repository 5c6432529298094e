-- Order: which fault each command tells: the first one of a list.
-- All of it is this project's rule.
use Rattle.std.specs.Prelude.{◌≡◌, ℕ, ◌⊎◌, Bool, false, ◌&&◌, nat_le, nat_lt, List, [], ◌∷◌, length, Option, is_some, unwrap_or, Result, Err}
use Rattle.std.specs.Io.KnownBytes.{Keeps}
use Rattle.executor_model.specs.Counts.{most_workers}
use Rattle.plan_read.specs.Migrating.{MigrationFails}
use Rattle.plan_read.specs.Plans.{PlanTree}
use Rattle.plan_read.specs.Texts.{TextWrites, TextFails}
use Rattle.plan_read.specs.declared.faults.PlanFault.{PlanFault}
use Rattle.sched_engine.specs.Running.{IsUntouched}
use Rattle.sched_engine.specs.declared.report.RunError.TheVariants as x
use Rattle.command_line.specs.declared.arguments.RunArguments.{RunArguments}
use Rattle.command_work.specs.declared.error.ProgramError.{ProgramError}
use Rattle.command_work.specs.declared.error.ProgramError.TheVariants.{PlanFile, TraceFile, TraceTooLong, Run}
use Rattle.command_work.specs.Answers.{ListedAsAsked, MigratedAsAsked, PooledAsAsked, RanAsAsked, ToldTasksAsAsked}
use Rattle.command_work.specs.Drawings.{IsDrawnAsAsked}
use Rattle.command_work.specs.Findings.{IsCheckedAsAsked}
use Rattle.trace_check.specs.Standing.{most_bytes}
use Rattle.trace_svg.specs.declared.view.View.{View}

-- ---- the steps of a command, each as the faults that it may tell. What was read of a file is its bytes, or nothing where it can't be
-- read

-- a step of a command: which faults it tells
abbrev pub Step : Type 1
Step = ProgramError → Type 0

infixr 8 ◌barring◌
-- this fault, barring a test holds
abbrev pub ◌barring◌ : ProgramError → Bool → Step
(fault barring holds) told = (holds ≡ false) × (told ≡ fault)

-- the bytes that were read of a file
abbrev pub bytes_of : Option (List ℕ) → List ℕ
bytes_of read = unwrap_or read []

-- the fault of a plan's text
abbrev pub PlanFails : List ℕ → Step
PlanFails text told = (fault : PlanFault) × TextFails text fault × (told ≡ Run (x.Plan fault))

-- the fault of the migration of a plan's text
abbrev pub MigrationTold : List ℕ → Step
MigrationTold text told = (fault : PlanFault) × MigrationFails text fault × (told ≡ Run (x.Plan fault))

-- there may be this many workers
abbrev pub is_worker_count : ℕ → Bool
is_worker_count workers = nat_le 1 workers && nat_le workers most_workers

-- the faults of `sched code` and of `sched tasks`
abbrev pub code_faults : Option (List ℕ) → List Step
code_faults plan =
    (PlanFile barring is_some plan)
    ∷ PlanFails (bytes_of plan)
    ∷ []

-- the faults of `sched migrate`
abbrev pub migrate_faults : Option (List ℕ) → List Step
migrate_faults plan =
    (PlanFile barring is_some plan)
    ∷ MigrationTold (bytes_of plan)
    ∷ []

-- the faults of `sched run` and of `sched pool`, before an event is read
abbrev pub run_faults : Option (List ℕ) → ℕ → ℕ → List Step
run_faults plan workers limit =
    (PlanFile barring is_some plan)
    ∷ PlanFails (bytes_of plan)
    ∷ (Run x.Workers barring is_worker_count workers)
    ∷ (Run x.Limit barring nat_lt 0 limit)
    ∷ []

-- the faults of `sched check` and of `sched draw`, before a line of the trace is looked at
abbrev pub check_faults : Option (List ℕ) → Option (List ℕ) → ℕ → List Step
check_faults plan trace workers =
    (PlanFile barring is_some plan)
    ∷ PlanFails (bytes_of plan)
    ∷ (TraceFile barring is_some trace)
    ∷ (TraceTooLong barring nat_le (length (bytes_of trace)) most_bytes)
    ∷ (Run x.Workers barring is_worker_count workers)
    ∷ []

-- ---- the answers

-- none of these steps tells a fault
abbrev pub NoneTold : List Step → Type 0
NoneTold [] = Unit {0}
NoneTold (step ∷ steps) = ((told : ProgramError) → step told → ⊥) × NoneTold steps

-- the first of these steps that tells a fault tells this one
abbrev pub FirstTold : List Step → ProgramError → Type 0
FirstTold [] fault = ⊥
FirstTold (step ∷ steps) fault = step fault ⊎ (((told : ProgramError) → step told → ⊥) × FirstTold steps fault)

-- where there is a fault it is told, and nothing was done; where there is none, this was done
abbrev pub ToldOr : List Step → Result ℕ ProgramError → Type 0 → Type 0 → Type 0
ToldOr steps answer untouched done =
    ((fault : ProgramError) × FirstTold steps fault × (answer ≡ Err fault) × untouched) ⊎ (NoneTold steps × done)

-- what `sched code` answers to what was read of the plan's file: its first fault, or a listing. Want of memory may come in
-- place of each answer, with nothing written
abbrev pub AnswersCode : Result ℕ ProgramError → (Option (List ℕ) → Type 0) → Option (List ℕ) → Option (List ℕ) → Type 0
AnswersCode answer IsPlan old new =
    ((answer ≡ Err (Run x.Memory)) × Keeps old new)
    ⊎ ((plan : Option (List ℕ)) × IsPlan plan
    × ToldOr (code_faults plan) answer (Keeps old new) (ListedAsAsked answer (bytes_of plan) old new))

-- what `sched tasks` answers to what was read of the plan's file: its first fault, or the tasks. Want of memory may come in place of
-- each answer, with nothing written
abbrev pub AnswersTasks : Result ℕ ProgramError → (Option (List ℕ) → Type 0) → Option (List ℕ) → Option (List ℕ) → Type 0
AnswersTasks answer IsPlan old new =
    ((answer ≡ Err (Run x.Memory)) × Keeps old new)
    ⊎ ((plan : Option (List ℕ)) × IsPlan plan
    × ToldOr (code_faults plan) answer (Keeps old new) (ToldTasksAsAsked answer (bytes_of plan) old new))

-- what `sched migrate` answers to what was read of the plan's file: its first fault, or a migration. Want of memory may come in
-- place of each answer, with nothing written
abbrev pub AnswersMigrate : Result ℕ ProgramError → (Option (List ℕ) → Type 0) → Option (List ℕ) → Option (List ℕ) → Type 0
AnswersMigrate answer IsPlan old new =
    ((answer ≡ Err (Run x.Memory)) × Keeps old new)
    ⊎ ((plan : Option (List ℕ)) × IsPlan plan
    × ToldOr (migrate_faults plan) answer (Keeps old new) (MigratedAsAsked answer (bytes_of plan) old new))

-- what a run of a plan answers to what was read of the plan's file: its first fault, or what was done with the plan's text. Want of
-- memory may come in place of each fault, with nothing touched
abbrev pub AnswersToPlan : Result ℕ ProgramError → (Option (List ℕ) → Type 0) → RunArguments → Type 0 → (List ℕ → Type 0) → Type 0
AnswersToPlan answer IsPlan asked untouched Done =
    ((answer ≡ Err (Run x.Memory)) × untouched)
    ⊎ ((plan : Option (List ℕ)) × IsPlan plan × ToldOr (run_faults plan asked.workers asked.limit) answer untouched (Done (bytes_of plan)))

-- what `sched run` answers to what was read of the plan's file
abbrev pub AnswersRun : Result ℕ ProgramError → (Option (List ℕ) → Type 0) → RunArguments → Option (List ℕ) → Option (List ℕ) → Option (List ℕ) → Option (List ℕ) → Type 0
AnswersRun answer IsPlan asked input left old new =
    AnswersToPlan answer IsPlan asked (IsUntouched input left old new) (λ text. RanAsAsked answer asked text input left old new)

-- what `sched pool` answers to what was read of the plan's file
abbrev pub AnswersPool : Result ℕ ProgramError → (Option (List ℕ) → Type 0) → RunArguments → Option (List ℕ) → Option (List ℕ) → Option (List ℕ) → Option (List ℕ) → Type 0
AnswersPool answer IsPlan asked input left old new =
    AnswersToPlan answer IsPlan asked (IsUntouched input left old new) (λ text. PooledAsAsked answer asked text input left old new)

-- what was read of the plan's file and of the trace's, which is read only where the plan has no fault, and the first fault, or
-- what was done with the plan that its text writes and with the trace's text
pub record ReadsBoth (answer : Result ℕ ProgramError) (IsPlan IsTrace : Option (List ℕ) → Type 0) (workers : ℕ) (old new : Option (List ℕ)) (Done : PlanTree → List ℕ → Type 0) : Type 0 where
  pub plan : Option (List ℕ)
  pub trace : Option (List ℕ)
  pub plan_read : IsPlan plan
  pub trace_read : NoneTold (code_faults plan) → IsTrace trace
  pub told : ToldOr (check_faults plan trace workers) answer (Keeps old new) ((tree : PlanTree) × TextWrites (bytes_of plan) tree × Done tree (bytes_of trace))

-- what a command answers to what was read of a plan's file and of a trace's. Want of memory may come in place of each answer, with
-- nothing written
abbrev pub AnswersToBoth : Result ℕ ProgramError → (Option (List ℕ) → Type 0) → (Option (List ℕ) → Type 0) → ℕ → Option (List ℕ) → Option (List ℕ) → (PlanTree → List ℕ → Type 0) → Type 0
AnswersToBoth answer IsPlan IsTrace workers old new Done =
    ((answer ≡ Err (Run x.Memory)) × Keeps old new) ⊎ ReadsBoth answer IsPlan IsTrace workers old new Done

-- what `sched check` answers to what was read of its two files
abbrev pub AnswersCheck : Result ℕ ProgramError → (Option (List ℕ) → Type 0) → (Option (List ℕ) → Type 0) → ℕ → Option (List ℕ) → Option (List ℕ) → Type 0
AnswersCheck answer IsPlan IsTrace workers old new =
    AnswersToBoth answer IsPlan IsTrace workers old new (λ plan trace. IsCheckedAsAsked answer plan workers trace old new)

-- what `sched draw` answers to what was read of its two files
abbrev pub AnswersDraw : Result ℕ ProgramError → (Option (List ℕ) → Type 0) → (Option (List ℕ) → Type 0) → ℕ → View → Option (List ℕ) → Option (List ℕ) → Type 0
AnswersDraw answer IsPlan IsTrace workers view old new =
    AnswersToBoth answer IsPlan IsTrace workers old new (λ plan trace. IsDrawnAsAsked answer plan workers trace view old new)
