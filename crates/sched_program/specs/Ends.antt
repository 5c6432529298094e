-- Ends: how the program ends for the arguments of a command line.
-- All of it is this project's rule.
use Rattle.std.specs.Prelude.{◌≡◌, ◌≢◌, ◌⊎◌, ℕ, List, [], Some, Ok, Err, Result, MatchResult, codes}
use Rattle.clap.specs.Words.{Row, Text, IsAmong, fault_of, subcommand_of}
use Rattle.clap.specs.declared.error.kind.ErrorKind.{ErrorKind}
use Rattle.clap.specs.declared.error.kind.ErrorKind.TheVariants as k
use Rattle.command_line.specs.Commands.{sched_app}
use Rattle.command_work.specs.Errors.{status_of}
use Rattle.command_work.specs.declared.error.ProgramError.{ProgramError}
use Rattle.command_work.specs.declared.error.ProgramError.TheVariants.{LintOptions, Run}
use Rattle.sched_engine.specs.declared.report.RunError.TheVariants as x

-- help, or the version
abbrev pub IsHelp : ErrorKind → Type 0
IsHelp kind = (kind ≡ k.DisplayHelp) ⊎ (kind ≡ k.DisplayVersion)

-- help exits with 0 unless it can't be written, want of memory is told as that, and a mistake exits with 2
pub record IsShown (kind : ErrorKind) (result : Result ℕ ProgramError) : Type 0 where
  pub memory : kind ≡ k.OutOfMemory → result ≡ Err (Run x.Memory)
  pub help : IsHelp kind → MatchResult result (λ s. s ≡ 0) (λ e. e ≡ Run x.Write)
  pub mistake : kind ≢ k.OutOfMemory → (IsHelp kind → ⊥) → result ≡ Ok 2

-- arguments that the command line does not take, help among them, are answered as one of the kinds that clap may give them, or as want of memory
abbrev pub IsRefusal : List (List ℕ) → Result ℕ ProgramError → Type 0
IsRefusal arguments result = fault_of sched_app arguments ≢ []
    → (kind : ErrorKind) × ((kind ≡ k.OutOfMemory) ⊎ IsAmong kind (fault_of sched_app arguments)) × IsShown kind result

-- the arguments name this command
abbrev pub NamesCommand : Text → List (List ℕ) → Type 0
NamesCommand name arguments = (rows : List Row) × (subcommand_of sched_app arguments ≡ Some (name, rows))

-- they name one that reads a trace
abbrev pub NamesTrace : List (List ℕ) → Type 0
NamesTrace arguments = NamesCommand (codes "check") arguments ⊎ NamesCommand (codes "draw") arguments

-- they name `lint`
abbrev pub NamesLint : List (List ℕ) → Type 0
NamesLint arguments = NamesCommand (codes "lint") arguments

-- what was asked for ends with 0, with 1 where a check or a drawing found that a trace breaks, or a lint that something is wrong, or with an
-- error, whose exit status is 1 but for options of a lint that do not go together
abbrev pub IsEndOf : List (List ℕ) → Result ℕ ProgramError → Type 0
IsEndOf arguments result =
    MatchResult result (λ s. (s ≡ 0) ⊎ ((s ≡ 1) × (NamesTrace arguments ⊎ NamesLint arguments))) (λ e. (status_of e ≡ 1) ⊎ ((e ≡ LintOptions) × NamesLint arguments))

-- arguments that it takes end so
abbrev pub IsTaken : List (List ℕ) → Result ℕ ProgramError → Type 0
IsTaken arguments result = fault_of sched_app arguments ≡ [] → IsEndOf arguments result
