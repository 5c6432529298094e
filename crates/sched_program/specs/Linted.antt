-- Linted: what `sched lint` answers.
-- All of it is this project's rule.
use Rattle.std.specs.Prelude.{◌≡◌, ℕ, Bool, true, false, ◌&&◌, nat_lt, List, length, Option, Some, None, Result, Ok, Err, codes, take}
use Rattle.std.specs.Borrow.{Bor}
use Rattle.std.specs.Io.KnownBytes.{Appends, Keeps}
use Rattle.std.specs.declared.io.Error.{Error}
use Rattle.clap.specs.Words.{Text}
use Rattle.command_work.specs.Fronts.{Reads}
use Rattle.command_line.specs.declared.arguments.LintArguments.{LintArguments}
use Rattle.command_work.specs.Linting.{AsksUncounted, IsFine, IsWrong, asked_of}
use Rattle.command_work.specs.declared.lint.Looked.{Looked}
use Rattle.command_work.specs.declared.error.ProgramError.{ProgramError}
use Rattle.command_work.specs.declared.error.ProgramError.TheVariants.{LintOptions, Run}
use Rattle.sched_engine.specs.declared.report.RunError.TheVariants as x
use Rattle.sched_program.specs.declared.answer.Answer.{Answer}
use Rattle.sched_program.specs.declared.answer.Answer.TheVariants.{Warned, Refused}

-- the line that says that nothing is wrong
abbrev pub fine_text : List ℕ
fine_text = codes "fine\n"

-- warnings are a fault, and there is one
abbrev pub is_fault : Bool → ℕ → Bool
is_fault strict warnings = strict && nat_lt 0 warnings

-- so many warnings are told, and the line is written with status 0, or a front of it where the writer is at fault; where one is a fault
-- the status is 1, and nothing is written
abbrev pub TellsFine : Result Answer ProgramError → Bool → ℕ → Option (List ℕ) → Option (List ℕ) → Type 0
TellsFine (Ok (Warned lines status)) strict warnings old new =
    (length lines.items ≡ warnings)
    × (is_fault strict warnings ≡ true → (status ≡ 1) × Keeps old new)
    × (is_fault strict warnings ≡ false → (status ≡ 0) × Appends old new fine_text)
TellsFine (Err (Run x.Write)) strict warnings old new = (is_fault strict warnings ≡ false) × (n : ℕ) × Appends old new (take n fine_text)
TellsFine answer strict warnings old new = ⊥

-- it finds so of what is asked, which goes together
abbrev pub OfAsked : (Looked → Type 0) → Option Looked → Type 0
OfAsked Finds (Some looked) = Finds looked
OfAsked Finds None = ⊥

-- what `sched lint` answers: where nothing is wrong it writes that and tells the warnings, and where something is it answers a line and
-- writes nothing. Options that do not go together, and no others, are told as that. A number of workers out of range, and want of memory,
-- may come in place of each answer, with nothing written
abbrev pub AnswersLint : {P : Type 0} → Result Answer ProgramError → Reads P → (Bor Text → Result P Error → Type 0) → LintArguments → Option (List ℕ) → Option (List ℕ) → Type 0
AnswersLint (Ok (Refused refusal)) IsRead Opens asked old new = OfAsked (IsWrong IsRead Opens) (asked_of asked) × Keeps old new
AnswersLint (Err LintOptions) IsRead Opens asked old new = (asked_of asked ≡ None) × Keeps old new
AnswersLint (Err (Run x.Workers)) IsRead Opens asked old new = AsksUncounted (asked_of asked) × Keeps old new
AnswersLint (Err (Run x.Memory)) IsRead Opens asked old new = Keeps old new
AnswersLint answer IsRead Opens asked old new =
    (warnings : ℕ) × OfAsked (λ looked. IsFine IsRead Opens looked warnings) (asked_of asked) × TellsFine answer asked.strict warnings old new
