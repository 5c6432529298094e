-- Serving: what the program does for the arguments of a command line.
-- All of it is this project's rule.
use Rattle.std.specs.Prelude.{◌≡◌, ℕ, ◌⊎◌, List, MatchResult, Option, Result, ⊤}
use Rattle.std.specs.Borrow.{Bor}
use Rattle.std.specs.Io.KnownBytes.{Keeps}
use Rattle.std.specs.declared.io.Error.{Error}
use Rattle.clap.specs.Words.{Text}
use Rattle.command_line.specs.Arguments.{Asks}
use Rattle.command_work.specs.Errors.{status_of}
use Rattle.sched_program.specs.Told.{in_status}
use Rattle.command_work.specs.Fronts.{Reads, most_of_plan, most_of_trace}
use Rattle.sched_program.specs.Linted.{AnswersLint}
use Rattle.command_work.specs.Live.{AnswersLive, Writes}
use Rattle.command_work.specs.Order.{AnswersCheck, AnswersCode, AnswersDraw, AnswersMigrate, AnswersPool, AnswersRun, AnswersTasks}
use Rattle.command_line.specs.declared.arguments.Asked.{Asked}
use Rattle.sched_program.specs.declared.answer.Answer.{Answer}
use Rattle.command_line.specs.declared.arguments.Asked.TheVariants.{Pool, Lint, Alone}
use Rattle.command_line.specs.declared.arguments.AskedAlone.{AskedAlone}
use Rattle.command_line.specs.declared.arguments.AskedAlone.TheVariants.{Run, Code, Tasks, Check, Migrate, Draw, Live}
use Rattle.command_work.specs.declared.error.ProgramError.{ProgramError}

-- what is asked of one thread is done over what is read, of so many bytes at most, of the files that it names, as they are opened by
-- their names, and what is written to a file that it names, as it is created. A listing, a list of tasks, a check, a migration and a
-- drawing read nothing else
abbrev pub AnswersAlone : {P F : Type 0} → Result ℕ ProgramError → Reads P → (Bor Text → Result P Error → Type 0) → Writes F → (Bor Text → Result F Error → Type 0) → AskedAlone → Option (List ℕ) → Option (List ℕ) → Option (List ℕ) → Option (List ℕ) → Type 0
AnswersAlone {P} {F} answer IsRead Opens IsWritten Creates (Run asked) input left old new =
    (plan : Result P Error) × Opens asked.path plan × AnswersRun answer (IsRead most_of_plan plan) asked input left old new
AnswersAlone {P} {F} answer IsRead Opens IsWritten Creates (Code asked) input left old new =
    (plan : Result P Error) × Opens asked.path plan × AnswersCode answer (IsRead most_of_plan plan) old new × Keeps input left
AnswersAlone {P} {F} answer IsRead Opens IsWritten Creates (Tasks asked) input left old new =
    (plan : Result P Error) × Opens asked.path plan × AnswersTasks answer (IsRead most_of_plan plan) old new × Keeps input left
AnswersAlone {P} {F} answer IsRead Opens IsWritten Creates (Check asked) input left old new =
    (plan : Result P Error) × Opens asked.path plan
    × AnswersCheck answer (IsRead most_of_plan plan) (λ text. (trace : Result P Error) × Opens asked.trace trace × IsRead most_of_trace trace text) asked.workers old new
    × Keeps input left
AnswersAlone {P} {F} answer IsRead Opens IsWritten Creates (Migrate asked) input left old new =
    (plan : Result P Error) × Opens asked.path plan × AnswersMigrate answer (IsRead most_of_plan plan) old new × Keeps input left
AnswersAlone {P} {F} answer IsRead Opens IsWritten Creates (Draw asked) input left old new =
    (plan : Result P Error) × Opens asked.check.path plan
    × AnswersDraw answer (IsRead most_of_plan plan) (λ text. (trace : Result P Error) × Opens asked.check.trace trace × IsRead most_of_trace trace text) asked.check.workers asked.view old new
    × Keeps input left
AnswersAlone {P} {F} answer IsRead Opens IsWritten Creates (Live asked) input left old new = AnswersLive answer asked IsWritten Creates input left old new

-- what is asked for is done: a run by a pool over the plan's file, as it is opened by its name, a lint, or what is asked of one thread
abbrev pub AnswersAsked : {P F : Type 0} → Result Answer ProgramError → Reads P → (Bor Text → Result P Error → Type 0) → Writes F → (Bor Text → Result F Error → Type 0) → Asked → Option (List ℕ) → Option (List ℕ) → Option (List ℕ) → Option (List ℕ) → Type 0
AnswersAsked {P} {F} answer IsRead Opens IsWritten Creates (Pool asked) input left old new =
    (ended : Result ℕ ProgramError) × (answer ≡ in_status ended)
    × (plan : Result P Error) × Opens asked.path plan × AnswersPool ended (IsRead most_of_plan plan) asked input left old new
AnswersAsked {P} {F} answer IsRead Opens IsWritten Creates (Lint asked) input left old new =
    AnswersLint answer IsRead Opens asked old new × Keeps input left
AnswersAsked {P} {F} answer IsRead Opens IsWritten Creates (Alone asked) input left old new =
    (ended : Result ℕ ProgramError) × (answer ≡ in_status ended) × AnswersAlone ended IsRead Opens IsWritten Creates asked input left old new

-- what the arguments of a command line ask for is done
pub record Serves {P F : Type 0} (arguments : List Text) (answer : Result Answer ProgramError) (IsRead : Reads P) (Opens : Bor Text → Result P Error → Type 0)
    (IsWritten : Writes F) (Creates : Bor Text → Result F Error → Type 0) (input left old new : Option (List ℕ)) : Type 0 where
  pub asked : Asked
  pub asks : Asks arguments asked
  pub answers : AnswersAsked answer IsRead Opens IsWritten Creates asked input left old new

-- a check and a drawing read a trace
abbrev pub ReadsTrace : AskedAlone → Type 0
ReadsTrace (Run asked) = ⊥
ReadsTrace (Code asked) = ⊥
ReadsTrace (Tasks asked) = ⊥
ReadsTrace (Check asked) = ⊤
ReadsTrace (Migrate asked) = ⊥
ReadsTrace (Draw asked) = ⊤
ReadsTrace (Live asked) = ⊥

-- what is asked of one thread ends with 0, with 1 where a check or a drawing found that a trace breaks, or with an error whose exit status
-- is 1
abbrev pub EndsAlone : AskedAlone → Result ℕ ProgramError → Type 0
EndsAlone asked answer = MatchResult answer (λ s. (s ≡ 0) ⊎ ((s ≡ 1) × ReadsTrace asked)) (λ e. status_of e ≡ 1)
