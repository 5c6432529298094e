-- FineLints: what is answered where a lint finds nothing wrong.
use Rattle.std.proofs.Common.{ℕ, List, Option, Some, None, Result, Ok, Err}
use Rattle.std.specs.Borrow.{Bor}
use Rattle.std.specs.declared.io.Error.{Error}
use Rattle.clap.specs.Words.{Text}
use Rattle.command_line.specs.declared.arguments.LintArguments.{LintArguments}
use Rattle.command_work.specs.Fronts.{Reads}
use Rattle.command_work.specs.Linting.{Finds, FindsAsked, IsFine, asked_of}
use Rattle.command_work.specs.declared.error.ProgramError.{ProgramError}
use Rattle.command_work.specs.declared.error.ProgramError.TheVariants as f
use Rattle.command_work.specs.declared.lint.Found.{Found}
use Rattle.command_work.specs.declared.lint.Looked.{Looked}
use Rattle.sched_engine.specs.declared.report.RunError.TheVariants as x
use Rattle.sched_program.specs.Linted.{AnswersLint, OfAsked, TellsFine}
use Rattle.sched_program.specs.declared.answer.Answer.{Answer}
use Rattle.sched_program.specs.declared.answer.Answer.TheVariants as answer

-- what is found of what is asked is found of it, where nothing is wrong
pub fine_found : {P : Type 0} (IsRead : Reads P) (Opens : Bor Text → Result P Error → Type 0) (looked : Option Looked) (warnings : ℕ) (found : Found)
    → ((l : Looked) → Finds IsRead Opens l found → IsFine IsRead Opens l warnings) → FindsAsked IsRead Opens looked found → OfAsked (λ l. IsFine IsRead Opens l warnings) looked
fine_found IsRead Opens (Some l) warnings found is_fine finds = is_fine l finds
fine_found IsRead Opens None warnings found is_fine finds = absurd finds

-- what tells that nothing is wrong is what a lint answers
pub answers_fine : {P : Type 0} (answer : Result Answer ProgramError) (IsRead : Reads P) (Opens : Bor Text → Result P Error → Type 0) (asked : LintArguments) (warnings : ℕ) (old new : Option (List ℕ))
    → OfAsked (λ looked. IsFine IsRead Opens looked warnings) (asked_of asked) → TellsFine answer asked.strict warnings old new → AnswersLint answer IsRead Opens asked old new
answers_fine (Ok (answer.Warned lines status)) IsRead Opens asked warnings old new fine told = (warnings, fine, told)
answers_fine (Ok (answer.Status status)) IsRead Opens asked warnings old new fine told = absurd told
answers_fine (Ok (answer.Refused refusal)) IsRead Opens asked warnings old new fine told = absurd told
answers_fine (Err f.Arguments) IsRead Opens asked warnings old new fine told = absurd told
answers_fine (Err f.LintOptions) IsRead Opens asked warnings old new fine told = absurd told
answers_fine (Err f.PlanFile) IsRead Opens asked warnings old new fine told = absurd told
answers_fine (Err f.PlanUnwritten) IsRead Opens asked warnings old new fine told = absurd told
answers_fine (Err f.TraceFile) IsRead Opens asked warnings old new fine told = absurd told
answers_fine (Err f.TraceTooLong) IsRead Opens asked warnings old new fine told = absurd told
answers_fine (Err f.EndsFirst) IsRead Opens asked warnings old new fine told = absurd told
answers_fine (Err (f.Crowded marks)) IsRead Opens asked warnings old new fine told = absurd told
answers_fine (Err (f.Run (x.Plan fault))) IsRead Opens asked warnings old new fine told = absurd told
answers_fine (Err (f.Run x.Workers)) IsRead Opens asked warnings old new fine told = absurd told
answers_fine (Err (f.Run x.Limit)) IsRead Opens asked warnings old new fine told = absurd told
answers_fine (Err (f.Run (x.EventLine line))) IsRead Opens asked warnings old new fine told = absurd told
answers_fine (Err (f.Run x.Full)) IsRead Opens asked warnings old new fine told = absurd told
answers_fine (Err (f.Run x.Read)) IsRead Opens asked warnings old new fine told = absurd told
answers_fine (Err (f.Run x.Write)) IsRead Opens asked warnings old new fine told = (warnings, fine, told)
answers_fine (Err (f.Run x.Lost)) IsRead Opens asked warnings old new fine told = absurd told
answers_fine (Err (f.Run x.Memory)) IsRead Opens asked warnings old new fine told = absurd told
