-- Told: how the end of what a command line asks for is told, and what of it stands on standard error.
-- All of it is this project's rule.
use Rattle.std.specs.Prelude.{ℕ, ◌++◌, Bool, true, false, List, [], Option, None, Some, Result, Ok, Err, flat_map}
use Rattle.std.specs.Io.KnownBytes.{Keeps}
use Rattle.byte_ends.specs.Ends.{CountsTries, NoneFailed, WritesText}
use Rattle.command_work.specs.Errors.{status_of}
use Rattle.command_work.specs.RefusalTexts.{text_of}
use Rattle.command_work.specs.Refusals.{IsOneLine}
use Rattle.command_work.specs.declared.error.ProgramError.{ProgramError}
use Rattle.command_work.specs.declared.error.ProgramError.TheVariants as p
use Rattle.sched_engine.specs.declared.report.RunError.TheVariants as r
use Rattle.command_work.specs.declared.refusal.Refusal.{Refusal}
use Rattle.sched_program.specs.Lines.{error_line}
use Rattle.sched_program.specs.declared.answer.Answer.{Answer}
use Rattle.sched_program.specs.declared.answer.Answer.TheVariants.{Status, Warned, Refused}

-- an end with an exit status, or with an error, as an answer
abbrev pub in_status : Result ℕ ProgramError → Result Answer ProgramError
in_status (Ok status) = Ok (Status status)
in_status (Err fault) = Err fault

-- an answer as an end with an exit status, or with an error: warnings have theirs, and a refusal has the status 1
abbrev pub end_of : Result Answer ProgramError → Result ℕ ProgramError
end_of (Ok (Status status)) = Ok status
end_of (Ok (Warned warnings status)) = Ok status
end_of (Ok (Refused refusal)) = Ok 1
end_of (Err fault) = Err fault

-- what stands behind the line of an error: nothing, or one more line
abbrev pub hint_text : Option Refusal → List ℕ
hint_text None = []
hint_text (Some hint) = text_of hint

-- behind such an answer's line a hint may stand: of a file that was not opened, created, read or written, and of a run whose events
-- are more than its limit
abbrev pub may_hint : Result Answer ProgramError → Bool
may_hint (Err p.PlanFile) = true
may_hint (Err p.PlanUnwritten) = true
may_hint (Err p.TraceFile) = true
may_hint (Err (p.Run r.Full)) = true
may_hint _ = false

-- this text was told on standard error, or a front of it where the last try to write was bad
abbrev pub IsTextTold : List ℕ → Option (List ℕ) → Option (List ℕ) → ℕ → ℕ → ℕ → ℕ → Type 0
IsTextTold text old new failed fruitless failed' fruitless' =
    (whole : Bool) × WritesText whole old new text × CountsTries whole failed fruitless failed' fruitless'

-- what is told of an answer on standard error: nothing of a status, the lines of warnings, that of a refusal, which is one line, and that
-- of an error, behind which a hint may stand
abbrev pub IsTold : Result Answer ProgramError → Option Refusal → Option (List ℕ) → Option (List ℕ) → ℕ → ℕ → ℕ → ℕ → Type 0
IsTold (Ok (Status status)) hint old new failed fruitless failed' fruitless' = Keeps old new × NoneFailed 0 failed fruitless failed' fruitless'
IsTold (Ok (Warned warnings status)) hint old new failed fruitless failed' fruitless' = IsTextTold (flat_map text_of warnings.items) old new failed fruitless failed' fruitless'
IsTold (Ok (Refused refusal)) hint old new failed fruitless failed' fruitless' = IsOneLine (text_of refusal) × IsTextTold (text_of refusal) old new failed fruitless failed' fruitless'
IsTold (Err error) hint old new failed fruitless failed' fruitless' = IsTextTold (error_line error ++ hint_text hint) old new failed fruitless failed' fruitless'

-- the exit status that goes with an end
abbrev pub status_told : Result ℕ ProgramError → ℕ
status_told (Ok status) = status
status_told (Err fault) = status_of fault

-- the exit status that goes with an answer
abbrev pub exit_status_of : Result Answer ProgramError → ℕ
exit_status_of answer = status_told (end_of answer)
