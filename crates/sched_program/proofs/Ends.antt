-- Ends: how what is asked ends, by what each part of it answers.
use Rattle.std.proofs.Common.{◌≡◌, ℕ, zero, suc, MatchResult, ◌≤◌, ◌⊎◌, inl, inr, List, Result, Ok, Err, refl, arith}
use Rattle.command_line.specs.Arguments.{Asks}
use Rattle.command_line.specs.declared.arguments.Asked.TheVariants.{Alone, Lint}
use Rattle.command_line.specs.declared.arguments.AskedAlone.{AskedAlone}
use Rattle.command_line.specs.declared.arguments.AskedAlone.TheVariants as a
use Rattle.command_line.specs.declared.arguments.LintArguments.{LintArguments}
use Rattle.command_work.specs.Errors.{status_of}
use Rattle.command_work.specs.declared.error.ProgramError.{ProgramError}
use Rattle.command_work.specs.declared.error.ProgramError.TheVariants.{LintOptions}
use Rattle.sched_program.specs.Ends.{IsEndOf, NamesTrace}
use Rattle.sched_program.specs.Serving.{EndsAlone, ReadsTrace}
use Rattle.sched_program.specs.Told.{end_of, in_status}
use Rattle.sched_program.specs.declared.answer.Answer.{Answer}
use Rattle.sched_program.specs.declared.answer.Answer.TheVariants as answer

one_or_none : (s : ℕ) → s ≤ 1 → (s ≡ 0) ⊎ (s ≡ 1)
one_or_none zero h = inl refl
one_or_none (suc zero) h = inr refl
one_or_none (suc (suc s)) h = absurd (omega arith)

-- a command that reads a trace ends as one may end
pub end_with_trace : (asked : AskedAlone) (result : Result ℕ ProgramError) → ReadsTrace asked → MatchResult result (λ s. s ≤ 1) (λ e. status_of e ≡ 1) → EndsAlone asked result
end_with_trace asked (Ok s) reads h = elim (one_or_none s h) [ inl none ↦ inl none | inr one ↦ inr (one, reads) ]
end_with_trace asked (Err e) reads h = h

-- arguments that ask to read a trace name a command that does
names_trace : (arguments : List (List ℕ)) (asked : AskedAlone) → Asks arguments (Alone asked) → ReadsTrace asked → NamesTrace arguments
names_trace arguments (a.Check asked) asks reads = inl (asks.0, asks.1)
names_trace arguments (a.Draw asked) asks reads = inr (asks.0, asks.1)
names_trace arguments (a.Run asked) asks reads = absurd reads
names_trace arguments (a.Code asked) asks reads = absurd reads
names_trace arguments (a.Tasks asked) asks reads = absurd reads
names_trace arguments (a.Migrate asked) asks reads = absurd reads
names_trace arguments (a.Live asked) asks reads = absurd reads

-- what one thread is asked ends as the arguments that ask for it may end
pub end_alone : (arguments : List (List ℕ)) (asked : AskedAlone) (result : Result ℕ ProgramError) → Asks arguments (Alone asked) → EndsAlone asked result
    → IsEndOf arguments (end_of (in_status result))
end_alone arguments asked (Ok s) asks (inl none) = inl none
end_alone arguments asked (Ok s) asks (inr breaks) = inr (breaks.0, inl (names_trace arguments asked asks breaks.1))
end_alone arguments asked (Err e) asks h = inl h

-- a run by a pool ends so
pub end_pool : (arguments : List (List ℕ)) (result : Result ℕ ProgramError) → MatchResult result (λ s. s ≡ 0) (λ e. status_of e ≡ 1) → IsEndOf arguments (end_of (in_status result))
end_pool arguments (Ok s) h = inl h
end_pool arguments (Err e) h = inl h

-- a lint ends as the arguments that ask for it may end
pub end_lint : (arguments : List (List ℕ)) (asked : LintArguments) (answer : Result Answer ProgramError) → Asks arguments (Lint asked)
    → MatchResult (end_of answer) (λ s. (s ≡ 0) ⊎ (s ≡ 1)) (λ e. (status_of e ≡ 1) ⊎ (e ≡ LintOptions)) → IsEndOf arguments (end_of answer)
end_lint arguments asked (Ok (answer.Status s)) asks (inl none) = inl none
end_lint arguments asked (Ok (answer.Status s)) asks (inr one) = inr (one, inr (asks.0, asks.1))
end_lint arguments asked (Ok (answer.Warned lines s)) asks (inl none) = inl none
end_lint arguments asked (Ok (answer.Warned lines s)) asks (inr one) = inr (one, inr (asks.0, asks.1))
end_lint arguments asked (Ok (answer.Refused line)) asks h = inr (refl, inr (asks.0, asks.1))
end_lint arguments asked (Err e) asks (inl one) = inl one
end_lint arguments asked (Err e) asks (inr options) = inr (options, (asks.0, asks.1))
