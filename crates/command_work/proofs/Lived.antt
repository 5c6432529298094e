-- Lived: what a live run did, by its parts.
use Rattle.std.proofs.Common.{◌≡◌, ℕ, List, Option, Result, subst}
use Rattle.std.specs.Borrow.{Bor}
use Rattle.std.specs.declared.io.Error.{Error}
use Rattle.clap.specs.Words.{Text}
use Rattle.call_journal.specs.Journals.{JournalView}
use Rattle.live_engine.specs.LiveRuns.{Ran}
use Rattle.live_engine.specs.declared.report.LiveReport.{LiveReport}
use Rattle.sched_engine.specs.declared.report.RunError.{RunError}
use Rattle.command_work.specs.Live.{AnswersLive, PlanAsAsked, TellsFirst, Writes, Written, fresh}
use Rattle.command_line.specs.declared.arguments.LiveArguments.{LiveArguments}
use Rattle.command_work.specs.declared.error.ProgramError.{ProgramError}

-- a live run over a journal of no call, and the plan that it left
pub lived : {F : Type 0} (answer : Result ℕ ProgramError) (asked : LiveArguments) (IsWritten : Writes F) (Creates : Bor Text → Result F Error → Type 0) (input left old new : Option (List ℕ))
    (ended : Result LiveReport RunError) (begun journal : JournalView) (written : Written)
    → begun ≡ fresh asked.plan
    → Ran ended asked.workers (record { left = input; contents = old; journal = begun }) (record { left = left; contents = new; journal = journal })
    → PlanAsAsked written asked.plan journal IsWritten Creates → TellsFirst ended written answer
    → AnswersLive answer asked IsWritten Creates input left old new
lived answer asked IsWritten Creates input left old new ended begun journal written is ran plan told = record {
  ended = ended;
  journal = journal;
  ran = subst (λ (j : JournalView). Ran ended asked.workers (record { left = input; contents = old; journal = j }) (record { left = left; contents = new; journal = journal })) is ran;
  written = written;
  plan = plan;
  told = told;
}
