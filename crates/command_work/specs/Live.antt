-- Live: what `sched live` does, what of the calls it writes to a file, and which fault it tells.
-- All of it is this project's rule.
use Rattle.std.specs.Prelude.{◌≡◌, ℕ, ◌≤◌, ◌⊎◌, Bool, true, false, List, [], length, Option, None, Some, is_some, Result, Ok, Err}
use Rattle.std.specs.Borrow.{Bor}
use Rattle.std.specs.declared.io.Error.{Error}
use Rattle.clap.specs.Words.{Text}
use Rattle.toml.specs.Text.{IsDocumentText}
use Rattle.plan_read.specs.Texts.{longest_text}
use Rattle.plan_read.specs.declared.faults.PlanFault.{PlanFault}
use Rattle.plan_read.specs.declared.faults.PlanFaultKind.TheVariants as kinds
use Rattle.call_journal.specs.Journals.{JournalView}
use Rattle.call_journal.specs.Plans.{TextFault, tree_of_calls}
use Rattle.call_journal.specs.MadeCalls.{MayBePlanned, WritesPlanOf}
use Rattle.live_engine.specs.LiveRuns.{LiveEnds, Ran}
use Rattle.live_engine.specs.declared.report.LiveReport.{LiveReport}
use Rattle.byte_ends.specs.Ends.{AllGood, LastBad, WritesText}
use Rattle.sched_engine.specs.declared.report.RunError.{RunError}
use Rattle.sched_engine.specs.declared.report.RunError.TheVariants as x
use Rattle.command_work.specs.Errors.{IsOfSystem, IsToldAs}
use Rattle.command_line.specs.declared.arguments.LiveArguments.{LiveArguments}
use Rattle.command_work.specs.declared.error.ProgramError.{ProgramError}
use Rattle.command_work.specs.declared.error.ProgramError.TheVariants.{PlanUnwritten, Run}

-- ---- a text that is written to a file

-- how it ended
abbrev pub Written : Type 0
Written = Result (Unit {0}) ProgramError

-- the text was written to a file, by good tries, or a front of it, where the file was at fault at the last try
abbrev pub TextWritten : Written → Option (List ℕ) → Option (List ℕ) → ℕ → ℕ → ℕ → ℕ → List ℕ → Type 0
TextWritten (Ok done) old new failed fruitless failed' fruitless' text = WritesText true old new text × AllGood failed fruitless failed' fruitless'
TextWritten (Err fault) old new failed fruitless failed' fruitless' text =
    (fault ≡ PlanUnwritten) × WritesText false old new text × LastBad failed fruitless failed' fruitless'

-- what of a text was written to a file that the system created, or did not: there is a state of the file in which it has it. Nothing was
-- written where it was not created, which is told as want of memory or as a file that is not written
abbrev pub IsWrittenTo : {F : Type 0} → (F → Option (List ℕ)) → (F → ℕ) → (F → ℕ) → Result F Error → List ℕ → Written → Type 0
IsWrittenTo {F} contents failed fruitless (Ok file) text written =
    (after : F) × TextWritten written (contents file) (contents after) (failed file) (fruitless file) (failed after) (fruitless after) text
IsWrittenTo contents failed fruitless (Err error) text written = (told : ProgramError) × IsOfSystem error PlanUnwritten told × (written ≡ Err told)

-- what of a text was written to a file that the system created, or did not: a fact for each end
abbrev pub Writes : Type 0 → Type 1
Writes F = Result F Error → List ℕ → Written → Type 0

-- ---- the plan of the calls that were made

-- more calls were made than a plan has
abbrev pub too_many : PlanFault
too_many = record { kind = kinds.TooMany; block = 0; call = 0 }

-- The plan has no text: the text would be too long, or memory ran out for it.
pub record HasNoText (journal : JournalView) (written : Written) : Type 0 where
  pub fault : PlanFault
  pub why : TextFault journal.calls fault
  pub told : ProgramError
  pub is : IsToldAs (x.Plan fault) told
  pub tells : written ≡ Err told

-- The plan has a text, and that is written to the file. Where a plan may make the calls, the text's plan makes them.
pub record HasText {F : Type 0} (journal : JournalView) (written : Written) (IsWritten : Writes F) (Creates : Result F Error → Type 0) : Type 0 where
  pub text : List ℕ
  pub prints : IsDocumentText false (tree_of_calls journal.calls) text
  pub plan : MayBePlanned journal.calls → WritesPlanOf text journal.calls
  pub short : length text ≤ longest_text
  pub file : Result F Error
  pub creates : Creates file
  pub writes : IsWritten file text written

-- how the plan of the calls in a journal is written to a file: where there were more calls than a plan has that is told, where the plan
-- has no text this is told, and else the text is written to the file, as it is created
abbrev pub PlanWritten : {F : Type 0} → Written → JournalView → Writes F → (Result F Error → Type 0) → Type 0
PlanWritten written journal IsWritten Creates =
    ((journal.is_over ≡ true) × (written ≡ Err (Run (x.Plan too_many))))
    ⊎ ((journal.is_over ≡ false) × (HasNoText journal written ⊎ HasText journal written IsWritten Creates))

-- it is written where a file is named for it
abbrev pub PlanAsAsked : {F : Type 0} → Written → Option (Bor Text) → JournalView → Writes F → (Bor Text → Result F Error → Type 0) → Type 0
PlanAsAsked written None journal IsWritten Creates = written ≡ Ok tt
PlanAsAsked written (Some name) journal IsWritten Creates = PlanWritten written journal IsWritten (Creates name)

-- ---- the answer

-- the first fault is told: the run's, and else the plan's; and what was done is told by status 0
abbrev pub TellsFirst : Result LiveReport RunError → Written → Result ℕ ProgramError → Type 0
TellsFirst (Err error) written answer = (fault : ProgramError) × IsToldAs error fault × (answer ≡ Err fault)
TellsFirst (Ok report) (Err fault) answer = answer ≡ Err fault
TellsFirst (Ok report) (Ok done) answer = answer ≡ Ok 0

-- a journal of no call, in which calls are wanted where a file is named for their plan
abbrev pub fresh : Option (Bor Text) → JournalView
fresh plan = record { calls = []; is_wanted = is_some plan; is_over = false; room = 0 }

-- What `sched live` does: the run over the lines of its input, with a journal of no call, and then, however the run ended, the plan of
-- the calls that the journal has then; and the answer tells the first fault.
pub record AnswersLive {F : Type 0} (answer : Result ℕ ProgramError) (asked : LiveArguments) (IsWritten : Writes F) (Creates : Bor Text → Result F Error → Type 0)
    (input left old new : Option (List ℕ)) : Type 0 where
  pub ended : Result LiveReport RunError
  pub journal : JournalView
  pub ran : Ran ended asked.workers (record { left = input; contents = old; journal = fresh asked.plan }) (record { left = left; contents = new; journal = journal })
  pub written : Written
  pub plan : PlanAsAsked written asked.plan journal IsWritten Creates
  pub told : TellsFirst ended written answer
