-- Linting: what `sched lint` finds: that nothing is wrong, and what is odd, or that something is wrong. The words in which it is told are
-- no part of it.
-- All of it is this project's rule.
use Rattle.std.specs.Prelude.{◌≡◌, ℕ, ◌<◌, ◌≤◌, ◌⊎◌, ⊤, List, length, Option, Some, None, Result}
use Rattle.std.specs.Borrow.{Bor}
use Rattle.std.specs.declared.io.Error.{Error}
use Rattle.toml.specs.Data.{Members}
use Rattle.toml.specs.Parse.{parse_document}
use Rattle.clap.specs.Words.{Text}
use Rattle.executor_model.specs.Counts.{IsWorkerCount}
use Rattle.line_reasons.specs.Events.{AreEvents}
use Rattle.line_reasons.specs.LiveLines.{AreLiveLines}
use Rattle.plan_compile.specs.PlanCalls.{calls_of_plan}
use Rattle.plan_read.specs.Plans.{PlanTree}
use Rattle.plan_read.specs.Texts.{TextWrites, TextFails}
use Rattle.plan_read.specs.declared.faults.PlanFault.{PlanFault}
use Rattle.plan_warnings.specs.Units.{warnings_told}
use Rattle.command_work.specs.Fronts.{Reads, most_of_plan, most_of_trace}
use Rattle.command_line.specs.declared.arguments.LintArguments.{LintArguments}
use Rattle.command_work.specs.declared.lint.Beside.{Beside}
use Rattle.command_work.specs.declared.lint.Beside.TheVariants.{Nothing, Events, Trace}
use Rattle.command_work.specs.declared.lint.Looked.{Looked}
use Rattle.command_work.specs.declared.lint.Looked.TheVariants.{Plan, Calls}
use Rattle.command_work.specs.declared.lint.Found.{Found}
use Rattle.command_work.specs.declared.lint.Found.TheVariants.{Fine, Wrong}
use Rattle.trace_check.specs.Findings.{Breaks, Conforms}
use Rattle.trace_check.specs.Standing.{most_bytes}

-- what is looked at: a plan, alone or with --events or with --trace and --workers, or without one the lines of --calls
abbrev pub looked_of : Option (Bor Text) → Option (Bor Text) → Option (Bor Text) → Option ℕ → Option (Bor Text) → Option Looked
looked_of (Some plan) None None None None = Some (Plan plan Nothing)
looked_of (Some plan) (Some events) None None None = Some (Plan plan (Events events))
looked_of (Some plan) None (Some trace) (Some workers) None = Some (Plan plan (Trace trace workers))
looked_of None None None None (Some calls) = Some (Calls calls)
looked_of _ _ _ _ _ = None

abbrev pub asked_of : LintArguments → Option Looked
asked_of asked = looked_of asked.path asked.events asked.trace asked.workers asked.calls

-- what is looked at beside a plan is a trace with a number of workers that is not 1 to 64
abbrev pub IsUncounted : Beside → Type 0
IsUncounted (Trace name workers) = ¬ IsWorkerCount workers
IsUncounted beside = ⊥

-- that is so of what is asked
abbrev pub AsksUncounted : Option Looked → Type 0
AsksUncounted (Some (Plan name beside)) = IsUncounted beside
AsksUncounted looked = ⊥

-- ---- a file, by what was read of it: a text, or nothing

-- it writes this plan
abbrev pub PlanRight : (Option (List ℕ) → Type 0) → List ℕ → PlanTree → Type 0
PlanRight IsPlan text plan = IsPlan (Some text) × TextWrites text plan

-- it can't be read, or has a fault
abbrev pub PlanWrong : (Option (List ℕ) → Type 0) → Type 0
PlanWrong IsPlan = IsPlan None ⊎ ((text : List ℕ) × IsPlan (Some text) × (fault : PlanFault) × TextFails text fault)

-- it has no more bytes than one may have
abbrev pub IsTaken : (Option (List ℕ) → Type 0) → List ℕ → Type 0
IsTaken IsFile text = IsFile (Some text) × (length text ≤ most_bytes)

-- it can't be read, or has more
abbrev pub IsUntaken : (Option (List ℕ) → Type 0) → Type 0
IsUntaken IsFile = IsFile None ⊎ ((text : List ℕ) × IsFile (Some text) × (most_bytes < length text))

-- its lines are events
abbrev pub EventsRight : (Option (List ℕ) → Type 0) → Type 0
EventsRight IsEvents = (text : List ℕ) × IsTaken IsEvents text × AreEvents text

-- a line of it is no event
abbrev pub EventsWrong : (Option (List ℕ) → Type 0) → Type 0
EventsWrong IsEvents = IsUntaken IsEvents ⊎ ((text : List ℕ) × IsTaken IsEvents text × (AreEvents text → ⊥))

-- its lines are events and calls
abbrev pub CallsRight : (Option (List ℕ) → Type 0) → Type 0
CallsRight IsLines = (text : List ℕ) × IsTaken IsLines text × AreLiveLines text

-- a line of it is neither an event nor a call
abbrev pub CallsWrong : (Option (List ℕ) → Type 0) → Type 0
CallsWrong IsLines = IsUntaken IsLines ⊎ ((text : List ℕ) × IsTaken IsLines text × (AreLiveLines text → ⊥))

-- nothing is wrong with it, and no warning is told, or something is wrong
abbrev pub CallsFound : (Option (List ℕ) → Type 0) → Found → Type 0
CallsFound IsLines (Fine warnings) = CallsRight IsLines × (length warnings.items ≡ 0)
CallsFound IsLines (Wrong line) = CallsWrong IsLines

-- it conforms
abbrev pub TraceRight : (Option (List ℕ) → Type 0) → PlanTree → ℕ → Type 0
TraceRight IsTrace plan workers = (text : List ℕ) × IsTaken IsTrace text × Conforms (calls_of_plan plan) workers text

-- it breaks
abbrev pub TraceWrong : (Option (List ℕ) → Type 0) → PlanTree → ℕ → Type 0
TraceWrong IsTrace plan workers =
    IsUntaken IsTrace ⊎ ((text : List ℕ) × IsTaken IsTrace text × (line : ℕ) × Breaks (calls_of_plan plan) workers text line)

-- ---- what is looked at beside a plan, by what was read of a file of this name

abbrev pub BesideRight : (Bor Text → Option (List ℕ) → Type 0) → PlanTree → Beside → Type 0
BesideRight IsFile plan Nothing = ⊤
BesideRight IsFile plan (Events name) = EventsRight (IsFile name)
BesideRight IsFile plan (Trace name workers) = TraceRight (IsFile name) plan workers

abbrev pub BesideWrong : (Bor Text → Option (List ℕ) → Type 0) → PlanTree → Beside → Type 0
BesideWrong IsFile plan Nothing = ⊥
BesideWrong IsFile plan (Events name) = EventsWrong (IsFile name)
BesideWrong IsFile plan (Trace name workers) = TraceWrong (IsFile name) plan workers

-- this was read, of so many bytes at most, of the file of this name, as it is opened
abbrev pub IsFileOf : {P : Type 0} → Reads P → (Bor Text → Result P Error → Type 0) → ℕ → Bor Text → Option (List ℕ) → Type 0
IsFileOf {P} IsRead Opens most name read = (file : Result P Error) × Opens name file × IsRead most file read

-- so many warnings are told of the plan that a text writes
abbrev pub AreWarned : List ℕ → PlanTree → ℕ → Type 0
AreWarned text plan warnings = (tree : Members) → parse_document text ≡ Some tree → warnings ≡ length (warnings_told plan tree)

-- nothing is wrong with a plan and what is looked at beside it, and so many warnings are told of the plan
pub record IsFinePlan {P : Type 0} (IsRead : Reads P) (Opens : Bor Text → Result P Error → Type 0) (name : Bor Text) (beside : Beside) (warnings : ℕ) : Type 0 where
  pub plan : PlanTree
  pub text : List ℕ
  pub right : PlanRight (IsFileOf IsRead Opens most_of_plan name) text plan
  pub all : BesideRight (IsFileOf IsRead Opens most_of_trace) plan beside
  pub warned : AreWarned text plan warnings

-- the plan is one, and what is looked at beside it is wrong
pub record IsWrongBeside {P : Type 0} (IsRead : Reads P) (Opens : Bor Text → Result P Error → Type 0) (name : Bor Text) (beside : Beside) : Type 0 where
  pub plan : PlanTree
  pub text : List ℕ
  pub right : PlanRight (IsFileOf IsRead Opens most_of_plan name) text plan
  pub wrong : BesideWrong (IsFileOf IsRead Opens most_of_trace) plan beside

-- nothing is wrong, and so many warnings are told
abbrev pub IsFine : {P : Type 0} → Reads P → (Bor Text → Result P Error → Type 0) → Looked → ℕ → Type 0
IsFine IsRead Opens (Plan name beside) warnings = IsFinePlan IsRead Opens name beside warnings
IsFine IsRead Opens (Calls name) warnings = CallsRight (IsFileOf IsRead Opens most_of_trace name) × (warnings ≡ 0)

-- something is wrong
abbrev pub IsWrong : {P : Type 0} → Reads P → (Bor Text → Result P Error → Type 0) → Looked → Type 0
IsWrong IsRead Opens (Plan name beside) = PlanWrong (IsFileOf IsRead Opens most_of_plan name) ⊎ IsWrongBeside IsRead Opens name beside
IsWrong IsRead Opens (Calls name) = CallsWrong (IsFileOf IsRead Opens most_of_trace name)

-- nothing is found wrong, and there is a line for each warning, or something is
abbrev pub Finds : {P : Type 0} → Reads P → (Bor Text → Result P Error → Type 0) → Looked → Found → Type 0
Finds IsRead Opens looked (Fine warnings) = IsFine IsRead Opens looked (length warnings.items)
Finds IsRead Opens looked (Wrong line) = IsWrong IsRead Opens looked

-- that is found of what is asked, which goes together
abbrev pub FindsAsked : {P : Type 0} → Reads P → (Bor Text → Result P Error → Type 0) → Option Looked → Found → Type 0
FindsAsked IsRead Opens (Some looked) found = Finds IsRead Opens looked found
FindsAsked IsRead Opens None found = ⊥
