-- Orders: the first fault of a command, by what each step of it answers.
use Rattle.std.proofs.Common.{◌≡◌, ◌≢◌, ℕ, ◌<◌, ◌≤◌, ◌⊎◌, inl, inr, Bool, true, false, List, length, Option, Some, None, Result, Ok, Err, refl, ap, sym, subst, ◌∙◌, arith}
use Rattle.std.specs.Prelude.{nat_le, nat_lt}
use Rattle.std.proofs.lemmas.Bool.{cases_Bool, and_parts}
use Rattle.std.proofs.lemmas.Bool.Decides.{nat_tests}
use Rattle.std.specs.Io.KnownBytes.{Keeps}
use Rattle.executor_model.specs.Counts.{IsWorkerCount, most_workers}
use Rattle.plan_read.specs.Migrating.{MigrationFails}
use Rattle.plan_read.specs.Plans.{PlanTree}
use Rattle.plan_read.specs.Reads.{out_of_memory}
use Rattle.plan_read.specs.Texts.{TextWrites, TextFails}
use Rattle.plan_read.specs.declared.faults.PlanFault.{PlanFault}
use Rattle.plan_read.specs.declared.faults.PlanFaultKind.{PlanFaultKind}
use Rattle.plan_read.specs.declared.faults.PlanFaultKind.TheVariants as k
use Rattle.plan_read.proofs.TextLaw.{text_never_both}
use Rattle.pool_engine.specs.PoolRuns.{PoolRan}
use Rattle.sched_engine.specs.Running.{IsAccepted, IsUntouched, Ran, RefusesToRun}
use Rattle.plan_list.specs.ListingTexts.{Listed}
use Rattle.plan_list.specs.Writing.{TasksWritten}
use Rattle.sched_engine.specs.declared.report.CodeError.TheVariants as c
use Rattle.plan_list.specs.declared.error.ListingError.{ListingError}
use Rattle.plan_list.specs.declared.error.ListingError.TheVariants as l
use Rattle.sched_engine.specs.declared.report.Report.{Report}
use Rattle.sched_engine.specs.Stages.{told_of_opening}
use Rattle.sched_engine.specs.declared.report.OpenError.{OpenError}
use Rattle.sched_engine.specs.declared.report.OpenError.TheVariants as o
use Rattle.sched_engine.specs.declared.report.RunError.{RunError}
use Rattle.sched_engine.specs.declared.report.RunError.TheVariants as x
use Rattle.command_work.specs.declared.error.ProgramError.{ProgramError}
use Rattle.command_work.specs.declared.error.ProgramError.TheVariants.{PlanFile, TraceFile, TraceTooLong, Run}
use Rattle.command_line.specs.declared.arguments.RunArguments.{RunArguments}
use Rattle.command_work.specs.Answers.{ListedAsAsked, MigratedAsAsked, PooledAsAsked, RanAsAsked, TellsEnd, TellsListing, ToldTasksAsAsked}
use Rattle.command_work.specs.Drawings.{IsDrawnAsAsked}
use Rattle.command_work.specs.Errors.{IsToldAs}
use Rattle.command_work.specs.Findings.{IsCheckedAsAsked}
use Rattle.trace_check.specs.Standing.{most_bytes}
use Rattle.trace_svg.specs.declared.view.View.{View}
use Rattle.command_work.specs.Order.{◌barring◌, AnswersCheck, AnswersCode, AnswersDraw, AnswersMigrate, AnswersPool, AnswersRun, AnswersTasks, AnswersToBoth, AnswersToPlan, NoneTold, PlanFails, code_faults, is_worker_count, migrate_faults, run_faults}

-- what stays is kept
pub kept : (contents : Option (List ℕ)) → Keeps contents contents
kept None = tt
kept (Some bytes) = refl

-- a kind of fault is want of memory, or another
memory_or_not : (kind : PlanFaultKind) → (kind ≡ k.Memory) ⊎ (kind ≢ k.Memory)
memory_or_not k.TooLong = inr (λ q. cc)
memory_or_not k.Toml = inr (λ q. cc)
memory_or_not k.Version = inr (λ q. cc)
memory_or_not k.UnknownKey = inr (λ q. cc)
memory_or_not k.Missing = inr (λ q. cc)
memory_or_not k.WrongType = inr (λ q. cc)
memory_or_not k.BadUnit = inr (λ q. cc)
memory_or_not k.BadTimes = inr (λ q. cc)
memory_or_not k.Negative = inr (λ q. cc)
memory_or_not k.BadName = inr (λ q. cc)
memory_or_not k.DuplicateName = inr (λ q. cc)
memory_or_not k.UnknownName = inr (λ q. cc)
memory_or_not k.Ambiguous = inr (λ q. cc)
memory_or_not k.OutOfOrder = inr (λ q. cc)
memory_or_not k.TooLarge = inr (λ q. cc)
memory_or_not k.TooMany = inr (λ q. cc)
memory_or_not k.Memory = inl refl

-- a step whose test holds tells no fault
pub silent : (fault : ProgramError) (holds : Bool) → holds ≡ true → (told : ProgramError) → (fault barring holds) told → ⊥
silent fault holds held told h = absurd (let e = sym held ∙ h.0 in cc)

-- a fault of a plan is told as want of memory, or as itself
told_fault : (Fails : PlanFault → Type 0) (fault : PlanFault) (told : ProgramError) → Fails fault ⊎ (fault ≡ out_of_memory) → IsToldAs (x.Plan fault) told
    → (told ≡ Run x.Memory) ⊎ ((f : PlanFault) × Fails f × (told ≡ Run (x.Plan f)))
told_fault Fails fault told why is = elim (memory_or_not fault.kind) [
  | inl memory ↦ inl (is.0 memory)
  | inr other ↦ elim why [
    | inl fails ↦ inr (fault, fails, is.1 other)
    | inr memory ↦ absurd (other (ap (λ (f : PlanFault). f.kind) memory))
  ]
]

-- a fault of a plan's text is told as want of memory, or as itself
pub told_plan : (text : List ℕ) (fault : PlanFault) (told : ProgramError) → TextFails text fault ⊎ (fault ≡ out_of_memory) → IsToldAs (x.Plan fault) told
    → (told ≡ Run x.Memory) ⊎ PlanFails text told
told_plan text fault told why is = told_fault (TextFails text) fault told why is

-- a text that writes a plan has no fault
pub no_plan_fault : (text : List ℕ) (plan : PlanTree) → TextWrites text plan → (told : ProgramError) → PlanFails text told → ⊥
no_plan_fault text plan writes told h = text_never_both text plan h.0 writes h.1

-- the file of a plan was read
plan_there : (text : List ℕ) (told : ProgramError) → (PlanFile barring true) told → ⊥
plan_there text = silent PlanFile true refl

-- a number of workers passes the test
pub counted : (workers : ℕ) → IsWorkerCount workers → is_worker_count workers ≡ true
counted workers is = grind (arith, nat_tests, is.0, is.1)

-- another number fails it
pub not_counted : (workers : ℕ) → ¬ IsWorkerCount workers → is_worker_count workers ≡ false
not_counted workers isnt = elim (cases_Bool (is_worker_count workers)) [
  | inl is ↦ absurd (isnt (let both = and_parts (nat_le 1 workers) (nat_le workers most_workers) is in (grind (arith, nat_tests, both.0), grind (arith, nat_tests, both.1))))
  | inr is ↦ is
]

-- a trace's length passes the test
not_too_long : (n : ℕ) → n ≤ most_bytes → nat_le n most_bytes ≡ true
not_too_long n short = grind (arith, nat_tests)

-- a greater length fails it
too_long : (n : ℕ) → most_bytes < n → nat_le n most_bytes ≡ false
too_long n long = grind (arith, nat_tests)

-- ---- a command that reads a plan's file and a trace's

-- the plan has a fault
pub both_wrong_plan : (text : List ℕ) (fault : PlanFault) (told : ProgramError) (IsPlan IsTrace : Option (List ℕ) → Type 0) (workers : ℕ) (contents : Option (List ℕ)) (Done : PlanTree → List ℕ → Type 0)
    → TextFails text fault ⊎ (fault ≡ out_of_memory) → IsToldAs (x.Plan fault) told → IsPlan (Some text)
    → AnswersToBoth (Err told) IsPlan IsTrace workers contents contents Done
both_wrong_plan text fault told IsPlan IsTrace workers contents Done why is read = elim (told_plan text fault told why is) [
  | inl memory ↦ inl (ap Err memory, kept contents)
  | inr first ↦ inr (record {
    plan = Some text;
    trace = None;
    plan_read = read;
    trace_read = λ q. absurd (q.1.0 told first);
    told = inl (told, inr (plan_there text, inl first), refl, kept contents);
  })
]

-- the trace's file was not read, or is too long
pub both_no_trace : (text : List ℕ) (plan : PlanTree) (fault : ProgramError) (IsPlan IsFront IsTrace : Option (List ℕ) → Type 0) (workers : ℕ) (contents : Option (List ℕ)) (Done : PlanTree → List ℕ → Type 0)
    → TextWrites text plan → IsPlan (Some text) → ((trace : Option (List ℕ)) → IsFront trace → IsTrace trace)
    → (fault ≡ TraceTooLong) ⊎ (fault ≡ Run x.Memory) ⊎ ((fault ≡ TraceFile) × IsFront None)
    → (fault ≡ TraceTooLong → (trace : List ℕ) × IsFront (Some trace) × (most_bytes < length trace))
    → AnswersToBoth (Err fault) IsPlan IsTrace workers contents contents Done
both_no_trace text plan fault IsPlan IsFront IsTrace workers contents Done writes read gives (inl long) is_long =
    let found = is_long long in
    let none = no_plan_fault text plan writes in
    inr (record {
      plan = Some text;
      trace = Some found.0;
      plan_read = read;
      trace_read = λ q. gives (Some found.0) found.1;
      told = inl (fault, inr (plan_there text, inr (none, inr (silent TraceFile true refl, inl (too_long (length found.0) found.2, long)))), refl, kept contents);
    })
both_no_trace text plan fault IsPlan IsFront IsTrace workers contents Done writes read gives (inr (inl memory)) is_long = inl (ap Err memory, kept contents)
both_no_trace text plan fault IsPlan IsFront IsTrace workers contents Done writes read gives (inr (inr file)) is_long =
    inr (record {
      plan = Some text;
      trace = None;
      plan_read = read;
      trace_read = λ q. gives None file.1;
      told = inl (fault, inr (plan_there text, inr (no_plan_fault text plan writes, inl (refl, file.0))), refl, kept contents);
    })

-- both files were read. Where the number of workers is out of range that is told
both_read : (text : List ℕ) (plan : PlanTree) (trace : List ℕ) (answer : Result ℕ ProgramError) (IsPlan IsTrace : Option (List ℕ) → Type 0) (workers : ℕ) (old new : Option (List ℕ)) (Done : PlanTree → List ℕ → Type 0)
    → TextWrites text plan → IsPlan (Some text) → IsTrace (Some trace) → length trace ≤ most_bytes
    → (¬ IsWorkerCount workers → (answer ≡ Err (Run x.Workers)) × Keeps old new)
    → Done plan trace
    → AnswersToBoth answer IsPlan IsTrace workers old new Done
both_read text plan trace answer IsPlan IsTrace workers old new Done writes read trace_read short wrong done =
    let none = no_plan_fault text plan writes in
    let fits = silent TraceTooLong (nat_le (length trace) most_bytes) (not_too_long (length trace) short) in
    inr (record {
      plan = Some text;
      trace = Some trace;
      plan_read = read;
      trace_read = λ q. trace_read;
      told = elim (cases_Bool (is_worker_count workers)) [
        | inl all ↦ inr ((plan_there text, (none, (silent TraceFile true refl, (fits, (silent (Run x.Workers) (is_worker_count workers) all, tt))))), (plan, writes, done))
        | inr few ↦ (
            let told = wrong (λ w. let e = counted workers w in cc) in
            inl (Run x.Workers, inr (plan_there text, inr (none, inr (silent TraceFile true refl, inr (fits, inl (few, refl))))), told.0, told.1))
      ];
    })

-- a check of both
pub check_both : (text : List ℕ) (plan : PlanTree) (trace : List ℕ) (answer : Result ℕ ProgramError) (IsPlan IsTrace : Option (List ℕ) → Type 0) (workers : ℕ) (old new : Option (List ℕ))
    → TextWrites text plan → IsPlan (Some text) → IsTrace (Some trace) → length trace ≤ most_bytes
    → (¬ IsWorkerCount workers → answer ≡ Err (Run x.Workers))
    → IsCheckedAsAsked answer plan workers trace old new
    → AnswersCheck answer IsPlan IsTrace workers old new
check_both text plan trace answer IsPlan IsTrace workers old new writes read trace_read short wrong checked =
    both_read text plan trace answer IsPlan IsTrace workers old new (λ p t. IsCheckedAsAsked answer p workers t old new) writes read trace_read short
    (λ few. let is = wrong few in let told = rw is at checked in (is, told.1))
    checked

-- a drawing of both
pub draw_both : (text : List ℕ) (plan : PlanTree) (trace : List ℕ) (answer : Result ℕ ProgramError) (IsPlan IsTrace : Option (List ℕ) → Type 0) (workers : ℕ) (view : View) (old new : Option (List ℕ))
    → TextWrites text plan → IsPlan (Some text) → IsTrace (Some trace) → length trace ≤ most_bytes
    → (¬ IsWorkerCount workers → answer ≡ Err (Run x.Workers))
    → IsDrawnAsAsked answer plan workers trace view old new
    → AnswersDraw answer IsPlan IsTrace workers view old new
draw_both text plan trace answer IsPlan IsTrace workers view old new writes read trace_read short wrong drawn =
    both_read text plan trace answer IsPlan IsTrace workers old new (λ p t. IsDrawnAsAsked answer p workers t view old new) writes read trace_read short
    (λ few. let is = wrong few in let told = rw is at drawn in (is, told.1))
    drawn

-- ---- a listing

-- a text that writes a plan has none of the faults of a listing
no_code_fault : (text : List ℕ) (plan : PlanTree) → TextWrites text plan → NoneTold (code_faults (Some text))
no_code_fault text plan writes = (plan_there text, (no_plan_fault text plan writes, tt))

-- the plan's file was read
pub code_read : (text : List ℕ) (answer : Result ℕ ProgramError) (IsPlan : Option (List ℕ) → Type 0) (old new : Option (List ℕ))
    → IsPlan (Some text) → ListedAsAsked answer text old new → AnswersCode answer IsPlan old new
code_read text answer IsPlan old new read all = go all.ended all.listed all.told
  where
    go : (ended : Result (Unit {0}) ListingError) → Listed ended text old new → TellsListing ended answer → AnswersCode answer IsPlan old new
    go (Ok done) listed told = inr (Some text, read, inr (no_code_fault text listed.1.plan listed.1.reads, all))
    go (Err l.Write) listed told = inr (Some text, read, inr (no_code_fault text listed.1.plan listed.1.reads, all))
    go (Err (l.Code (c.Plan fault))) listed told = elim (told_plan text fault told.0 listed.0 told.1) [
      | inl memory ↦ inl (told.2 ∙ ap Err memory, listed.1)
      | inr first ↦ inr (Some text, read, inl (told.0, inr (plan_there text, inl first), told.2, listed.1))
    ]
    go (Err (l.Code c.Memory)) listed told = inl (told.2 ∙ ap Err told.1, listed.1)

-- ---- the tasks

-- the plan's file was read
pub tasks_read : (text : List ℕ) (answer : Result ℕ ProgramError) (IsPlan : Option (List ℕ) → Type 0) (old new : Option (List ℕ))
    → IsPlan (Some text) → ToldTasksAsAsked answer text old new → AnswersTasks answer IsPlan old new
tasks_read text answer IsPlan old new read all = go all.ended all.written all.told
  where
    go : (ended : Result (Unit {0}) ListingError) → TasksWritten ended text old new → TellsListing ended answer → AnswersTasks answer IsPlan old new
    go (Ok done) written told = inr (Some text, read, inr (no_code_fault text written.1.plan written.1.reads, all))
    go (Err l.Write) written told = inr (Some text, read, inr (no_code_fault text written.1.plan written.1.reads, all))
    go (Err (l.Code (c.Plan fault))) written told = elim (told_plan text fault told.0 written.0 told.1) [
      | inl memory ↦ inl (told.2 ∙ ap Err memory, written.1)
      | inr first ↦ inr (Some text, read, inl (told.0, inr (plan_there text, inl first), told.2, written.1))
    ]
    go (Err (l.Code c.Memory)) written told = inl (told.2 ∙ ap Err told.1, written.1)

-- ---- a migration

-- a text that is migrated has none of the faults of a migration
no_migrate_fault : (text : List ℕ) → ((fault : PlanFault) → MigrationFails text fault → ⊥) → NoneTold (migrate_faults (Some text))
no_migrate_fault text faultless = (plan_there text, ((λ told h. faultless h.0 h.1), tt))

-- a text has a fault
pub migrate_wrong_plan : (text : List ℕ) (fault : PlanFault) (told : ProgramError) (contents : Option (List ℕ))
    → MigrationFails text fault ⊎ (fault ≡ out_of_memory) → IsToldAs (x.Plan fault) told
    → AnswersMigrate (Err told) (λ plan. plan ≡ Some text) contents contents
migrate_wrong_plan text fault told contents why is = elim (told_fault (MigrationFails text) fault told why is) [
  | inl memory ↦ inl (ap Err memory, kept contents)
  | inr first ↦ inr (Some text, refl, inl (told, inr (plan_there text, inl first), refl, kept contents))
]

-- a text was migrated
pub migrate_done : (text : List ℕ) (answer : Result ℕ ProgramError) (old new : Option (List ℕ))
    → ((fault : PlanFault) → MigrationFails text fault → ⊥) → MigratedAsAsked answer text old new → AnswersMigrate answer (λ plan. plan ≡ Some text) old new
migrate_done text answer old new faultless done = inr (Some text, refl, inr (no_migrate_fault text faultless, done))

-- the plan's file was read
pub migrate_read : (text : List ℕ) (answer : Result ℕ ProgramError) (IsPlan : Option (List ℕ) → Type 0) (old new : Option (List ℕ))
    → IsPlan (Some text) → AnswersMigrate answer (λ plan. plan ≡ Some text) old new → AnswersMigrate answer IsPlan old new
migrate_read text answer IsPlan old new read (inl memory) = inl memory
migrate_read text answer IsPlan old new read (inr told) = inr (told.0, subst IsPlan (sym told.1) read, told.2)

-- ---- a run

-- a limit passes the test
some_events : (limit : ℕ) → 0 < limit → nat_lt 0 limit ≡ true
some_events limit more = grind (arith, nat_tests)

-- what a run may go over has none of the faults of a run
no_run_fault : (text : List ℕ) (plan : PlanTree) (workers limit : ℕ) → TextWrites text plan → IsWorkerCount workers → 0 < limit
    → NoneTold (run_faults (Some text) workers limit)
no_run_fault text plan workers limit writes all more =
    (plan_there text, (no_plan_fault text plan writes, (silent (Run x.Workers) (is_worker_count workers) (counted workers all), (silent (Run x.Limit) (nat_lt 0 limit) (some_events limit more), tt))))

-- the plan's file was read, and the plan and the numbers were accepted
accepted : (text : List ℕ) (answer : Result ℕ ProgramError) (IsPlan : Option (List ℕ) → Type 0) (asked : RunArguments) (untouched : Type 0) (Done : List ℕ → Type 0) (calls : _)
    → IsPlan (Some text) → IsAccepted text calls asked.workers asked.limit → Done text → AnswersToPlan answer IsPlan asked untouched Done
accepted text answer IsPlan asked untouched Done calls read a done = inr (Some text, read, inr (no_run_fault text a.plan asked.workers asked.limit a.reads a.counted a.positive, done))

-- the plan's file was read, and a run was refused
refused : (text : List ℕ) (answer : Result ℕ ProgramError) (IsPlan : Option (List ℕ) → Type 0) (asked : RunArguments) (untouched : Type 0) (Done : List ℕ → Type 0) (e : OpenError)
    → IsPlan (Some text) → RefusesToRun e text asked.workers asked.limit → untouched → TellsEnd {T = Report} (Err (told_of_opening e)) answer → AnswersToPlan answer IsPlan asked untouched Done
refused text answer IsPlan asked untouched Done (o.Plan fault) read why same told = elim (told_plan text fault told.0 why told.1) [
  | inl memory ↦ inl (told.2 ∙ ap Err memory, same)
  | inr first ↦ inr (Some text, read, inl (told.0, inr (plan_there text, inl first), told.2, same))
]
refused text answer IsPlan asked untouched Done o.Workers read why same told =
    inr (Some text, read, inl (Run x.Workers, inr (plan_there text, inr (no_plan_fault text why.0 why.1, inl (not_counted asked.workers why.2, refl))), told.2 ∙ ap Err told.1, same))
refused text answer IsPlan asked untouched Done o.Limit read why same told =
    let all = silent (Run x.Workers) (is_worker_count asked.workers) (counted asked.workers why.2) in
    let none : nat_lt 0 asked.limit ≡ false = rw why.3 refl in
    inr (Some text, read, inl (Run x.Limit, inr (plan_there text, inr (no_plan_fault text why.0 why.1, inr (all, inl (none, refl)))), told.2 ∙ ap Err told.1, same))
refused text answer IsPlan asked untouched Done o.Memory read why same told = inl (told.2 ∙ ap Err told.1, same)

-- a run of a plan whose file was read
pub run_read : (text : List ℕ) (answer : Result ℕ ProgramError) (IsPlan : Option (List ℕ) → Type 0) (asked : RunArguments) (input left old new : Option (List ℕ))
    → IsPlan (Some text) → RanAsAsked answer asked text input left old new → AnswersRun answer IsPlan asked input left old new
run_read text answer IsPlan asked input left old new read all = go all.ended all.ran all.told
  where
    Done : List ℕ → Type 0
    Done = λ text. RanAsAsked answer asked text input left old new

    over : (calls : _) → IsAccepted text calls asked.workers asked.limit → AnswersRun answer IsPlan asked input left old new
    over calls a = accepted text answer IsPlan asked (IsUntouched input left old new) Done calls read a all

    no : (e : OpenError) → RefusesToRun e text asked.workers asked.limit → IsUntouched input left old new → TellsEnd {T = Report} (Err (told_of_opening e)) answer → AnswersRun answer IsPlan asked input left old new
    no e why same told = refused text answer IsPlan asked (IsUntouched input left old new) Done e read why same told

    go : (ended : Result Report RunError) → Ran ended text asked.workers asked.limit input left old new → TellsEnd ended answer → AnswersRun answer IsPlan asked input left old new
    go (Ok report) ran told = over ran.0 ran.1
    go (Err (x.Plan fault)) ran told = no (o.Plan fault) ran.0 ran.1 told
    go (Err x.Workers) ran told = no o.Workers ran.0 ran.1 told
    go (Err x.Limit) ran told = no o.Limit ran.0 ran.1 told
    go (Err x.Memory) (inl refused) told = no o.Memory refused.0 refused.1 told
    go (Err x.Memory) (inr ran) told = over ran.0 ran.1
    go (Err (x.EventLine n)) ran told = over ran.0 ran.1
    go (Err x.Full) ran told = over ran.0 ran.1
    go (Err x.Read) ran told = over ran.0 ran.1
    go (Err x.Write) ran told = over ran.0 ran.1
    go (Err x.Lost) ran told = absurd ran

-- a run by a pool of a plan whose file was read
pub pool_read : (text : List ℕ) (answer : Result ℕ ProgramError) (IsPlan : Option (List ℕ) → Type 0) (asked : RunArguments) (input left old new : Option (List ℕ))
    → IsPlan (Some text) → PooledAsAsked answer asked text input left old new → AnswersPool answer IsPlan asked input left old new
pool_read text answer IsPlan asked input left old new read all = go all.ended all.ran all.told
  where
    Done : List ℕ → Type 0
    Done = λ text. PooledAsAsked answer asked text input left old new

    over : (calls : _) → IsAccepted text calls asked.workers asked.limit → AnswersPool answer IsPlan asked input left old new
    over calls a = accepted text answer IsPlan asked (IsUntouched input left old new) Done calls read a all

    no : (e : OpenError) → RefusesToRun e text asked.workers asked.limit → IsUntouched input left old new → TellsEnd {T = Report} (Err (told_of_opening e)) answer → AnswersPool answer IsPlan asked input left old new
    no e why same told = refused text answer IsPlan asked (IsUntouched input left old new) Done e read why same told

    go : (ended : Result Report RunError) → PoolRan ended text asked.workers asked.limit input left old new → TellsEnd ended answer → AnswersPool answer IsPlan asked input left old new
    go (Ok report) ran told = over ran.0 ran.1
    go (Err (x.Plan fault)) ran told = no (o.Plan fault) ran.0 ran.1 told
    go (Err x.Workers) ran told = no o.Workers ran.0 ran.1 told
    go (Err x.Limit) ran told = no o.Limit ran.0 ran.1 told
    go (Err x.Memory) (inl refused) told = no o.Memory refused.0 refused.1 told
    go (Err x.Memory) (inr (inl ran)) told = over ran.0 ran.1
    go (Err x.Memory) (inr (inr ran)) told = over ran.0 ran.1
    go (Err (x.EventLine n)) ran told = over ran.0 ran.1
    go (Err x.Full) (inl ran) told = over ran.0 ran.1
    go (Err x.Full) (inr ran) told = over ran.0 ran.1
    go (Err x.Read) ran told = over ran.0 ran.1
    go (Err x.Write) ran told = over ran.0 ran.1
    go (Err x.Lost) ran told = over ran.0 ran.1
