-- Answers: how the end of a run, of a listing, of a list of tasks or of a migration is told.
-- All of it is this project's rule.
use Rattle.std.specs.Prelude.{◌≡◌, ℕ, List, Option, Result, Ok, Err, take}
use Rattle.std.specs.Io.KnownBytes.{Appends}
use Rattle.plan_read.specs.Migrating.{Migrates}
use Rattle.command_work.specs.Errors.{IsToldAs}
use Rattle.command_line.specs.declared.arguments.RunArguments.{RunArguments}
use Rattle.command_work.specs.declared.error.ProgramError.{ProgramError}
use Rattle.command_work.specs.declared.error.ProgramError.TheVariants.{Run}
use Rattle.sched_engine.specs.Running.{Ran}
use Rattle.plan_list.specs.ListingTexts.{Listed, told_of_listing}
use Rattle.plan_list.specs.Writing.{TasksWritten}
use Rattle.pool_engine.specs.PoolRuns.{PoolRan}
use Rattle.plan_list.specs.declared.error.ListingError.{ListingError}
use Rattle.sched_engine.specs.declared.report.Report.{Report}
use Rattle.sched_engine.specs.declared.report.RunError.{RunError}
use Rattle.sched_engine.specs.declared.report.RunError.TheVariants as x

-- what was done is told by status 0, and what was not by its error
abbrev pub TellsEnd : {T : Type 0} → Result T RunError → Result ℕ ProgramError → Type 0
TellsEnd (Ok done) answer = answer ≡ Ok 0
TellsEnd (Err error) answer = (fault : ProgramError) × IsToldAs error fault × (answer ≡ Err fault)

-- the same of a listing
abbrev pub TellsListing : Result (Unit {0}) ListingError → Result ℕ ProgramError → Type 0
TellsListing (Ok done) answer = answer ≡ Ok 0
TellsListing (Err error) answer = (fault : ProgramError) × IsToldAs (told_of_listing error) fault × (answer ≡ Err fault)

-- the run that was asked for, over the plan that the text writes, and its end as the answer tells it
pub record RanAsAsked (answer : Result ℕ ProgramError) (asked : RunArguments) (text : List ℕ) (input left old new : Option (List ℕ)) : Type 0 where
  pub ended : Result Report RunError
  pub ran : Ran ended text asked.workers asked.limit input left old new
  pub told : TellsEnd ended answer

-- the run by a pool that was asked for, over the plan that the text writes, and its end as the answer tells it
pub record PooledAsAsked (answer : Result ℕ ProgramError) (asked : RunArguments) (text : List ℕ) (input left old new : Option (List ℕ)) : Type 0 where
  pub ended : Result Report RunError
  pub ran : PoolRan ended text asked.workers asked.limit input left old new
  pub told : TellsEnd ended answer

-- the listing of the plan that the text writes, and its end as the answer tells it
pub record ListedAsAsked (answer : Result ℕ ProgramError) (text : List ℕ) (old new : Option (List ℕ)) : Type 0 where
  pub ended : Result (Unit {0}) ListingError
  pub listed : Listed ended text old new
  pub told : TellsListing ended answer

-- the tasks of the plan that the text writes, and their end as the answer tells it
pub record ToldTasksAsAsked (answer : Result ℕ ProgramError) (text : List ℕ) (old new : Option (List ℕ)) : Type 0 where
  pub ended : Result (Unit {0}) ListingError
  pub written : TasksWritten ended text old new
  pub told : TellsListing ended answer

-- the migration of the plan that the text writes, as the answer tells it: the whole of it was written, or a front of it where the
-- writer is at fault
abbrev pub MigratedAsAsked : Result ℕ ProgramError → List ℕ → Option (List ℕ) → Option (List ℕ) → Type 0
MigratedAsAsked (Ok status) text old new = (printed : List ℕ) × Migrates text printed × (status ≡ 0) × Appends old new printed
MigratedAsAsked (Err (Run x.Write)) text old new = (printed : List ℕ) × Migrates text printed × (n : ℕ) × Appends old new (take n printed)
MigratedAsAsked (Err fault) text old new = ⊥
