-- Whole: a run by a pool, by what each step of it answers.
use Rattle.std.proofs.Common.{◌≡◌, ℕ, ◌<◌, List, Option, Some, None, Result, Ok, Err, inl, inr, refl}
use Rattle.std.specs.Prelude.{IsErrOf}
use Rattle.std.specs.Io.KnownBytes.{Keeps}
use Rattle.executor_model.specs.Counts.{IsWorkerCount}
use Rattle.queue_code.specs.declared.instr.Instr.{Instr}
use Rattle.queue_code.specs.Calls.{Planned}
use Rattle.queue_code.specs.Codes.{calls_of}
use Rattle.sched_engine.specs.CodeTexts.{IsCodeOfText, RefusesText}
use Rattle.sched_engine.specs.Running.{CountsWriter, IsAccepted}
use Rattle.sched_engine.specs.declared.report.Report.{Report}
use Rattle.sched_engine.specs.declared.report.CodeError.{CodeError}
use Rattle.sched_engine.specs.declared.report.CodeError.TheVariants as c
use Rattle.sched_engine.specs.Stages.{told_of_code}
use Rattle.sched_engine.specs.declared.report.RunError.{RunError}
use Rattle.sched_engine.specs.declared.report.RunError.TheVariants as x
use Rattle.byte_ends.proofs.Tries.{no_try}
use Rattle.pool_engine.specs.declared.clocks.ReadingError.{ReadingError}
use Rattle.pool_engine.specs.declared.clocks.ReadingError.TheVariants as r
use Rattle.pool_engine.specs.declared.stops.LastError.{LastError}
use Rattle.pool_engine.specs.declared.stops.LastError.TheVariants as l
use Rattle.pool_engine.specs.declared.stops.PoolStop.{PoolStop}
use Rattle.pool_engine.specs.declared.stops.PoolStop.TheVariants as p
use Rattle.pool_engine.specs.ClockLines.{AreAllClocks, EndsReading, told_of_reading}
use Rattle.pool_engine.specs.own.Ended.{StopLeaves, stop_of_last}
use Rattle.pool_engine.specs.PoolRuns.{LeavesWriter, PoolRan, PoolWrote, RunsAll, told_of_pool_stop}

-- what stays is kept
pub kept : (contents : Option (List ℕ)) → Keeps contents contents
kept None = tt
kept (Some bytes) = refl

-- the plan and the numbers are accepted
pub accepted : (text : List ℕ) (code : List Instr) (workers limit : ℕ) → IsCodeOfText text code → IsWorkerCount workers → 0 < limit → IsAccepted text (calls_of code) workers limit
accepted text code workers limit k counted positive = record { plan = k.plan; reads = k.reads; makes = k.calls; counted = counted; positive = positive }

-- there is no code for the text
pub refused_text : (e : CodeError) (text : List ℕ) (workers limit : ℕ) (input contents : Option (List ℕ)) → RefusesText text e → PoolRan (Err (told_of_code e)) text workers limit input input contents contents
refused_text (c.Plan fault) text workers limit input contents refuses = (refuses, (kept input, kept contents))
refused_text c.Memory text workers limit input contents refuses = inl (refuses, (kept input, kept contents))

-- the reading ended early, and nothing was written
pub ends_unwritten : (e : ReadingError) (text : List ℕ) (calls : List Planned) (workers limit : ℕ) (input left contents : Option (List ℕ)) → IsAccepted text calls workers limit → EndsReading e limit input left
    → PoolRan (Err (told_of_reading e)) text workers limit input left contents contents
ends_unwritten (r.EventLine n) text calls workers limit input left contents a ends = (calls, a, ends, kept contents)
ends_unwritten r.Full text calls workers limit input left contents a ends = inl (calls, a, ends, kept contents)
ends_unwritten r.Read text calls workers limit input left contents a ends = (calls, a, ends, kept contents)
ends_unwritten r.Memory text calls workers limit input left contents a ends = inr (inl (calls, a, ends, kept contents))

-- the writer was not called then
pub unwritten : (e : ReadingError) (failed fruitless : ℕ) → CountsWriter {T = Report} (Err (told_of_reading e)) failed fruitless failed fruitless
unwritten (r.EventLine n) failed fruitless = no_try failed fruitless
unwritten r.Full failed fruitless = no_try failed fruitless
unwritten r.Read failed fruitless = no_try failed fruitless
unwritten r.Memory failed fruitless = no_try failed fruitless

-- counts that stay say that the writer was not called
pub uncalled : (result : Result Report RunError) (failed fruitless : ℕ) → LeavesWriter result failed fruitless failed fruitless
uncalled (Ok r) failed fruitless = tt
uncalled (Err x.Full) failed fruitless = tt
uncalled (Err x.Write) failed fruitless = tt
uncalled (Err x.Lost) failed fruitless = (refl, refl)
uncalled (Err x.Memory) failed fruitless = (refl, refl)
uncalled (Err x.Read) failed fruitless = (refl, refl)
uncalled (Err (x.EventLine n)) failed fruitless = (refl, refl)
uncalled (Err (x.Plan fault)) failed fruitless = (refl, refl)
uncalled (Err x.Workers) failed fruitless = (refl, refl)
uncalled (Err x.Limit) failed fruitless = (refl, refl)

-- all of the input was read, and the pool ran
pub runs_all : (result : Result Report PoolStop) (text : List ℕ) (calls : List Planned) (workers limit : ℕ) (input left old new : Option (List ℕ)) (moments : List ℕ) → IsAccepted text calls workers limit
    → AreAllClocks limit input left moments → PoolWrote result calls workers limit moments old new → RunsAll result text workers limit input left old new
runs_all result text calls workers limit input left old new moments a all wrote = (calls, a, moments, all, wrote)

-- a pool that did not end well
pub stopped : (stop : PoolStop) (text : List ℕ) (workers limit : ℕ) (input left old new : Option (List ℕ)) → RunsAll (Err stop) text workers limit input left old new
    → PoolRan (Err (told_of_pool_stop stop)) text workers limit input left old new
stopped p.Full text workers limit input left old new all = inr all
stopped p.Write text workers limit input left old new all = all
stopped p.Lost text workers limit input left old new all = all
stopped p.Memory text workers limit input left old new all = inr (inr all)

-- where a book is lost, the writer was not called
pub leaves_last : {T : Type 0} (e : LastError) (f n f' n' : ℕ) → (IsErrOf {T = T} (Err e) l.Lost → (f' ≡ f) × (n' ≡ n)) → StopLeaves (Err (stop_of_last e)) f n f' n'
leaves_last l.Lost f n f' n' leaves = leaves refl
leaves_last l.Write f n f' n' leaves = tt
