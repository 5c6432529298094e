-- EndCounts: what is counted of an end that was not called.
use Rattle.std.proofs.Common.{ℕ, Result, Ok, Err, refl}
use Rattle.std.specs.Prelude.{IsErrOf}
use Rattle.byte_ends.proofs.Tries.{no_try}
use Rattle.sched_engine.specs.declared.report.RunError.TheVariants as x
use Rattle.command_work.specs.EndCounts.{CountsInput}
use Rattle.command_work.specs.declared.error.ProgramError.{ProgramError}
use Rattle.command_work.specs.declared.error.ProgramError.TheVariants as f

-- a reader that was not called counts what an answer says that tells no fault of reading
pub unread : (answer : Result ℕ ProgramError) (failed fruitless : ℕ) → (IsErrOf answer (f.Run x.Read) → ⊥) → CountsInput answer failed fruitless failed fruitless
unread (Ok status) failed fruitless other = no_try failed fruitless
unread (Err f.Arguments) failed fruitless other = no_try failed fruitless
unread (Err f.LintOptions) failed fruitless other = no_try failed fruitless
unread (Err f.PlanFile) failed fruitless other = no_try failed fruitless
unread (Err f.PlanUnwritten) failed fruitless other = no_try failed fruitless
unread (Err f.TraceFile) failed fruitless other = no_try failed fruitless
unread (Err f.TraceTooLong) failed fruitless other = no_try failed fruitless
unread (Err f.EndsFirst) failed fruitless other = no_try failed fruitless
unread (Err (f.Crowded marks)) failed fruitless other = no_try failed fruitless
unread (Err (f.Run (x.Plan fault))) failed fruitless other = no_try failed fruitless
unread (Err (f.Run x.Workers)) failed fruitless other = no_try failed fruitless
unread (Err (f.Run x.Limit)) failed fruitless other = no_try failed fruitless
unread (Err (f.Run (x.EventLine line))) failed fruitless other = no_try failed fruitless
unread (Err (f.Run x.Full)) failed fruitless other = no_try failed fruitless
unread (Err (f.Run x.Read)) failed fruitless other = absurd (other refl)
unread (Err (f.Run x.Write)) failed fruitless other = no_try failed fruitless
unread (Err (f.Run x.Lost)) failed fruitless other = no_try failed fruitless
unread (Err (f.Run x.Memory)) failed fruitless other = no_try failed fruitless
