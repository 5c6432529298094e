-- Readings: what was read of the front of a file.
use Rattle.std.proofs.Common.{◌≡◌, ℕ, ◌+◌, ◌⊎◌, List, ◌++◌, length, take, drop, Option, Some, None, Result, Ok, Err, inl, inr, ap, sym, subst, ◌∙◌, drop_at}
use lib.Seq.{take-append-le}
use Rattle.std.specs.Prelude.{IfErr, IfSome}
use Rattle.std.specs.Io.KnownBytes.{Consumes}
use Rattle.std.proofs.KnownBytes.{Consumes-trans}
use Rattle.std.proofs.Math.Seq.{take-add}
use Rattle.std.specs.declared.io.Error.{Error}
use Rattle.byte_ends.specs.Ends.{ReadsSome}
use Rattle.sched_engine.specs.declared.report.RunError.TheVariants as x
use Rattle.command_work.specs.EndCounts.{CountsFile, CountsFront}
use Rattle.command_work.specs.Errors.{IsOrMemory}
use Rattle.command_work.specs.Fronts.{IsReadOf, TakesAtMost}
use Rattle.command_work.specs.declared.error.ProgramError.{ProgramError}
use Rattle.command_work.specs.declared.error.ProgramError.TheVariants.{PlanFile, Run, TraceFile, TraceTooLong}

-- what a try brought into a part of a text stands behind the front of it
pub read_in_place : (old new : Option (List ℕ)) (result : Option ℕ) (front part rest : List ℕ) (filled : ℕ) → length front ≡ filled → ReadsSome result old new part
    → IfSome result (λ n. Consumes old new (take n (drop filled (front ++ (part ++ rest)))))
read_in_place old new (Some n) front part rest filled long read =
    subst (Consumes old new) (sym (ap (take n) (drop_at front (part ++ rest) filled long) ∙ take-append-le n part rest read.0)) read.1
read_in_place old new None front part rest filled long read = tt

-- what was read, and then what one more read brought behind it
pub read_more : (old mid new : Option (List ℕ)) (text room lent read : List ℕ) (filled n : ℕ) → take filled room ≡ take filled text → lent ≡ room → take filled read ≡ take filled lent
    → Consumes old mid (take filled text) → Consumes mid new (take n (drop filled read)) → Consumes old new (take (filled + n) read)
read_more old mid new text room lent read filled n stays is front before more =
    let same = front ∙ ap (take filled) is ∙ stays in
    let both = take-add filled n read ∙ ap (λ (l : List ℕ). l ++ take n (drop filled read)) same in
    subst (Consumes old new) (sym both) (Consumes-trans old mid new (take filled text) (take n (drop filled read)) before more)

-- a fault of a plan's file, as `plan_front` tells it
pub counts_of_plan : {T : Type 0} (result : Result T ProgramError) (f r f' r' : ℕ) → CountsFront PlanFile result f r f' r' → CountsFile result f r f' r'
counts_of_plan (Ok text) f r f' r' counts = counts
counts_of_plan (Err told) f r f' r' (inl fault) = rw fault.0 fault.1
counts_of_plan (Err told) f r f' r' (inr memory) = rw memory.0 memory.1

-- what is told of a plan's file that was opened, by what was told of its front
pub plan_told : {P V : Type 0} (remaining : P → Option (List ℕ)) (failed fruitless : P → ℕ) (most : ℕ) (opened : Result P Error) (file after : P) (result : Result V ProgramError)
    → opened ≡ Ok file → IfErr result (IsOrMemory PlanFile) → TakesAtMost most (remaining file) (remaining after)
    → CountsFile result (failed file) (fruitless file) (failed after) (fruitless after)
    → IfErr result (λ e. (e ≡ Run x.Memory) ⊎ ((e ≡ PlanFile) × IsReadOf remaining failed fruitless most opened None))
plan_told remaining failed fruitless most opened file after (Ok text) is fault taken counts = tt
plan_told remaining failed fruitless most opened file after (Err e) is (inl bad) taken counts =
    inr (bad, rw is (record { after = after; taken = taken; bad = rw bad at counts }))
plan_told remaining failed fruitless most opened file after (Err e) is (inr memory) taken counts = inl memory

-- what is told of a trace's file that was opened, by what was told of its bytes
pub trace_told : {P V : Type 0} (remaining : P → Option (List ℕ)) (failed fruitless : P → ℕ) (most : ℕ) (opened : Result P Error) (file after : P) (result : Result V ProgramError)
    → opened ≡ Ok file → IfErr result (λ e. (e ≡ TraceTooLong) ⊎ IsOrMemory TraceFile e) → TakesAtMost most (remaining file) (remaining after)
    → CountsFile result (failed file) (fruitless file) (failed after) (fruitless after)
    → IfErr result (λ e. (e ≡ TraceTooLong) ⊎ (e ≡ Run x.Memory) ⊎ ((e ≡ TraceFile) × IsReadOf remaining failed fruitless most opened None))
trace_told remaining failed fruitless most opened file after (Ok text) is fault taken counts = tt
trace_told remaining failed fruitless most opened file after (Err e) is (inl long) taken counts = inl long
trace_told remaining failed fruitless most opened file after (Err e) is (inr (inl bad)) taken counts =
    inr (inr (bad, rw is (record { after = after; taken = taken; bad = rw bad at counts })))
trace_told remaining failed fruitless most opened file after (Err e) is (inr (inr memory)) taken counts = inr (inl memory)
