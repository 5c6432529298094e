use Rattle.std.proofs.Common.{ap, ◌≡◌, ◌<◌, ◌≤◌, ◌∙◌, sym, refl, arith, inl, inr, ℕ, List, length, Option, Some, None, Result, Ok, Err, take, replicate}
use Rattle.std.specs.Prelude.{IfOk, IfSome}
use Rattle.std.proofs.lemmas.List.{length-take, length-replicate, take_all}
use Rattle.std.specs.declared.io.Error.{Error}
use Rattle.command_work.specs.Errors.{IsOrMemory}
use Rattle.command_work.specs.Fronts.{IsReadOf, most_of_trace}
use Rattle.trace_check.specs.Standing.{most_bytes}
use Rattle.command_work.specs.declared.error.ProgramError.{ProgramError}
use Rattle.command_work.specs.declared.error.ProgramError.TheVariants.{TraceFile, TraceTooLong}
use Rattle.command_work.proofs.Readings.{trace_told}
use Rattle.command_work.proofs.files.trace_text.Goals as goal

-- all bytes are the front of them where they are few enough
all_are_front : (most : ℕ) (known : Option (List ℕ)) (text : List ℕ) → IfSome known (λ bytes. text ≡ bytes) → length text ≤ most → IfSome known (λ bytes. text ≡ take most bytes)
all_are_front most None text all short = all
all_are_front most (Some bytes) text all short = all ∙ sym (take_all most bytes (omega (arith, ap length all, short)))

-- what was read of a file that was opened
read_all : {R V : Type 0} (remaining : R → Option (List ℕ)) (failed fruitless : R → ℕ) (opened : Result R Error) (reader : R) (items : V → List ℕ) (result : Result V ProgramError)
    → opened ≡ Ok reader → IfOk result (λ t. IfSome (remaining reader) (λ bytes. items t ≡ bytes)) → IfOk result (λ t. length (items t) ≤ most_bytes)
    → IfOk result (λ t. IsReadOf remaining failed fruitless most_of_trace opened (Some (items t)))
read_all remaining failed fruitless opened reader items (Ok t) is all short = rw is (all_are_front most_of_trace (remaining reader) (items t) all (omega (arith, short)))
read_all remaining failed fruitless opened reader items (Err e) is all short = tt

-- there is a front that is longer than a trace where there are more bytes than one has
front_is_long : (longest most : ℕ) (known : Option (List ℕ)) → longest < most → IfSome known (λ bytes. longest < length bytes)
    → (text : List ℕ) × IfSome known (λ bytes. text ≡ take most bytes) × (longest < length text)
front_is_long longest most None more long = let zero : ℕ = 0 in (replicate most zero, long, omega (arith, length-replicate most zero))
front_is_long longest most (Some bytes) more long = (take most bytes, refl, omega (arith, length-take most bytes, long))

-- the fault of a file is not that it is too long
not_long : {T : Type 0} (fault : ProgramError) (result : Result T ProgramError) → IsOrMemory TraceFile fault → result ≡ Err fault → result ≡ Err TraceTooLong → ⊥
not_long fault result (inl file) is long = cc
not_long fault result (inr memory) is long = cc

pub returns-in-Ok-clause-text : goal.returns-in-Ok-clause-text
returns-in-Ok-clause-text g c = read_all g.P.Source.remaining g.P.Source.failed g.P.Source.fruitless c.args.opened c.in-Ok.file (λ t. t.items) c.whole_trace.result c.in-Ok.is c.whole_trace.ensures.text c.whole_trace.ensures.size

pub returns-in-Ok-clause-long : goal.returns-in-Ok-clause-long
returns-in-Ok-clause-long g c = λ q.
    let found = front_is_long most_bytes most_of_trace (g.P.Source.remaining c.in-Ok.file) (omega arith) (c.whole_trace.ensures.long q) in
    (found.0, rw c.in-Ok.is found.1, found.2)

pub returns-in-Err-clause-long : goal.returns-in-Err-clause-long
returns-in-Err-clause-long g c = λ q. absurd (not_long c.of_system.result _ c.of_system.ensures.either refl q)

pub returns-in-Ok-clause-fault : goal.returns-in-Ok-clause-fault
returns-in-Ok-clause-fault g c =
    trace_told g.P.Source.remaining g.P.Source.failed g.P.Source.fruitless most_of_trace c.args.opened c.in-Ok.file c.whole_trace.new.file c.whole_trace.result
    c.in-Ok.is c.whole_trace.ensures.fault c.whole_trace.ensures.taken c.whole_trace.ensures.counts
