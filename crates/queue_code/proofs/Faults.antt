-- What is wrong with a list of instructions is what the check finds that goes over it once.
use Rattle.std.proofs.Common.{◌≡◌, ℕ, suc, ◌+◌, ◌*◌, ◌-◌, true, false, List, [], ◌∷◌, ◌++◌, Option, Some, None, length, refl, sym, ap, ◌∙◌, arith, append_assoc, append-nil, length-append}
use Rattle.std.specs.List.{range_with_len}
use Rattle.std.proofs.Math.Seq.{take-append_seam, drop-append_seam}
use Rattle.std.proofs.lemmas.Bool.{ltb-false, or_parts}
use Rattle.queue_code.specs.declared.fault.CodeFault.{CodeFault}
use Rattle.queue_code.specs.declared.instr.Instr.{Instr}
use Rattle.queue_code.specs.declared.instr.Instr.TheVariants.{Loop, EndLoop, Halt}
use Rattle.queue_code.specs.declared.progress.OpenLoop.{OpenLoop}
use Rattle.queue_code.specs.Codes.{tasks_by}
use Rattle.queue_code.specs.Checks.{offset_of, checks, first_failed, has_halt, fault_between, fault_at, or_else, fault_among, code_fault}
use Rattle.queue_code.specs.own.Walks as walks
use Rattle.queue_code.proofs.Passing.{passes_all, last_halt}
use Rattle.queue_code.proofs.ClosedLoops.{halt_append, no_halt}
use Rattle.queue_code.proofs.MetInFront.{Outside, Inside, met, Meets, turn, turned, call_outside, loop_begins, call_inside, loop_ends}
use Rattle.queue_code.proofs.ChecksAgree.{some_made, fails_outside, fails_inside}

-- the first fault of some instructions, where others are in front
abbrev faults : List Instr → List Instr → Option CodeFault
faults front [] = fault_between front []
faults front (i ∷ rest) = or_else (first_failed (checks front i rest)) (faults (front ++ i ∷ []) rest)

either : (a b later other : Option CodeFault) → a ≡ b → (a ≡ None → later ≡ other) → or_else a later ≡ or_else b other
either None b later other e same = same refl ∙ ap (λ (o : Option CodeFault). or_else o other) e
either (Some first) b later other e same = ap (λ (o : Option CodeFault). or_else o other) e

or_last : (a b later : Option CodeFault) → a ≡ b → (a ≡ None → later ≡ None) → a ≡ or_else b later
or_last None b later e same = sym (same refl) ∙ ap (λ (o : Option CodeFault). or_else o later) e
or_last (Some first) b later e same = ap (λ (o : Option CodeFault). or_else o later) e

halted : (front rest : List Instr) → has_halt (front ++ Halt ∷ []) ≡ true → rest ≡ [] → faults (front ++ Halt ∷ []) rest ≡ None
halted front [] halt last = rw halt refl
halted front (i ∷ rest) halt last = cc

no_halt_outside : (front : List Instr) (calls tasks last : ℕ) → Outside front calls tasks last → has_halt front ≡ false
no_halt_outside front calls tasks last o = ap has_halt (sym (append-nil front)) ∙ halt_append false front [] o.closed

no_halt_inside : (front : List Instr) (r : OpenLoop) (calls tasks last : ℕ) → Inside front r calls tasks last → has_halt front ≡ false
no_halt_inside front r calls tasks last o = ap has_halt o.is ∙ halt_append false o.before (Loop r.times r.every ∷ o.body) o.closed ∙ no_halt o.body o.plain

finds : (front : List Instr) (open_ : Option OpenLoop) (calls tasks last : ℕ) (is : List Instr) → Meets front open_ calls tasks last → walks.first_fault (met open_ calls tasks last) is ≡ faults front is
finds front None calls tasks last [] o = rw (no_halt_outside front calls tasks last o) refl
finds front (Some r) calls tasks last [] o = rw (no_halt_inside front r calls tasks last o) refl
finds front None calls tasks last (Halt ∷ rest) o =
    or_last (first_failed (walks.walk_checks (met None calls tasks last) Halt rest)) (first_failed (checks front Halt rest)) (faults (front ++ Halt ∷ []) rest) (fails_outside front Halt rest calls tasks last o)
    (λ none. halted front rest (halt_append false front (Halt ∷ []) o.closed) (last_halt rest (passes_all (met None calls tasks last) Halt rest none).early))
finds front (Some r) calls tasks last (Halt ∷ rest) o =
    or_last (first_failed (walks.walk_checks (met (Some r) calls tasks last) Halt rest)) (first_failed (checks front Halt rest)) (faults (front ++ Halt ∷ []) rest) (fails_inside front r Halt rest calls tasks last o)
    (λ none. let e = (passes_all (met (Some r) calls tasks last) Halt rest none).unclosed in cc)
finds front None calls tasks last (Loop times every ∷ rest) o =
    let p = met None calls tasks last in
    either (first_failed (walks.walk_checks p (Loop times every) rest)) (first_failed (checks front (Loop times every) rest)) (walks.first_fault (walks.walk_after p (Loop times every)) rest) (faults (front ++ Loop times every ∷ []) rest) (fails_outside front (Loop times every) rest calls tasks last o)
    (λ none.
    let fine = passes_all p (Loop times every) rest none in
    finds (front ++ Loop times every ∷ []) (Some (turn times every tasks)) calls tasks last rest (loop_begins front times every calls tasks last o (ltb-false times 1 (or_parts _ _ fine.many).0)))
finds front (Some r) calls tasks last (Loop times every ∷ rest) o =
    let p = met (Some r) calls tasks last in
    either (first_failed (walks.walk_checks p (Loop times every) rest)) (first_failed (checks front (Loop times every) rest)) (walks.first_fault (walks.walk_after p (Loop times every)) rest) (faults (front ++ Loop times every ∷ []) rest) (fails_inside front r (Loop times every) rest calls tasks last o)
    (λ none. let e = (passes_all p (Loop times every) rest none).nested in cc)
finds front None calls tasks last (EndLoop ∷ rest) o =
    let p = met None calls tasks last in
    either (first_failed (walks.walk_checks p EndLoop rest)) (first_failed (checks front EndLoop rest)) (walks.first_fault (walks.walk_after p EndLoop) rest) (faults (front ++ EndLoop ∷ []) rest) (fails_outside front EndLoop rest calls tasks last o)
    (λ none. let e = (passes_all p EndLoop rest none).unclosed in cc)
finds front (Some r) calls tasks last (EndLoop ∷ rest) o =
    let p = met (Some r) calls tasks last in
    either (first_failed (walks.walk_checks p EndLoop rest)) (first_failed (checks front EndLoop rest)) (walks.first_fault (walks.walk_after p EndLoop) rest) (faults (front ++ EndLoop ∷ []) rest) (fails_inside front r EndLoop rest calls tasks last o)
    (λ none.
    let fine = passes_all p EndLoop rest none in
    finds (front ++ EndLoop ∷ []) None (calls + r.times * r.calls) (r.start + r.times * (tasks - r.start)) ((r.times - 1) * r.every + last) rest
    (loop_ends front r calls tasks last o (some_made r.calls fine.empty) (ltb-false 65536 (calls + r.times * r.calls) fine.many)))
finds front None calls tasks last (i ∷ rest) o =
    let p = met None calls tasks last in
    either (first_failed (walks.walk_checks p i rest)) (first_failed (checks front i rest)) (walks.first_fault (walks.walk_after p i) rest) (faults (front ++ i ∷ []) rest) (fails_outside front i rest calls tasks last o)
    (λ none.
    let fine = passes_all p i rest none in
    finds (front ++ i ∷ []) None (calls + 1) (tasks + tasks_by i) (offset_of i) rest (call_outside front i calls tasks last refl o (ltb-false 65536 (calls + 1) fine.many)))
finds front (Some r) calls tasks last (i ∷ rest) o =
    let p = met (Some r) calls tasks last in
    either (first_failed (walks.walk_checks p i rest)) (first_failed (checks front i rest)) (walks.first_fault (walks.walk_after p i) rest) (faults (front ++ i ∷ []) rest) (fails_inside front r i rest calls tasks last o)
    (λ none. finds (front ++ i ∷ []) (Some (turned r i)) calls (tasks + tasks_by i) (offset_of i) rest (call_inside front r i calls tasks last refl o))

or_none : (a : Option CodeFault) → or_else a None ≡ a
or_none None = refl
or_none (Some first) = refl

at_seam : (front is : List Instr) → fault_at (front ++ is) (length front) ≡ fault_between front is
at_seam front is = rw (take-append_seam front is, drop-append_seam front is) refl

ranged : (front is : List Instr) → fault_among (front ++ is) (range_with_len (length front) (length is + 1)) ≡ faults front is
ranged front [] = or_none (fault_at (front ++ []) (length front)) ∙ at_seam front []
ranged front (i ∷ is) =
    let code = front ++ i ∷ is in
    let count : length (i ∷ is) + 1 ≡ suc (length is + 1) = omega arith in
    let next : length front + 1 ≡ length (front ++ i ∷ []) = omega (arith, length-append front (i ∷ [])) in
    ap (λ (n : ℕ). fault_among code (range_with_len (length front) n)) count
    ∙ ap (λ (o : Option CodeFault). or_else o (fault_among code (range_with_len (length front + 1) (length is + 1)))) (at_seam front (i ∷ is))
    ∙ ap (λ (n : ℕ). or_else (first_failed (checks front i is)) (fault_among code (range_with_len n (length is + 1)))) next
    ∙ ap (λ (js : List Instr). or_else (first_failed (checks front i is)) (fault_among js (range_with_len (length (front ++ i ∷ [])) (length is + 1)))) (sym (append_assoc front (i ∷ []) is))
    ∙ ap (or_else (first_failed (checks front i is))) (ranged (front ++ i ∷ []) is)

opening_meets : Outside [] 0 0 0
opening_meets = record { closed = tt; calls_is = refl; tasks_is = refl; last_is = refl; few = omega arith }

-- the check finds the fault of the list
pub fault_is : (code : List Instr) → code_fault code ≡ walks.first_fault walks.walk_opening code
fault_is code = ranged [] code ∙ sym (finds [] None 0 0 0 code opening_meets)
