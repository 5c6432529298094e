-- Laws of the checks and of the calls of a code. All of it is this project's rule.
use Rattle.std.specs.Prelude.{◌≡◌, ◌↔◌, ℕ, ◌<◌, ◌≤◌, Bool, true, false, List, [], ◌∷◌, Some, None, length}
use Rattle.queue_code.specs.declared.fault.CodeFault.{CodeFault}
use Rattle.queue_code.specs.declared.instr.Instr.{Instr}
use Rattle.queue_code.specs.declared.instr.Instr.TheVariants.{CancelHere, Loop, EndLoop, Halt}
use Rattle.sched_time.specs.Times.{longest}
use Rattle.sched_time.specs.Dues.{next_due}
use Rattle.sched_time.specs.declared.timing.Timing.TheVariants.{Rate, Fixed}
use Rattle.queue_code.specs.Calls.{most_calls_of_code, IsPlanned}
use Rattle.queue_code.specs.Codes.{calls_of}
use Rattle.queue_code.specs.Checks.{fault_at, code_fault, AreTimed}
use Rattle.queue_code.specs.Cursors.{BeginsWithCall}

-- the fault of a list stands at some index, and at no index before it is anything wrong
abbrev pub LeastIndex : Type 0
LeastIndex =
    (code : List Instr) (e : CodeFault) → code_fault code ≡ Some e →
    (index : ℕ) × (fault_at code index ≡ Some e) × ((earlier : ℕ) → earlier < index → fault_at code earlier ≡ None)

-- in a list without a fault nothing is wrong at any index, nor at its end
abbrev pub NothingWrong : Type 0
NothingWrong = (code : List Instr) → code_fault code ≡ None → (index : ℕ) → index ≤ length code → fault_at code index ≡ None

-- the calls of a list without a fault are few enough, and in order
abbrev pub CodesAreOrderly : Type 0
CodesAreOrderly = (code : List Instr) → AreTimed code → code_fault code ≡ None → IsPlanned (calls_of code)

-- the shape of a code, in a loop or in none: loops are closed and not nested, begin with a call, and are made 1 to 65,536
-- times, with a step within the limit; a task of the same iteration is cancelled in a loop alone; and the last instruction
-- is the only halt
abbrev pub IsShaped : Bool → List Instr → Type 0
IsShaped inside [] = ⊥
IsShaped false (Loop times every ∷ is) = (1 ≤ times) × (times ≤ most_calls_of_code) × (every ≤ longest) × BeginsWithCall is × IsShaped true is
IsShaped true (Loop times every ∷ is) = ⊥
IsShaped true (EndLoop ∷ is) = IsShaped false is
IsShaped false (EndLoop ∷ is) = ⊥
IsShaped false (Halt ∷ is) = is ≡ []
IsShaped true (Halt ∷ is) = ⊥
IsShaped false (CancelHere offset nth ∷ is) = ⊥
IsShaped inside (i ∷ is) = IsShaped inside is

-- a list is accepted exactly where it has the shape of a code, and its calls, with each loop written out, are few enough, and
-- in order
abbrev pub AcceptedExactly : Type 0
AcceptedExactly = (code : List Instr) → AreTimed code → (code_fault code ≡ None) ↔ (IsShaped false code × IsPlanned (calls_of code))

-- after a period of 0 the next run is due where the one before was due, and after a fixed delay of 0 where it ended
abbrev pub ZeroNeverWaits : Type 0
ZeroNeverWaits = (due finished : ℕ) → (next_due (Rate 0) due finished ≡ Some due) × (next_due (Fixed 0) due finished ≡ Some finished)
