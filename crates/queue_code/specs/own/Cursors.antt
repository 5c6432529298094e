-- Beside `specs/Cursors`: what only private contracts and proofs cite.
-- All of it is this project's rule.
use Rattle.std.specs.Prelude.{◌≡◌, ℕ, ◌<◌, ◌≤◌, Bool, true, false, List, [], ◌∷◌, Option, Some, length, slice_get}
use Rattle.queue_code.specs.declared.instr.Instr.{Instr}
use Rattle.queue_code.specs.declared.instr.Instr.TheVariants.{Loop, EndLoop, Halt}
use Rattle.queue_code.specs.Calls.{IsPlanned}
use Rattle.queue_code.specs.Codes.{calls_of}
use Rattle.queue_code.specs.Cursors.{Enclosing, loop_around, BeginsWithCall}

-- in a loop or in none: loops are closed and not nested, are made once at least and begin with a call; a halt is
-- the last instruction
abbrev pub IsCodeForm : Bool → List Instr → Type 0
IsCodeForm false [] = Unit {0}
IsCodeForm true [] = ⊥
IsCodeForm false (Loop times every ∷ is) = (1 ≤ times) × BeginsWithCall is × IsCodeForm true is
IsCodeForm true (Loop times every ∷ is) = ⊥
IsCodeForm true (EndLoop ∷ is) = IsCodeForm false is
IsCodeForm false (EndLoop ∷ is) = ⊥
IsCodeForm false (Halt ∷ is) = is ≡ []
IsCodeForm true (Halt ∷ is) = ⊥
IsCodeForm inside (i ∷ is) = IsCodeForm inside is

-- a list of instructions is a code: it is well formed, and its calls are few enough, and in order
pub record IsCode (code : List Instr) : Type 0 where
  pub form : IsCodeForm false code
  pub order : IsPlanned (calls_of code)

-- the table has, at each index within a loop, the index at which the loop begins
abbrev pub IsLoopTable : List Instr → List ℕ → Type 0
IsLoopTable code table =
    (index : ℕ) (around : Enclosing) → index < length code → loop_around code index ≡ Some around → slice_get table index ≡ Some around.place

-- no loop ends at this instruction
abbrev pub EndsNoLoop : Option Instr → Type 0
EndsNoLoop (Some EndLoop) = ⊥
EndsNoLoop _ = Unit {0}

-- no loop begins or ends at this instruction
abbrev pub IsPlain : Option Instr → Type 0
IsPlain (Some (Loop times every)) = ⊥
IsPlain (Some EndLoop) = ⊥
IsPlain _ = Unit {0}
