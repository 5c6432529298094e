-- Where a cursor stands in a code, and the calls that are left to it. All of it is this project's rule.
use Rattle.std.specs.Prelude.{◌≡◌, ℕ, zero, suc, ◌+◌, ◌*◌, ◌-◌, ◌<◌, ◌≤◌, true, false, List, [], ◌∷◌, ◌++◌, Option, Some, None, length, drop, slice_get}
use Rattle.queue_code.specs.declared.instr.Instr.{Instr}
use Rattle.queue_code.specs.declared.instr.Instr.TheVariants.{Loop, EndLoop, Halt}
use Rattle.queue_code.specs.declared.cursor.Cursor.{Cursor}
use Rattle.queue_code.specs.Calls.{Planned, most_calls_of_code, IsOrderlyFrom}
use Rattle.queue_code.specs.Codes.{tasks_in, pass, iterations, body_of, calls_from}

-- the loop around an instruction: the index at which it begins, how often it is made, its step and its instructions
pub record Enclosing : Type 0 where
  pub place : ℕ
  pub times : ℕ
  pub every : ℕ
  pub body : List Instr

-- the loop that is open behind an instruction
abbrev pub loop_behind : Option Enclosing → ℕ → Instr → List Instr → Option Enclosing
loop_behind around place (Loop times every) is = Some (record { place = place; times = times; every = every; body = body_of is })
loop_behind around place EndLoop is = None
loop_behind around place i is = around

-- the loop that is open n instructions further on
abbrev pub loop_from : Option Enclosing → ℕ → List Instr → ℕ → Option Enclosing
loop_from around place is zero = around
loop_from around place [] (suc n) = around
loop_from around place (i ∷ is) (suc n) = loop_from (loop_behind around place i is) (place + 1) is n

-- the loop that is open at an index
abbrev pub loop_around : List Instr → ℕ → Option Enclosing
loop_around code index = loop_from None 0 code index

-- the first instruction makes a call
abbrev pub BeginsWithCall : List Instr → Type 0
BeginsWithCall [] = ⊥
BeginsWithCall (Loop times every ∷ is) = ⊥
BeginsWithCall (EndLoop ∷ is) = ⊥
BeginsWithCall (Halt ∷ is) = ⊥
BeginsWithCall (i ∷ is) = Unit {0}

-- the calls that are left at some instructions. In a loop: those of the rest of the iteration, of the iterations
-- after it, and those behind the loop
abbrev pub left_within : Option Enclosing → List Instr → Cursor → List Planned
left_within None is c = calls_from false c.tasks is
left_within (Some around) is c =
    pass c.base c.start c.tasks (body_of is) ++
    (iterations (around.times - (c.iteration + 1)) (c.iteration + 1) around.every around.body (c.start + tasks_in around.body) ++
    calls_from true (c.start + (around.times - c.iteration) * tasks_in around.body) is)

-- the calls that are left to a cursor of a code
abbrev pub calls_left : List Instr → Cursor → List Planned
calls_left code c = left_within (loop_around code c.index) (drop c.index code) c

-- the registers fit the loop around: the base is that of the iteration, and as many tasks are made as stand before
-- the instructions
abbrev pub FitsLoop : Option Enclosing → List Instr → Cursor → Type 0
FitsLoop None is c = (c.base ≡ 0) × (c.start ≡ 0)
FitsLoop (Some around) is c =
    (c.base ≡ c.iteration * around.every) × (c.iteration < around.times) ×
    (c.tasks + tasks_in (body_of is) ≡ c.start + tasks_in around.body)

-- a cursor stands in a code: its registers fit, and the calls that are left are in order and few enough
pub record IsCursorAt (code : List Instr) (c : Cursor) : Type 0 where
  pub within : c.index ≤ length code
  pub fits : FitsLoop (loop_around code c.index) (drop c.index code) c
  pub order : (moment : ℕ) × IsOrderlyFrom c.tasks moment (calls_left code c)
  pub room : c.tasks + length (calls_left code c) ≤ most_calls_of_code

-- a cursor is past the end of a code
abbrev pub IsOver : List Instr → Cursor → Type 0
IsOver code c = slice_get code c.index ≡ None

-- how many instructions a cursor has executed
abbrev pub steps_of : Cursor → ℕ
steps_of c = c.steps

-- how many instructions more may have been executed where no instruction stands at a cursor: those of the fetch that
-- met the end
abbrev pub steps_at_end : Option Instr → ℕ
steps_at_end None = 3
steps_at_end (Some i) = 0

-- a cursor is one of a code. Of the 65,536 calls that a code may make, it has executed at most 3 instructions for each that
-- is not left, and 3 for the end
pub record IsCursorOf (code : List Instr) (c : Cursor) : Type 0 where
  pub at : IsCursorAt code c
  pub counted : steps_of c + 3 * length (calls_left code c) ≤ 3 * most_calls_of_code + steps_at_end (slice_get code c.index)
