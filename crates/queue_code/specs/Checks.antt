-- What is wrong with a list of instructions: at each index a table of checks on the instruction that stands there, those in
-- front of it and those behind it; and the fault of the list is that of the least index, and there the first of the table.
-- All of it is this project's rule.
use Rattle.std.specs.Prelude.{ℕ, ◌+◌, ◌-◌, ◌*◌, ◌==◌, nat_lt, nat_le, Bool, true, false, ◌&&◌, ◌||◌, if◌then◌else◌, List, [], ◌∷◌, ◌++◌, Option, Some, None, is_some, is_none, option_map, unwrap_or, length, take, drop}
use Rattle.std.specs.List.{range_with_len}
use Rattle.sched_time.specs.Times.{longest}
use Rattle.queue_code.specs.declared.fault.CodeFault.{CodeFault}
use Rattle.queue_code.specs.declared.fault.CodeFault.TheVariants as fault
use Rattle.queue_code.specs.declared.instr.Instr.{Instr}
use Rattle.queue_code.specs.declared.instr.Instr.TheVariants.{Submit, CancelFixed, CancelHere, Loop, EndLoop, Halt}
use Rattle.queue_code.specs.Calls.{Planned, most_calls_of_code, task_count, IsTimed}
use Rattle.queue_code.specs.Codes.{call_with_offset, pass, calls_of}

-- ---- what is in front of an instruction

-- a loop that has begun and not ended: the instructions in front of it, how often it is made, its step, and its
-- instructions so far
pub record Begun : Type 0 where
  pub before : List Instr
  pub times : ℕ
  pub every : ℕ
  pub body : List Instr

-- a loop ends among some instructions
abbrev pub has_end : List Instr → Bool
has_end [] = false
has_end (EndLoop ∷ is) = true
has_end (i ∷ is) = has_end is

-- a loop with one instruction more in front of it
abbrev pub behind : Instr → Option Begun → Option Begun
behind i None = None
behind i (Some loop) = Some (record loop { before = i ∷ loop.before })

-- the loop that is open at the end of some instructions: one behind whose beginning no loop ends
abbrev pub open_loop : List Instr → Option Begun
open_loop [] = None
open_loop (Loop times every ∷ is) =
    if has_end is then behind (Loop times every) (open_loop is) else Some (record { before = []; times = times; every = every; body = is })
open_loop (i ∷ is) = behind i (open_loop is)

-- the calls of the first iteration of a loop, so far
abbrev pub calls_inside : Begun → List Planned
calls_inside loop = pass 0 (task_count (calls_of loop.before)) (task_count (calls_of loop.before)) loop.body

-- the calls that are made before an instruction is executed first, where these stand in front of it and `loop` is open:
-- each loop is written out, but of the loop that is open only the first iteration is
abbrev pub calls_with : List Instr → Option Begun → List Planned
calls_with front None = calls_of front
calls_with front (Some loop) = calls_of loop.before ++ calls_inside loop

-- the moment of the first of some calls, and 0 where there is none
abbrev pub first_call_moment : List Planned → ℕ
first_call_moment [] = 0
first_call_moment (p ∷ calls) = p.0

-- the moment of the last of some calls, and where there is none that of the call before them
abbrev pub last_from : ℕ → List Planned → ℕ
last_from moment [] = moment
last_from moment (p ∷ calls) = last_from p.0 calls

-- the moment of the last of some calls, and 0 where there is none
abbrev pub last_call_moment : List Planned → ℕ
last_call_moment calls = last_from 0 calls

-- how much later a call is made in the last iteration than in the first
abbrev pub latest_base : Option Begun → ℕ
latest_base None = 0
latest_base (Some loop) = (loop.times - 1) * loop.every

-- ---- an instruction

-- the offset of a call, and 0 of an instruction that makes none
abbrev pub offset_of : Instr → ℕ
offset_of i = unwrap_or (option_map (λ p. p.0) (call_with_offset 0 0 i)) 0

-- an instruction makes a call
abbrev pub makes_call : Instr → Bool
makes_call (Loop times every) = false
makes_call EndLoop = false
makes_call Halt = false
makes_call _ = true

-- ---- the checks: an instruction is refused behind the instructions `front`, of which `loop` is open at the end

-- NoHalt: a halt that is not the last instruction
abbrev pub is_early_halt : Instr → List Instr → Bool
is_early_halt Halt [] = false
is_early_halt Halt (i ∷ rest) = true
is_early_halt i rest = false

-- Nested: a loop in a loop
abbrev pub is_nested : Option Begun → Instr → Bool
is_nested loop (Loop times every) = is_some loop
is_nested loop i = false

-- Unclosed: the end of a loop outside one, or a halt inside one
abbrev pub is_unclosed : Option Begun → Instr → Bool
is_unclosed loop EndLoop = is_none loop
is_unclosed loop Halt = is_some loop
is_unclosed loop i = false

-- a loop makes no call
abbrev pub has_no_call : Option Begun → Bool
has_no_call None = false
has_no_call (Some loop) = length (calls_inside loop) == 0

-- Empty: the end of a loop that makes no call
abbrev pub is_empty_loop : Option Begun → Instr → Bool
is_empty_loop loop EndLoop = has_no_call loop
is_empty_loop loop i = false

-- outside a loop, or at most `nth` tasks of this iteration are made so far
abbrev pub lacks_task : Option Begun → ℕ → Bool
lacks_task None nth = true
lacks_task (Some loop) nth = nat_le (task_count (calls_inside loop)) nth

-- BadTask: a cancel of a task that is not made before it
abbrev pub is_bad_task : List Instr → Option Begun → Instr → Bool
is_bad_task front loop (CancelFixed offset task) = nat_le (task_count (calls_with front loop)) task
is_bad_task front loop (CancelHere offset nth) = lacks_task loop nth
is_bad_task front loop i = false

-- a call with this offset is made later than at 2^62 in the last iteration
abbrev pub ends_late : Option Begun → ℕ → Bool
ends_late loop offset = nat_lt longest (latest_base loop + offset)

-- TooLarge: a loop's step, a delay, or a call's moment in the last iteration is above 2^62
abbrev pub is_too_large : Option Begun → Instr → Bool
is_too_large loop (Loop times every) = nat_lt longest every
is_too_large loop EndLoop = false
is_too_large loop Halt = false
is_too_large loop (Submit offset timing delay) = nat_lt longest delay || ends_late loop offset
is_too_large loop i = ends_late loop (offset_of i)

-- the second iteration begins before the last call of the first
abbrev pub overlaps : Option Begun → Bool
overlaps None = false
overlaps (Some loop) = nat_lt 1 loop.times && nat_lt (first_call_moment (calls_inside loop) + loop.every) (last_call_moment (calls_inside loop))

-- Order: a call whose first moment is before that of the call made before it, or the end of a loop whose iterations
-- overlap
abbrev pub is_out_of_order : List Instr → Option Begun → Instr → Bool
is_out_of_order front loop EndLoop = overlaps loop
is_out_of_order front loop i = makes_call i && nat_lt (offset_of i) (last_call_moment (calls_with front loop))

-- TooMany: a loop that is not made 1 to 65,536 times; a call outside a loop, or the end of one, with more than 65,536
-- calls so far, all iterations counted
abbrev pub is_too_many : List Instr → Option Begun → Instr → Bool
is_too_many front loop (Loop times every) = nat_lt times 1 || nat_lt most_calls_of_code times
is_too_many front loop Halt = false
is_too_many front loop EndLoop = nat_lt most_calls_of_code (length (calls_of front))
is_too_many front loop i = is_none loop && nat_lt most_calls_of_code (length (calls_of (front ++ i ∷ [])))

-- the table of checks of an instruction, where `rest` comes behind it, in their order
abbrev pub checks_with : List Instr → Option Begun → Instr → List Instr → List (CodeFault × Bool)
checks_with front loop i rest =
    (fault.NoHalt, is_early_halt i rest) ∷
    (fault.Nested, is_nested loop i) ∷
    (fault.Unclosed, is_unclosed loop i) ∷
    (fault.Empty, is_empty_loop loop i) ∷
    (fault.BadTask, is_bad_task front loop i) ∷
    (fault.TooLarge, is_too_large loop i) ∷
    (fault.Order, is_out_of_order front loop i) ∷
    (fault.TooMany, is_too_many front loop i) ∷ []

-- the table of an instruction that stands between these
abbrev pub checks : List Instr → Instr → List Instr → List (CodeFault × Bool)
checks front i rest = checks_with front (open_loop front) i rest

-- ---- the fault of a list

-- the first of some checks that fails
abbrev pub first_failed : List (CodeFault × Bool) → Option CodeFault
first_failed [] = None
first_failed (check ∷ rest) = if check.1 then Some check.0 else first_failed rest

-- a halt stands among some instructions
abbrev pub has_halt : List Instr → Bool
has_halt [] = false
has_halt (Halt ∷ is) = true
has_halt (i ∷ is) = has_halt is

-- what is wrong with the first of some instructions, where others are in front; and at the end, that there is no halt
abbrev pub fault_between : List Instr → List Instr → Option CodeFault
fault_between front [] = if has_halt front then None else Some fault.NoHalt
fault_between front (i ∷ rest) = first_failed (checks front i rest)

-- what is wrong at an index. The end of the list has one too, its length
abbrev pub fault_at : List Instr → ℕ → Option CodeFault
fault_at code index = fault_between (take index code) (drop index code)

-- a fault, and else a later one
abbrev pub or_else : Option CodeFault → Option CodeFault → Option CodeFault
or_else None later = later
or_else (Some first) later = Some first

-- the first fault at any of some indexes
abbrev pub fault_among : List Instr → List ℕ → Option CodeFault
fault_among code [] = None
fault_among code (index ∷ indexes) = or_else (fault_at code index) (fault_among code indexes)

-- the fault of a list of instructions
abbrev pub code_fault : List Instr → Option CodeFault
code_fault code = fault_among code (range_with_len 0 (length code + 1))

-- ---- timings, which no check tests: a span is within the limit by its type

-- the period, or fixed delay, of a submission is within the limit, as each span is
abbrev pub IsTimedInstr : Instr → Type 0
IsTimedInstr (Submit offset timing delay) = IsTimed timing
IsTimedInstr i = Unit {0}

-- so are those of all instructions
abbrev pub AreTimed : List Instr → Type 0
AreTimed [] = Unit {0}
AreTimed (i ∷ is) = IsTimedInstr i × AreTimed is
