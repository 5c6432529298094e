-- The calls that a list of instructions makes: each loop written out, submissions numbered by counting.
-- All of it is this project's rule.
use Rattle.std.specs.Prelude.{ℕ, zero, suc, ◌+◌, ◌*◌, Bool, true, false, List, [], ◌∷◌, ◌++◌, Option, Some, None, option_map}
use Rattle.queue_code.specs.declared.call.CodeCall.{CodeCall}
use Rattle.queue_code.specs.declared.call.CodeCall.TheVariants as call
use Rattle.queue_code.specs.declared.instr.Instr.{Instr}
use Rattle.queue_code.specs.declared.instr.Instr.TheVariants.{Submit, Illegal, CancelFixed, CancelHere, SetPolicy, Shutdown, ShutdownNow, Ask, Loop, EndLoop, Halt}
use Rattle.queue_code.specs.Calls.{Planned}

-- the call of an instruction with its offset, if it makes one, where `count` tasks are made before it and `start` of
-- them before its iteration
abbrev pub call_with_offset : ℕ → ℕ → Instr → Option (ℕ × CodeCall)
call_with_offset start count (Submit offset timing delay) = Some (offset, call.Submit count timing delay)
call_with_offset start count (Illegal offset) = Some (offset, call.Illegal count)
call_with_offset start count (CancelFixed offset task) = Some (offset, call.Cancel task)
call_with_offset start count (CancelHere offset nth) = Some (offset, call.Cancel (start + nth))
call_with_offset start count (SetPolicy offset which value) = Some (offset, call.SetPolicy which value)
call_with_offset start count (Shutdown offset) = Some (offset, call.Shutdown)
call_with_offset start count (ShutdownNow offset) = Some (offset, call.ShutdownNow)
call_with_offset start count (Ask offset) = Some (offset, call.Ask)
call_with_offset start count _ = None

-- that call with its moment, which is its offset after a base
abbrev pub call_by : ℕ → ℕ → ℕ → Instr → Option Planned
call_by base start count i = option_map (λ p. (base + p.0, p.1)) (call_with_offset start count i)

-- a call, if there is one, in front of others
abbrev pub in_front : Option Planned → List Planned → List Planned
in_front None calls = calls
in_front (Some planned) calls = planned ∷ calls

-- how many tasks an instruction makes
abbrev pub tasks_by : Instr → ℕ
tasks_by (Submit offset timing delay) = 1
tasks_by (Illegal offset) = 1
tasks_by _ = 0

-- how many tasks instructions make, each once
abbrev pub tasks_in : List Instr → ℕ
tasks_in [] = 0
tasks_in (i ∷ is) = tasks_by i + tasks_in is

-- the calls of instructions, each once, in order
abbrev pub pass : ℕ → ℕ → ℕ → List Instr → List Planned
pass base start count [] = []
pass base start count (i ∷ is) = in_front (call_by base start count i) (pass base start (count + tasks_by i) is)

-- the calls of `n` iterations of a loop, from iteration r on: its base is r times the loop's step
abbrev pub iterations : ℕ → ℕ → ℕ → List Instr → ℕ → List Planned
iterations zero r every body count = []
iterations (suc n) r every body count = pass (r * every) count count body ++ iterations n (r + 1) every body (count + tasks_in body)

-- the instructions of a loop: those up to its end
abbrev pub body_of : List Instr → List Instr
body_of [] = []
body_of (EndLoop ∷ is) = []
body_of (i ∷ is) = i ∷ body_of is

-- the calls of instructions that `count` tasks are made before. A loop is written out where it begins. `inside`
-- says that the instructions up to the next end of a loop belong to a loop that was written out
abbrev pub calls_from : Bool → ℕ → List Instr → List Planned
calls_from inside count [] = []
calls_from false count (Loop times every ∷ is) =
    iterations times 0 every (body_of is) count ++ calls_from true (count + times * tasks_in (body_of is)) is
calls_from false count (Halt ∷ is) = []
calls_from false count (i ∷ is) = in_front (call_by 0 0 count i) (calls_from false (count + tasks_by i) is)
calls_from true count (EndLoop ∷ is) = calls_from false count is
calls_from true count (i ∷ is) = calls_from true count is

-- the calls of a code
abbrev pub calls_of : List Instr → List Planned
calls_of code = calls_from false 0 code
