-- How the check goes over a list of instructions, once and with a few numbers. It is a means of proof, and speaks of
-- the check's own types: what is wrong with a list is defined in `Checks`, and `proofs/Faults` shows that this is the same.
use Rattle.std.specs.Prelude.{ℕ, ◌+◌, ◌-◌, ◌*◌, ◌==◌, nat_lt, nat_le, Bool, true, false, ◌&&◌, ◌||◌, if◌then◌else◌, List, [], ◌∷◌, Option, Some, None, is_some, is_none}
use Rattle.sched_time.specs.Times.{longest}
use Rattle.queue_code.specs.declared.fault.CodeFault.{CodeFault}
use Rattle.queue_code.specs.declared.fault.CodeFault.TheVariants as fault
use Rattle.queue_code.specs.declared.instr.Instr.{Instr}
use Rattle.queue_code.specs.declared.instr.Instr.TheVariants.{Submit, CancelFixed, CancelHere, Loop, EndLoop, Halt}
use Rattle.queue_code.specs.declared.progress.OpenLoop.{OpenLoop}
use Rattle.queue_code.specs.declared.progress.Progress.{Progress}
use Rattle.queue_code.specs.Calls.{most_calls_of_code}
use Rattle.queue_code.specs.Codes.{tasks_by}
use Rattle.queue_code.specs.Checks.{offset_of, makes_call, is_early_halt, first_failed, or_else}

-- before the first instruction
abbrev pub walk_opening : Progress
walk_opening = record { open_loop = None; calls = 0; tasks = 0; last = 0 }

-- how much later a call is made in the last iteration than in the first
abbrev pub last_shift : Option OpenLoop → ℕ
last_shift None = 0
last_shift (Some inner) = (inner.times - 1) * inner.every

-- an open loop after a call with this offset
abbrev pub loop_after : Option OpenLoop → ℕ → Option OpenLoop
loop_after None offset = None
loop_after (Some inner) offset =
    Some (record inner { calls = inner.calls + 1; first = if inner.calls == 0 then offset else inner.first })

-- how many calls there are with one more: one in a loop is counted at the loop's end
abbrev pub walk_calls_after : Option OpenLoop → ℕ → ℕ
walk_calls_after None calls = calls + 1
walk_calls_after (Some inner) calls = calls

-- what was met after the end of a loop, all iterations of which are counted then
abbrev pub after_loop : Progress → Option OpenLoop → Progress
after_loop p None = p
after_loop p (Some inner) = record {
  open_loop = None;
  calls = p.calls + inner.times * inner.calls;
  tasks = inner.start + inner.times * (p.tasks - inner.start);
  last = (inner.times - 1) * inner.every + p.last;
}

-- what was met after an instruction
abbrev pub walk_after : Progress → Instr → Progress
walk_after p (Loop times every) = record p { open_loop = Some (record { times = times; every = every; start = p.tasks; calls = 0; first = 0 }) }
walk_after p EndLoop = after_loop p p.open_loop
walk_after p Halt = p
walk_after p i = record {
  open_loop = loop_after p.open_loop (offset_of i);
  calls = walk_calls_after p.open_loop p.calls;
  tasks = p.tasks + tasks_by i;
  last = offset_of i;
}

-- Nested: a loop in a loop
abbrev pub walk_nested : Progress → Instr → Bool
walk_nested p (Loop times every) = is_some p.open_loop
walk_nested p i = false

-- Unclosed: the end of a loop outside one, or a halt inside one
abbrev pub walk_unclosed : Progress → Instr → Bool
walk_unclosed p EndLoop = is_none p.open_loop
walk_unclosed p Halt = is_some p.open_loop
walk_unclosed p i = false

-- a loop has no call so far
abbrev pub walk_no_call : Option OpenLoop → Bool
walk_no_call None = false
walk_no_call (Some inner) = inner.calls == 0

-- Empty: the end of a loop that has no call
abbrev pub walk_empty_loop : Progress → Instr → Bool
walk_empty_loop p EndLoop = walk_no_call p.open_loop
walk_empty_loop p i = false

-- outside a loop, or no task of this iteration has `nth` others of it before it
abbrev pub walk_lacks_task : Progress → Option OpenLoop → ℕ → Bool
walk_lacks_task p None nth = true
walk_lacks_task p (Some inner) nth = nat_le (p.tasks - inner.start) nth

-- BadTask: a cancel of a task that is not made before it
abbrev pub walk_bad_task : Progress → Instr → Bool
walk_bad_task p (CancelFixed offset task) = nat_le p.tasks task
walk_bad_task p (CancelHere offset nth) = walk_lacks_task p p.open_loop nth
walk_bad_task p i = false

-- a call with this offset is made later than at 2^62 in the last iteration
abbrev pub walk_ends_late : Option OpenLoop → ℕ → Bool
walk_ends_late open_loop offset = nat_lt longest (last_shift open_loop + offset)

-- TooLarge: a loop's step, a delay, or a call's moment in the last iteration is above 2^62
abbrev pub walk_too_large : Progress → Instr → Bool
walk_too_large p (Loop times every) = nat_lt longest every
walk_too_large p EndLoop = false
walk_too_large p Halt = false
walk_too_large p (Submit offset timing delay) = nat_lt longest delay || walk_ends_late p.open_loop offset
walk_too_large p i = walk_ends_late p.open_loop (offset_of i)

-- an iteration of the loop begins before the one in front of it ends
abbrev pub walk_overlaps : Progress → Option OpenLoop → Bool
walk_overlaps p None = false
walk_overlaps p (Some inner) = nat_lt 1 inner.times && nat_lt (inner.first + inner.every) p.last

-- Order: a call whose first moment is before that of the call in front of it, or the end of a loop whose iterations
-- overlap
abbrev pub walk_out_of_order : Progress → Instr → Bool
walk_out_of_order p EndLoop = walk_overlaps p p.open_loop
walk_out_of_order p i = makes_call i && nat_lt (offset_of i) p.last

-- TooMany: a loop that is not made 1 to 65,536 times; a call outside a loop, or the end of one, with more than 65,536
-- calls so far
abbrev pub walk_too_many : Progress → Instr → Bool
walk_too_many p (Loop times every) = nat_lt times 1 || nat_lt most_calls_of_code times
walk_too_many p Halt = false
walk_too_many p EndLoop = nat_lt most_calls_of_code (after_loop p p.open_loop).calls
walk_too_many p i = nat_lt most_calls_of_code (walk_calls_after p.open_loop p.calls)

-- the table of checks of an instruction, where `rest` comes behind it, in their order
abbrev pub walk_checks : Progress → Instr → List Instr → List (CodeFault × Bool)
walk_checks p i rest =
    (fault.NoHalt, is_early_halt i rest) ∷
    (fault.Nested, walk_nested p i) ∷
    (fault.Unclosed, walk_unclosed p i) ∷
    (fault.Empty, walk_empty_loop p i) ∷
    (fault.BadTask, walk_bad_task p i) ∷
    (fault.TooLarge, walk_too_large p i) ∷
    (fault.Order, walk_out_of_order p i) ∷
    (fault.TooMany, walk_too_many p i) ∷ []

-- the first fault of instructions after what was met; at their end, that there was no halt
abbrev pub first_fault : Progress → List Instr → Option CodeFault
first_fault p [] = Some fault.NoHalt
first_fault p (Halt ∷ rest) = first_failed (walk_checks p Halt rest)
first_fault p (i ∷ rest) = or_else (first_failed (walk_checks p i rest)) (first_fault (walk_after p i) rest)

-- what was met up to the halt
abbrev pub walked : Progress → List Instr → Progress
walked p [] = p
walked p (Halt ∷ rest) = p
walked p (i ∷ rest) = walked (walk_after p i) rest
