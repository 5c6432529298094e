-- What a number says as the word of a task.
-- This project's rule.
use Rattle.std.specs.Prelude.{ℕ, ◌+◌, ◌*◌, ◌/◌, ◌%◌, Bool, true, false, nat_le, ◌==◌, if◌then◌else◌}
use Rattle.task_word.specs.Words.{Parts, bit, phase_number}
use Rattle.task_word.specs.declared.phases.Phase.{Phase}
use Rattle.task_word.specs.declared.phases.Phase.TheVariants.{Vacant, New, Running, Done, Failed}

-- the phase of a number
abbrev pub phase_of : ℕ → Phase
phase_of n = if n == 0 then Vacant else if n == 1 then New else if n == 2 then Running else if n == 3 then Done else Failed

-- what a number says as a word
abbrev pub word_of_value : ℕ → Parts
word_of_value n = record { phase = phase_of (n % 8); run = n % bit / 8; marked = nat_le bit n }

-- 1 where the bit is set, else 0
abbrev pub mark_number : Bool → ℕ
mark_number true = 1
mark_number false = 0

-- a number by which any two words are told apart
abbrev pub told_apart : Parts → ℕ
told_apart w = 16 * w.run + (2 * phase_number w.phase + mark_number w.marked)
