-- The text of a code: a line for each instruction, its index in front (this project's rule).
-- Numbers are decimals with no leading zero, and one space stands between two words.
use Rattle.std.specs.Prelude.{ℕ, ◌+◌, List, [], ◌∷◌, ◌++◌, codes}
use Rattle.std.specs.Fmt.{decimal}
use Rattle.sched_time.specs.Policies.{policy_text, truth_text}
use Rattle.sched_time.specs.declared.timing.Timing.{Timing}
use Rattle.sched_time.specs.declared.timing.Timing.TheVariants as timing
use Rattle.queue_code.specs.declared.instr.Instr.{Instr}
use Rattle.queue_code.specs.declared.instr.Instr.TheVariants.{Submit, Illegal, CancelFixed, CancelHere, SetPolicy, Shutdown, ShutdownNow, Ask, Loop, EndLoop, Halt}

-- how often a task runs, and the delay to its first run
abbrev pub timing_text : Timing → ℕ → List ℕ
timing_text timing.Once delay = codes "schedule " ++ decimal delay
timing_text (timing.Rate period) first = codes "rate " ++ decimal first ++ codes " " ++ decimal period
timing_text (timing.Fixed delay) first = codes "fixed " ++ decimal first ++ codes " " ++ decimal delay

-- an instruction
abbrev pub instr_text : Instr → List ℕ
instr_text (Submit offset timing delay) = codes "submit " ++ decimal offset ++ codes " " ++ timing_text timing delay
instr_text (Illegal offset) = codes "illegal " ++ decimal offset
instr_text (CancelFixed offset task) = codes "cancel " ++ decimal offset ++ codes " task " ++ decimal task
instr_text (CancelHere offset nth) = codes "cancel " ++ decimal offset ++ codes " here " ++ decimal nth
instr_text (SetPolicy offset which value) = codes "policy " ++ decimal offset ++ codes " " ++ policy_text which ++ codes " " ++ truth_text value
instr_text (Shutdown offset) = codes "shutdown " ++ decimal offset
instr_text (ShutdownNow offset) = codes "shutdown_now " ++ decimal offset
instr_text (Ask offset) = codes "ask " ++ decimal offset
instr_text (Loop times every) = codes "loop " ++ decimal times ++ codes " every " ++ decimal every
instr_text EndLoop = codes "endloop"
instr_text Halt = codes "halt"

-- an instruction's line, with its newline
abbrev pub line_of : ℕ → Instr → List ℕ
line_of index i = decimal index ++ codes " " ++ instr_text i ++ codes "\n"

-- the lines of instructions, the first of which has this index
abbrev pub listing_from : ℕ → List Instr → List ℕ
listing_from index [] = []
listing_from index (i ∷ is) = line_of index i ++ listing_from (index + 1) is

-- the text of a code
abbrev pub listing_of : List Instr → List ℕ
listing_of code = listing_from 0 code
