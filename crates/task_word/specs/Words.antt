-- The word of a task: its phase, the number of its run, and the bit of a cancel.
-- All of it is this project's rule.
use Rattle.std.specs.Prelude.{◌≡◌, ℕ, ◌+◌, ◌*◌, ◌^◌, ◌<◌, Bool, true, false, ◌&&◌}
use Rattle.task_word.specs.declared.phases.Phase.{Phase}
use Rattle.task_word.specs.declared.phases.Phase.TheVariants.{Vacant, New, Running, Done, Failed}

-- what a word says
pub record Parts : Type 0 where
  pub phase : Phase
  pub run : ℕ
  pub marked : Bool

-- a vacant word has run 0
abbrev pub IsRunOfPhase : Phase → ℕ → Type 0
IsRunOfPhase phase run = phase ≡ Vacant → run ≡ 0

-- what is so of each word: a vacant one has run 0, and each run is below 2^32
pub record IsWord (w : Parts) : Type 0 where
  pub vacant : IsRunOfPhase w.phase w.run
  pub run : w.run < 2 ^ 32

-- the bit of a cancel
abbrev pub bit : ℕ
bit = 2 ^ 63

-- the number of a phase
abbrev pub phase_number : Phase → ℕ
phase_number Vacant = 0
phase_number New = 1
phase_number Running = 2
phase_number Done = 3
phase_number Failed = 4

-- the bit where it is set, else 0
abbrev pub bit_of : Bool → ℕ
bit_of true = bit
bit_of false = 0

-- the word as a number
abbrev pub value : Parts → ℕ
value w = 8 * w.run + phase_number w.phase + bit_of w.marked

-- the task waits or is run
abbrev pub is_live : Phase → Bool
is_live Vacant = false
is_live New = true
is_live Running = true
is_live Done = false
is_live Failed = false

-- the task has ended
abbrev pub is_ended_phase : Phase → Bool
is_ended_phase Vacant = false
is_ended_phase New = false
is_ended_phase Running = false
is_ended_phase Done = true
is_ended_phase Failed = true

-- the bit is set on a task that waits or is run: on another phase it means nothing
abbrev pub is_cancelled : Parts → Bool
is_cancelled w = is_live w.phase && w.marked

-- how far a task of this phase has come in the run n
abbrev pub rank_in : Phase → ℕ → ℕ
rank_in Vacant n = 0
rank_in New n = 1 + 2 * n
rank_in Running n = 2 + 2 * n
rank_in Done n = 3 + 2 * n
rank_in Failed n = 3 + 2 * n

-- how far the task has come
abbrev pub rank : Parts → ℕ
rank w = rank_in w.phase w.run

-- not submitted
abbrev pub vacant_word : Parts
vacant_word = record { phase = Vacant; run = 0; marked = false }

-- waits for the run n
abbrev pub new_in : ℕ → Parts
new_in n = record { phase = New; run = n; marked = false }

-- the task is submitted. This clears the bit, and the other moves leave it
abbrev pub submitted : Parts → Parts
submitted w = new_in 0

-- the task's run begins
abbrev pub started : Parts → Parts
started w = record { phase = Running; run = w.run; marked = w.marked }

-- the task waits for its next run
abbrev pub rearmed : Parts → Parts
rearmed w = record { phase = New; run = w.run + 1; marked = w.marked }

-- the task's last run ended well
abbrev pub ended_well : Parts → Parts
ended_well w = record { phase = Done; run = w.run; marked = w.marked }

-- the task's run failed
abbrev pub ended_badly : Parts → Parts
ended_badly w = record { phase = Failed; run = w.run; marked = w.marked }

-- the word with the bit
abbrev pub marked : Parts → Parts
marked w = record { phase = w.phase; run = w.run; marked = true }
