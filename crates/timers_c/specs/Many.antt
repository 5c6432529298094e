-- What the calls for many runs do: what the calls for one do, one after the other.
-- All of it is this project's rule.
use Rattle.std.specs.Prelude.{◌≡◌, ◌≢◌, ℕ, ◌^◌, ◌<◌, ◌≤◌, ◌==◌, ◌⊎◌, if◌then◌else◌, List, [], ◌∷◌, Option, Some, None, length, take, drop}
use Rattle.sched_time.specs.declared.timing.Ending as how
use Rattle.sched_time.specs.declared.timing.Ending.TheVariants as h
use Rattle.timers_c.specs.declared.runs.End.{End}
use Rattle.timers_c.specs.declared.runs.Ending.{Ending}
use Rattle.timers_c.specs.declared.runs.Run.{Run}
use Rattle.timers_c.specs.declared.status.Status.{Status}
use Rattle.timers_c.specs.declared.status.Status.TheVariants as s
use Rattle.timers_c.specs.Calls.{TakesFinish, TakesPoll, no_end, no_run}
use Rattle.timers_c.specs.Seen.{Seen}

-- ---- polls

-- the worker of each of these places polled, one after the other, at one moment, and each began the run beside it
abbrev pub PollsEach : Seen → ℕ → List Run → List Run → Seen → Type 0
PollsEach old now [] [] new = new ≡ old
PollsEach old now (place ∷ places) (run ∷ runs) new =
    (between : Seen) × TakesPoll s.Done now place.worker run (Some old) (Some between) × PollsEach between now places runs new
PollsEach old now _ _ new = ⊥

-- why no more did: no place is left, or the worker of the next one polled, and this came of it, where it began none
abbrev pub StopsPolling : Status → Seen → ℕ → List Run → Seen → Type 0
StopsPolling status at now [] new = (status ≡ s.Done) × (new ≡ at)
StopsPolling status at now (next ∷ rest) new = (status ≢ s.Done) × TakesPoll status now next.worker no_run (Some at) (Some new)

-- polls for so many of these places began runs, which were written there, and the others are as they were
pub record BeginsMany (status : Status) (now : ℕ) (before after : List Run) (begun : ℕ) (old new : Seen) : Type 0 where
  pub size : length after ≡ length before
  pub within : begun ≤ length before
  pub at : Seen
  pub begins : PollsEach old now (take begun before) (take begun after) at
  pub stops : StopsPolling status at now (drop begun before) new
  pub unwritten : drop begun after ≡ drop begun before

-- what polls for many came to
abbrev pub PollsMany : Status → ℕ → List Run → List Run → ℕ → Option Seen → Option Seen → Type 0
PollsMany status now before after begun (Some old) (Some new) = BeginsMany status now before after begun old new
PollsMany status now before after begun None None = (status ≡ s.NoTimers) × (after ≡ before) × (begun ≡ 0)
PollsMany status now before after begun old new = ⊥

-- ---- ends

-- how a run ended: with a value, or by a failure
abbrev pub how_it_ended : Ending → how.Ending
how_it_ended e = if e.failed == 0 then h.Value e.value else h.Fault e.value

-- the code of a failure is below 2^32
abbrev pub IsCoded : Ending → Type 0
IsCoded e = 0 < e.failed → e.value < 2 ^ 32

-- what the end of a run came to, with the end that it had: a code of 2^32 or more is looked at first
abbrev pub TakesEnding : Status → ℕ → Ending → End → Seen → Seen → Type 0
TakesEnding status now ending end old new = ((status ≡ s.Illegal) × (0 < ending.failed) × (2 ^ 32 ≤ ending.value) × (new ≡ old) × (end ≡ no_end))
    ⊎ (IsCoded ending × TakesFinish status now ending.worker (how_it_ended ending) end (Some old) (Some new))

-- the run of a worker ended so, one after the other, at one moment, and each had the end beside it
abbrev pub FinishesEach : Seen → ℕ → List Ending → List End → Seen → Type 0
FinishesEach old now [] [] new = new ≡ old
FinishesEach old now (ending ∷ endings) (end ∷ ends) new =
    (between : Seen) × TakesEnding s.Done now ending end old between × FinishesEach between now endings ends new
FinishesEach old now _ _ new = ⊥

-- why no more did: none is left, or the next one was refused, and this came of it
abbrev pub StopsFinishing : Status → Seen → ℕ → List Ending → Seen → Type 0
StopsFinishing status at now [] new = (status ≡ s.Done) × (new ≡ at)
StopsFinishing status at now (next ∷ rest) new = (status ≢ s.Done) × TakesEnding status now next no_end at new

-- so many of these runs ended, their ends were written, and the others are as they were
pub record EndsMany (status : Status) (now : ℕ) (endings : List Ending) (before after : List End) (ended : ℕ) (old new : Seen) : Type 0 where
  pub size : length after ≡ length before
  pub within : ended ≤ length endings
  pub at : Seen
  pub ends : FinishesEach old now (take ended endings) (take ended after) at
  pub stops : StopsFinishing status at now (drop ended endings) new
  pub unwritten : drop ended after ≡ drop ended before

-- what the ends of many runs came to
abbrev pub FinishesMany : Status → ℕ → List Ending → List End → List End → ℕ → Option Seen → Option Seen → Type 0
FinishesMany status now endings before after ended (Some old) (Some new) = EndsMany status now endings before after ended old new
FinishesMany status now endings before after ended None None = (status ≡ s.NoTimers) × (after ≡ before) × (ended ≡ 0)
FinishesMany status now endings before after ended old new = ⊥
