-- Clock lines: the input of a run by a pool, and what is no such line.
-- All of it is this project's rule.
use Rattle.std.specs.Prelude.{◌≡◌, ◌≢◌, ℕ, ◌+◌, ◌<◌, ◌≤◌, List, [], ◌++◌, ◌⊎◌, Option, length, map, reverse}
use Rattle.std.specs.Io.KnownBytes.{Consumes, IsAtEnd}
use Rattle.executor_model.specs.declared.Event.{Event}
use Rattle.executor_model.specs.declared.Event.TheVariants as v
use Rattle.trace_text.specs.Spelling.{FitsEvent, event_line}
use Rattle.trace_text.specs.Reading.{IsPart}
use Rattle.pool_engine.specs.declared.clocks.ReadingError.{ReadingError}
use Rattle.pool_engine.specs.declared.clocks.ReadingError.TheVariants as r
use Rattle.sched_engine.specs.declared.report.RunError.{RunError}
use Rattle.sched_engine.specs.declared.report.RunError.TheVariants as x
use Rattle.sched_engine.specs.Inputs.{AreEvents, input_of}
use Rattle.byte_ends.specs.Refills.{piece}
use Rattle.sched_engine.specs.Running.{Splits}

-- the clocks that show some moments, which stand the oldest first: the newest first, as the input of a run has its events
abbrev pub clock_events : List ℕ → List Event
clock_events moments = reverse (map (λ t. v.Clock t) moments)

-- some bytes begin with the line of a clock
abbrev pub BeginsWithClock : List ℕ → Type 0
BeginsWithClock rest = (t : ℕ) × (tail : List ℕ) × FitsEvent (v.Clock t) × (rest ≡ event_line (v.Clock t) ++ tail)

-- some bytes do not begin with the line of a clock
abbrev pub IsNoClock : List ℕ → Type 0
IsNoClock rest = (t : ℕ) (tail : List ℕ) → FitsEvent (v.Clock t) → rest ≢ event_line (v.Clock t) ++ tail

-- why the bytes behind the clocks are no clock line: the first line of them is another, or too long; or they are a part of a line
-- with which the input ends
abbrev pub IsNoClockLine : Option (List ℕ) → List ℕ → Type 0
IsNoClockLine left ahead = (IsNoClock ahead × (IsPart ahead → ⊥)) ⊎ (IsPart ahead × (0 < length ahead) × IsAtEnd left)

-- the moments of the clock lines that a run took from the front of its input. `IsAhead` holds of the bytes that were read behind
-- these lines, `IsRest` of all of the input behind them
pub record TakenClocks (limit : ℕ) (input left : Option (List ℕ)) (IsAhead IsRest : List ℕ → Type 0) (moments : List ℕ) : Type 0 where
  pub fit : AreEvents (clock_events moments)
  pub ahead : List ℕ
  pub read : Consumes input left (input_of (clock_events moments) ++ ahead)
  -- no more than one piece is read behind the last clock taken
  pub near : length ahead ≤ piece
  pub stops : IsAhead ahead
  pub splits : Splits input (clock_events moments) IsRest
  pub within : length moments ≤ limit

-- the input is the lines of the clocks that show these moments, all of which were read
abbrev pub AreAllClocks : ℕ → Option (List ℕ) → Option (List ℕ) → List ℕ → Type 0
AreAllClocks limit input left moments = TakenClocks limit input left (λ ahead. ahead ≡ []) (λ rest. rest ≡ []) moments

-- why not all of the input was read: line n, counted from 1, is the first that is no clock's; a further clock line follows as many
-- as the limit allows; the reader was at fault, with a part of one line read at most; or memory ran out
abbrev pub EndsReading : ReadingError → ℕ → Option (List ℕ) → Option (List ℕ) → Type 0
EndsReading (r.EventLine n) limit input left =
    (moments : List ℕ) × TakenClocks limit input left (IsNoClockLine left) (λ rest. IsNoClock rest × (0 < length rest)) moments × (n ≡ length moments + 1)
EndsReading r.Full limit input left = (moments : List ℕ) × TakenClocks limit input left BeginsWithClock BeginsWithClock moments × (length moments ≡ limit)
EndsReading r.Read limit input left = (moments : List ℕ) × TakenClocks limit input left IsPart (λ rest. Unit {0}) moments
EndsReading r.Memory limit input left = (moments : List ℕ) × TakenClocks limit input left (λ ahead. Unit {0}) (λ rest. Unit {0}) moments

-- what a caller is told then
abbrev pub told_of_reading : ReadingError → RunError
told_of_reading (r.EventLine n) = x.EventLine n
told_of_reading r.Full = x.Full
told_of_reading r.Read = x.Read
told_of_reading r.Memory = x.Memory
