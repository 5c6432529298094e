-- Beside `specs/ClockLines`: what only private contracts and proofs cite.
-- All of it is this project's rule.
use Rattle.std.specs.Prelude.{◌≡◌, ◌≢◌, ℕ, ◌≤◌, List, ◌++◌, Option, Result, Err, take, length}
use Rattle.std.specs.Io.KnownBytes.{Consumes, prepend_known}
use Rattle.executor_model.specs.declared.Event.{Event}
use Rattle.executor_model.specs.declared.Event.TheVariants as v
use Rattle.trace_text.specs.Reading.{IsPart}
use Rattle.trace_text.specs.Spelling.{FitsEvent, event_line}
use Rattle.sched_engine.specs.Inputs.{AreEvents, input_of}
use Rattle.byte_ends.specs.Ends.{AllGood, LastBad}
use Rattle.pool_engine.specs.declared.clocks.ReadingError.{ReadingError}
use Rattle.pool_engine.specs.declared.clocks.ReadingError.TheVariants as r
use Rattle.pool_engine.specs.declared.clocks.ClocksEnd.{ClocksEnd}
use Rattle.pool_engine.specs.declared.clocks.ClocksEnd.TheVariants as e
use Rattle.pool_engine.specs.ClockLines.{BeginsWithClock, IsNoClock, clock_events}

-- an event is no clock
abbrev pub IsOther : Event → Type 0
IsOther event = (t : ℕ) → event ≢ v.Clock t

-- the first bytes of those held are the lines of clocks, whose moments were put behind those that were taken before
pub record TakesClocks (held : List ℕ) (taken : ℕ) (before after : List ℕ) : Type 0 where
  pub more : List ℕ
  pub fit : AreEvents (clock_events more)
  pub front : take taken held ≡ input_of (clock_events more)
  pub within : taken ≤ length held
  pub all : after ≡ before ++ more

-- some bytes are no part of a line, and do not begin with the line of a clock, whatever follows
pub record IsRefusedForGood (rest : List ℕ) : Type 0 where
  pub no : (more : List ℕ) → IsNoClock (rest ++ more)
  pub whole : IsPart rest → ⊥

-- the line of the clock that shows t stands at the front of some bytes, and what follows it
abbrev pub IsClockRead : List ℕ → ℕ → List ℕ → Type 0
IsClockRead bytes t rest = FitsEvent (v.Clock t) × (bytes ≡ event_line (v.Clock t) ++ rest)

-- why some bytes do not begin with the line of a clock
abbrev pub IsNoClockEnd : ClocksEnd → List ℕ → Type 0
IsNoClockEnd e.Part rest = IsPart rest
IsNoClockEnd e.Refused rest = IsRefusedForGood rest
IsNoClockEnd _ rest = ⊥

-- why no further clock was taken of some bytes
abbrev pub StopsAt : ClocksEnd → ℕ → ℕ → List ℕ → Type 0
StopsAt e.Part count limit rest = IsPart rest
StopsAt e.Refused count limit rest = IsRefusedForGood rest
StopsAt e.Full count limit rest = (count ≡ limit) × BeginsWithClock rest
StopsAt e.Memory count limit rest = BeginsWithClock rest

-- so far the lines of these clocks were taken, and what was read behind them is held
pub record HasRead (limit : ℕ) (input left : Option (List ℕ)) (held moments : List ℕ) : Type 0 where
  pub fit : AreEvents (clock_events moments)
  pub read : Consumes input (prepend_known held left) (input_of (clock_events moments))
  pub within : length moments ≤ limit

-- what the tries of the reading count: the last was bad at `Read`, and all others were good
abbrev pub CountsReading : {T : Type 0} → Result T ReadingError → ℕ → ℕ → ℕ → ℕ → Type 0
CountsReading (Err r.Read) failed fruitless failed' fruitless' = LastBad failed fruitless failed' fruitless'
CountsReading _ failed fruitless failed' fruitless' = AllGood failed fruitless failed' fruitless'
