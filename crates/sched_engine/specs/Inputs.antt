-- Inputs: the lines of events, and what is no such line.
-- All of it is this project's rule.
use Rattle.std.specs.Prelude.{◌≡◌, ℕ, List, [], ◌∷◌, ◌++◌, All}
use Rattle.executor_model.specs.declared.Event.{Event}
use Rattle.trace_text.specs.Spelling.{event_line, FitsEvent}
use Rattle.trace_text.specs.Reading.{IsUnread}

-- the lines of some events, the newest event first in the list
abbrev pub input_of : List Event → List ℕ
input_of [] = []
input_of (e ∷ before) = input_of before ++ event_line e

-- each of some events fits a line of the input
abbrev pub AreEvents : List Event → Type 0
AreEvents events = All FitsEvent events

-- some bytes do not begin with the line of an event
abbrev pub IsRefused : List ℕ → Type 0
IsRefused rest = IsUnread event_line FitsEvent rest

-- some bytes begin with the line of an event
abbrev pub BeginsWithEvent : List ℕ → Type 0
BeginsWithEvent rest = (e : Event) × (tail : List ℕ) × FitsEvent e × (rest ≡ event_line e ++ tail)

-- a text is the lines of one list of events and no other
abbrev pub EventsAreOne : Type 0
EventsAreOne = (events other : List Event) → AreEvents events → AreEvents other → input_of events ≡ input_of other → events ≡ other

-- bytes are in one way the lines of some events and a rest that does not begin with one
abbrev pub FrontIsOne : Type 0
FrontIsOne = (events other : List Event) (rest tail : List ℕ) → AreEvents events → AreEvents other → IsRefused rest → IsRefused tail
    → input_of events ++ rest ≡ input_of other ++ tail → (events ≡ other) × (rest ≡ tail)
