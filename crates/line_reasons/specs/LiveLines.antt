-- Texts of the lines of a live run, and the first line of a text that is none of these. All of it is this project's rule.
use Rattle.std.specs.Prelude.{ℕ, ◌⊎◌, List}
use mathlib.Core.Logic.{inl, inr}
use Rattle.executor_model.specs.declared.Event.{Event}
use Rattle.trace_text.specs.Spelling.{event_line, FitsEvent}
use Rattle.call_text.specs.declared.call.CallLine.{CallLine}
use Rattle.call_text.specs.Spelling.{call_line, FitsCall}
use Rattle.line_reasons.specs.Texts.{AreLines, IsFirstOtherThan}

-- the line of an event, or of a call, with its newline
abbrev pub live_line : Event ⊎ CallLine → List ℕ
live_line (inl event) = event_line event
live_line (inr call) = call_line call

-- its numbers are in their ranges
abbrev pub FitsLive : Event ⊎ CallLine → Type 0
FitsLive (inl event) = FitsEvent event
FitsLive (inr call) = FitsCall call

-- a text is that of some events and calls, each a line
abbrev pub AreLiveLines : List ℕ → Type 0
AreLiveLines text = AreLines live_line FitsLive text

-- the first line of a text that is no event's and no call's, and its number, counted from 1
abbrev pub IsFirstNotLive : List ℕ → ℕ → List ℕ → Type 0
IsFirstNotLive text number line = IsFirstOtherThan live_line FitsLive text number line
