-- Texts of events, and the first line of a text that is no event's. All of it is this project's rule.
use Rattle.std.specs.Prelude.{ℕ, List}
use Rattle.trace_text.specs.Spelling.{event_line, FitsEvent}
use Rattle.line_reasons.specs.Texts.{AreLines, IsFirstOtherThan}

-- a text is that of some events, each a line
abbrev pub AreEvents : List ℕ → Type 0
AreEvents text = AreLines event_line FitsEvent text

-- the first line of a text that is no event's, and its number, counted from 1
abbrev pub IsFirstOther : List ℕ → ℕ → List ℕ → Type 0
IsFirstOther text number line = IsFirstOtherThan event_line FitsEvent text number line
