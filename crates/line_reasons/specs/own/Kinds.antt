-- The kinds of lines that a text may have. All of it is this project's rule.
use Rattle.std.specs.Prelude.{ℕ, ◌⊎◌, List}
use Rattle.executor_model.specs.declared.Event.{Event}
use Rattle.trace_text.specs.Spelling.{event_line, FitsEvent}
use Rattle.call_text.specs.declared.call.CallLine.{CallLine}
use Rattle.line_reasons.specs.declared.lines.Lines.{Lines}
use Rattle.line_reasons.specs.declared.lines.Lines.TheVariants as l
use Rattle.line_reasons.specs.LiveLines.{live_line, FitsLive}

-- what a line spells
abbrev pub Value : Lines → Type 0
Value l.Events = Event
Value l.Live = Event ⊎ CallLine

-- the line that spells it, with its newline
abbrev pub spelling : (lines : Lines) → Value lines → List ℕ
spelling l.Events = event_line
spelling l.Live = live_line

-- its numbers are in their ranges
abbrev pub FitsIn : (lines : Lines) → Value lines → Type 0
FitsIn l.Events = FitsEvent
FitsIn l.Live = FitsLive
