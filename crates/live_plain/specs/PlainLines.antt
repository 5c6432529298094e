-- Which lines of a live input the plain program takes, and what it tells of them.
-- All of it is this project's rule.
use Rattle.std.specs.Prelude.{ℕ, ◌<◌, ◌≤◌, List, [], ◌∷◌, length}
use Rattle.sched_time.specs.Times.{longest}
use Rattle.queue_code.specs.Calls.{most_calls_of_code}
use Rattle.executor_model.specs.declared.types.Line.{Line}
use Rattle.executor_model.specs.Flows.{lines_of}
use Rattle.call_text.specs.declared.call.CallLine.{CallLine}
use Rattle.call_text.specs.Spelling.{FitsCall}
use Rattle.live_engine.specs.declared.live_line.LiveLine.{LiveLine}
use Rattle.live_engine.specs.declared.live_line.LiveLine.TheVariants as l
use Rattle.live_engine.specs.LiveLines.{LiveHistory, live_history, meant_in, next_moment}

-- a call is plain where this is the history: it fits, fewer calls were made than a plan may have, and its moment is within the limit
pub record IsPlainCall (so_far : LiveHistory) (made : CallLine) : Type 0 where
  pub fits : FitsCall made
  pub few : length so_far.calls < most_calls_of_code
  pub near : next_moment so_far ≤ longest

-- a line that is meant so is plain: it is that of an event, or that of a plain call
abbrev pub IsPlain : LiveHistory → LiveLine → Type 0
IsPlain so_far (l.Event event) = Unit {0}
IsPlain so_far (l.Call made) = IsPlainCall so_far made

-- each of some lines is plain after those before it, the newest line first in the list
abbrev pub ArePlain : ℕ → List LiveLine → Type 0
ArePlain workers [] = Unit {0}
ArePlain workers (line ∷ before) = ArePlain workers before × IsPlain (live_history workers before) (meant_in (live_history workers before) line)

-- the lines of the trace
abbrev pub lines_in : LiveHistory → List Line
lines_in so_far = lines_of so_far.calls so_far.past
