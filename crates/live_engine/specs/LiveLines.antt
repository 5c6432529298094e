-- The lines of a live input, and the history that they make.
-- All of it is this project's rule.
use Rattle.std.specs.Prelude.{◌≡◌, ℕ, ◌+◌, ◌-◌, ◌^◌, ◌<◌, ◌≤◌, ◌⊎◌, true, max, nat_lt, if◌then◌else◌, List, [], ◌∷◌, ◌++◌, length}
use Rattle.sched_time.specs.Times.{longest}
use Rattle.queue_code.specs.Calls.{Planned, submits_task, task_count}
use Rattle.executor_model.specs.declared.types.Event.{Event}
use Rattle.executor_model.specs.declared.types.Event.TheVariants as v
use Rattle.executor_model.specs.declared.types.Happening.{Happening}
use Rattle.executor_model.specs.declared.types.Happening.TheVariants as h
use Rattle.executor_model.specs.declared.types.Answer.TheVariants as a
use Rattle.executor_model.specs.Answers.{bare}
use Rattle.executor_model.specs.Histories.{HistoryEntry, answer, entry_of, happenings, now_of}
use Rattle.executor_model.specs.Flows.{happening_of, lines_of}
use Rattle.trace_text.specs.Spelling.{event_line, FitsEvent, lines_text}
use Rattle.call_text.specs.declared.call.CallLine.{CallLine}
use Rattle.call_text.specs.declared.call.CallLine.TheVariants as call
use Rattle.call_text.specs.Spelling.{call_line, FitsCall}
use Rattle.call_journal.specs.MadeCalls.{code_of}
use Rattle.live_core.specs.Lives.{after_clock, never}
use Rattle.live_core.specs.Events.{run_limit}
use Rattle.live_engine.specs.declared.live_line.LiveLine.{LiveLine}
use Rattle.live_engine.specs.declared.live_line.LiveLine.TheVariants as l

-- ---- texts

-- the text of a line of the input, with its newline
abbrev pub live_line : LiveLine → List ℕ
live_line (l.Event event) = event_line event
live_line (l.Call made) = call_line made

-- its numbers are in their ranges
abbrev pub FitsLive : LiveLine → Type 0
FitsLive (l.Event event) = FitsEvent event
FitsLive (l.Call made) = FitsCall made

-- the text of some lines, the newest line first in the list
abbrev pub input_of : List LiveLine → List ℕ
input_of [] = []
input_of (line ∷ before) = input_of before ++ live_line line

-- ---- meanings

-- a line as it is taken, where so many numbers were given out: a call that cancels one that was not is the event that cancels it
abbrev pub meant : ℕ → LiveLine → LiveLine
meant numbers (l.Call (call.Cancel task)) = if nat_lt task numbers then l.Call (call.Cancel task) else l.Event (v.Cancel task)
meant numbers line = line

-- ---- histories

-- the calls made so far with their moments, the oldest first, and what happened so far with its answers, the newest first
pub record LiveHistory : Type 0 where
  pub calls : List Planned
  pub past : List HistoryEntry

-- before any line
abbrev pub no_history : LiveHistory
no_history = record { calls = []; past = [] }

-- the moment of the call that comes next: now, or 1 ns after the last accepted clock, whichever is later
abbrev pub next_moment : LiveHistory → ℕ
next_moment so_far = max (now_of so_far.calls (happenings so_far.past)) (after_clock so_far.past)

-- a number that no task ever has, which stands for one that was not given out
abbrev pub not_given : ℕ → ℕ
not_given task = never + task

-- what happens where an event's line comes: a cancel from outside of a number that was not given out names no task, also none that
-- is given that number later
abbrev pub happening_in : LiveHistory → Event → Happening
happening_in so_far (v.Cancel task) = h.Cancel (if nat_lt task (task_count so_far.calls) then task else not_given task)
happening_in so_far event = happening_of event

-- something happens after the calls so far
abbrev pub after_happening : ℕ → LiveHistory → Happening → LiveHistory
after_happening workers so_far happening =
    record { calls = so_far.calls; past = entry_of happening (answer so_far.calls workers so_far.past happening) ∷ so_far.past }

-- the next call is made, behind those so far
abbrev pub after_call : ℕ → LiveHistory → Planned → LiveHistory
after_call workers so_far planned = after_happening workers (record so_far { calls = so_far.calls ++ planned ∷ [] }) h.Call

-- the call that a line makes, and its moment
abbrev pub planned_of : LiveHistory → CallLine → Planned
planned_of so_far made = (next_moment so_far, code_of (task_count so_far.calls) made)

-- a line as it is meant where this is the history
abbrev pub meant_in : LiveHistory → LiveLine → LiveLine
meant_in so_far line = meant (task_count so_far.calls) line

-- one line more that is meant so
abbrev pub after_meant : ℕ → LiveHistory → LiveLine → LiveHistory
after_meant workers so_far (l.Event event) = after_happening workers so_far (happening_in so_far event)
after_meant workers so_far (l.Call made) = after_call workers so_far (planned_of so_far made)

-- one line more
abbrev pub after_line : ℕ → LiveHistory → LiveLine → LiveHistory
after_line workers so_far line = after_meant workers so_far (meant_in so_far line)

-- the history of some lines, the newest line first in the list
abbrev pub live_history : ℕ → List LiveLine → LiveHistory
live_history workers [] = no_history
live_history workers (line ∷ before) = after_line workers (live_history workers before) line

-- the lines of the trace
abbrev pub trace_of : LiveHistory → List ℕ
trace_of so_far = lines_text (lines_of so_far.calls so_far.past)

-- how many lines the trace has
abbrev pub trace_length : LiveHistory → ℕ
trace_length so_far = length (lines_of so_far.calls so_far.past)

-- ---- limits, by what lines mean

-- how many numbers are given out at most, as a line names a task by 32 bits (this project's limit)
abbrev pub most_numbers : ℕ
most_numbers = 2 ^ 32

-- the greatest number of lines of a trace, so that there is a number for a further line of the input (this project's limit)
abbrev pub most_lines : ℕ
most_lines = 2 ^ 64 - 2

-- a line makes a call
abbrev pub IsCallLine : LiveLine → Type 0
IsCallLine (l.Call made) = Unit {0}
IsCallLine (l.Event event) = ⊥

-- it makes one whose moment would be above the limit
abbrev pub IsTooLate : LiveHistory → LiveLine → Type 0
IsTooLate so_far (l.Call made) = longest < next_moment so_far
IsTooLate so_far (l.Event event) = ⊥

-- a line submits a task, and all numbers were given out
abbrev pub IsOutOfNumbers : LiveHistory → LiveLine → Type 0
IsOutOfNumbers so_far (l.Call made) = (submits_task (planned_of so_far made).1 ≡ true) × (most_numbers ≤ task_count so_far.calls)
IsOutOfNumbers so_far (l.Event event) = ⊥

-- a worker asks for work, and the run that it would begin has no number
abbrev pub IsOutOfRuns : ℕ → LiveHistory → LiveLine → Type 0
IsOutOfRuns workers so_far (l.Event (v.Start worker)) = (task due : ℕ) × (answer so_far.calls workers so_far.past (h.Start worker) ≡ bare (a.Start worker task run_limit due))
IsOutOfRuns workers so_far line = ⊥

-- a line is beyond a limit, however short the trace is
abbrev pub IsOverLimit : ℕ → LiveHistory → LiveLine → Type 0
IsOverLimit workers so_far line = IsTooLate so_far line ⊎ (IsOutOfNumbers so_far line ⊎ IsOutOfRuns workers so_far line)

-- with the lines of its answer the trace would be too long
abbrev pub IsTooMany : ℕ → LiveHistory → LiveLine → Type 0
IsTooMany workers so_far line = most_lines < trace_length (after_meant workers so_far line)

-- why there is no room for a line
abbrev pub IsBeyond : ℕ → LiveHistory → LiveLine → Type 0
IsBeyond workers so_far line = IsOverLimit workers so_far line ⊎ IsTooMany workers so_far line

-- each of some lines fits, and has room after those before it
abbrev pub MayCome : ℕ → List LiveLine → Type 0
MayCome workers [] = Unit {0}
MayCome workers (line ∷ before) =
    MayCome workers before × FitsLive line × (IsBeyond workers (live_history workers before) (meant_in (live_history workers before) line) → ⊥)
