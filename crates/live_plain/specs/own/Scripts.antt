-- Scripts: the calls of a live input with their moments, and what happens, as the plain program keeps them.
-- All of it is this project's rule.
use Rattle.std.specs.Prelude.{◌≡◌, ℕ, ◌+◌, ◌-◌, ◌^◌, ◌<◌, ◌≤◌, min, max, nat_lt, if◌then◌else◌, List, [], ◌∷◌, ◌++◌, map, reverse, length, None}
use Rattle.queue_code.specs.Calls.{Planned, IsOrderly, count_after, most_calls_of_code, task_count}
use Rattle.executor_model.specs.declared.types.Event.{Event}
use Rattle.executor_model.specs.declared.types.Event.TheVariants as v
use Rattle.executor_model.specs.declared.types.Happening.{Happening}
use Rattle.executor_model.specs.declared.types.Happening.TheVariants as h
use Rattle.executor_model.specs.Answers.{is_accepted, moment_after}
use Rattle.executor_model.specs.Histories.{IsHistoryOf, happenings, made, now_of}
use Rattle.executor_model.specs.Flows.{happening_of}
use Rattle.executor_laws.specs.Additions.{AllLookBelow}
use Rattle.call_text.specs.declared.call.CallLine.{CallLine}
use Rattle.call_text.specs.declared.call.CallLine.TheVariants as call
use Rattle.live_engine.specs.declared.live_line.LiveLine.{LiveLine}
use Rattle.live_core.specs.Lives.{after_clock}
use Rattle.live_engine.specs.LiveLines.{LiveHistory, live_history}
use Rattle.live_plain.specs.PlainLines.{ArePlain}

-- ---- a script

-- the calls with their moments and what happens, the oldest first; how many numbers were given out; now; and 1 ns after the last
-- accepted clock
pub record ScriptView : Type 0 where
  pub calls : List Planned
  pub happened : List Happening
  pub numbers : ℕ
  pub moment : ℕ
  pub earliest : ℕ

-- before any line
abbrev pub blank : ScriptView
blank = record { calls = []; happened = []; numbers = 0; moment = 0; earliest = 0 }

-- a number that so few calls as a plan may have never give out
abbrev pub unnamed : ℕ
unnamed = 2 ^ 32 - 1

-- the happening that an event is: a cancel from outside of a number that was not given out names no task
abbrev pub happening_there : ScriptView → Event → Happening
happening_there s (v.Cancel task) = h.Cancel (if nat_lt task s.numbers then task else unnamed)
happening_there s event = happening_of event

-- 1 ns after the last accepted clock, once an event came
abbrev pub earliest_after : ScriptView → Event → ℕ
earliest_after s (v.Clock t) = if is_accepted s.moment t then t + 1 else s.earliest
earliest_after s event = s.earliest

-- an event comes
abbrev pub with_event : ScriptView → Event → ScriptView
with_event s event = record s {
  happened = s.happened ++ happening_there s event ∷ [];
  moment = moment_after s.moment None (happening_of event);
  earliest = earliest_after s event;
}

-- the moment of the call that comes next
abbrev pub moment_in : ScriptView → ℕ
moment_in s = max s.moment s.earliest

-- a call is made
abbrev pub with_call : ScriptView → Planned → ScriptView
with_call s p = record s {
  calls = s.calls ++ p ∷ [];
  happened = s.happened ++ h.Call ∷ [];
  numbers = count_after s.numbers p.1;
  moment = p.0;
}

-- where a call cancels a task, the task's number was given out, as so many were
abbrev pub NamesGiven : ℕ → CallLine → Type 0
NamesGiven numbers (call.Cancel task) = task < numbers
NamesGiven numbers made = Unit {0}

-- ---- what it shows

-- a happening as the plain program has it: all numbers that are never given out are one
abbrev pub plainly : Happening → Happening
plainly (h.Cancel task) = h.Cancel (min task unnamed)
plainly happening = happening

-- the moment of the last of some calls, and this one where there is none
abbrev pub last_moment : ℕ → List Planned → ℕ
last_moment moment [] = moment
last_moment moment (p ∷ calls) = last_moment p.0 calls

-- a script shows a history: it has its calls and what happened, and the history is that of these calls, which have all been made
pub record Shows (workers : ℕ) (so_far : LiveHistory) (s : ScriptView) : Type 0 where
  pub calls : s.calls ≡ so_far.calls
  pub happened : reverse s.happened ≡ map plainly (happenings so_far.past)
  pub numbers : s.numbers ≡ task_count so_far.calls
  pub moment : s.moment ≡ now_of so_far.calls (happenings so_far.past)
  pub earliest : s.earliest ≡ after_clock so_far.past
  pub orderly : IsOrderly so_far.calls
  pub few : length so_far.calls ≤ most_calls_of_code
  pub means : IsHistoryOf so_far.calls workers so_far.past
  pub made : made (happenings so_far.past) ≡ length so_far.calls
  pub below : AllLookBelow s.earliest s.numbers unnamed so_far.past
  pub behind : s.earliest ≤ s.moment + 1
  pub reached : last_moment 0 so_far.calls ≤ s.moment

-- all of some lines are plain, and a script shows their history
abbrev pub ShowsAll : ℕ → List LiveLine → ScriptView → Type 0
ShowsAll workers lines s = ArePlain workers lines × Shows workers (live_history workers lines) s
