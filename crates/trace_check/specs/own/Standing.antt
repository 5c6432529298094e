-- Beside `specs/Standing`: what only private contracts and proofs cite.
-- All of it is this project's rule.
use Rattle.std.specs.Prelude.{◌≡◌, ℕ, ◌<◌, ◌≤◌, Bool, false, List, Option, None, slice_index_or}
use Rattle.queue_code.specs.Calls.{Planned}
use Rattle.executor_model.specs.declared.types.Happening.{Happening}
use Rattle.executor_model.specs.declared.types.Line.{Line}
use Rattle.executor_model.specs.declared.types.Message.{Message}
use Rattle.executor_model.specs.declared.types.Message.TheVariants as m
use Rattle.executor_model.specs.Histories.{happenings}
use Rattle.executor_model.specs.State.{State, after}
use Rattle.executor_core.specs.CoreView.{CoreView, workers_of, state_of, room_of}
use Rattle.trace_check.specs.Representatives.{is_busy, representative_of}
use Rattle.trace_check.specs.Going.{Goes}

-- how many happenings the core of a check takes
abbrev pub most_events : ℕ
most_events = 4294967295

-- how many workers a line can name
abbrev pub most_named : ℕ
most_named = 256

-- flags by worker number tell which workers are busy by the lines
abbrev pub TellBusy : List Bool → List Line → Type 0
TellBusy flags lines = (w : ℕ) → w < most_named → slice_index_or flags w false ≡ is_busy lines w

-- the state is that of the representatives, `due` is what is owed, and the flags tell which workers are busy
pub record IsAt (calls : List Planned) (workers : ℕ) (state : State) (due : List Line) (flags : List Bool) (lines : List Line) : Type 0 where
  pub goes : Goes calls workers lines
  pub stands : state ≡ after calls workers (happenings goes.past)
  pub owed : goes.owed ≡ due
  pub busy : TellBusy flags lines

-- the same of a core
abbrev pub IsStanding : CoreView → List Line → List Bool → List Line → Type 0
IsStanding m due flags lines = IsAt m.calls (workers_of m) (state_of m) due flags lines

-- a check can go on: it has flags of its core's workers, and room for the lines of each answer
pub record IsReady (m : CoreView) (workers capacity : ℕ) : Type 0 where
  pub count : workers ≡ workers_of m
  pub room : room_of m ≤ capacity

-- a happening that gets what a line says at this moment, behind these lines: the end of a task, which is no answer, has none
abbrev pub representative_of_message : ℕ → List Line → ℕ → Message → Option Happening
representative_of_message workers before moment (m.Answer answer) = representative_of workers before moment answer
representative_of_message workers before moment (m.End task) = None
