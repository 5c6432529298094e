-- Turns: how far a run has come, between one read and the next.
-- All of it is this project's rule.
use Rattle.std.specs.Prelude.{◌≡◌, ℕ, ◌+◌, ◌-◌, ◌*◌, ◌^◌, ◌<◌, ◌≤◌, List, [], ◌++◌, Option, Result, Ok, Err, drop, length, take}
use Rattle.std.specs.Io.KnownBytes.{Appends, Consumes, prepend_known}
use Rattle.executor_model.specs.declared.Event.{Event}
use Rattle.executor_model.specs.declared.Happening.{Happening}
use Rattle.executor_model.specs.declared.Line.{Line}
use Rattle.queue_code.specs.Calls.{Planned, IsOrderly, IsPlanned}
use Rattle.executor_model.specs.Histories.{HistoryEntry, IsHistoryOf}
use Rattle.executor_model.specs.Flows.{history_of, lines_from, lines_of, part_of}
use Rattle.executor_core.specs.CoreView.{CoreView, room_of, state_of, workers_of, Stands, Steps, Continues}
use Rattle.trace_text.specs.Spelling.{FitsEvent, IsLine, event_line, lines_text}
use Rattle.trace_text.specs.declared.front.Front.TheVariants as front
use Rattle.trace_text.specs.Reading.{IsFront, most_event_bytes}
use Rattle.sched_engine.specs.declared.answering.PieceEnd.{PieceEnd}
use Rattle.sched_engine.specs.declared.answering.PieceEnd.TheVariants as e
use Rattle.sched_engine.specs.declared.engine.Turn.{Turn}
use Rattle.sched_engine.specs.declared.engine.Turn.TheVariants as t
use Rattle.sched_engine.specs.declared.report.StopError.{StopError}
use Rattle.sched_engine.specs.Inputs.{input_of, AreEvents, BeginsWithEvent}
use Rattle.sched_engine.specs.Pieces.{Gives, Output}
use Rattle.sched_engine.specs.Running.{Runs, text_of}

-- ---- some happenings

-- the lines that answer some happenings, which stand the newest first, from where the core is
abbrev pub answers_to : CoreView → List Happening → List Line
answers_to m happened = lines_from m.calls (workers_of m) (state_of m) happened

-- the core took the steps of some happenings, and the text of their lines was given out
pub record GivesSteps (old new : CoreView) (happened : List Happening) (before after : Output) (count : ℕ) : Type 0 where
  pub steps : Steps old new [] (answers_to old happened) happened
  pub written : Gives before after (lines_text (answers_to old happened))
  pub counted : count ≡ length (answers_to old happened)

-- of the text at hand, and of that of the lines of some happenings behind it, a front was written
abbrev pub CutsSteps : CoreView → List Happening → Output → Option (List ℕ) → Type 0
CutsSteps old happened before contents = (n : ℕ) × Appends before.contents contents (take n (before.text ++ lines_text (answers_to old happened)))

-- ---- one event, and the events of a piece

-- the core took an event, and the text of the lines that answer it was given out
pub record TakesEvent (old new : CoreView) (event : Event) (before after : Output) (count : ℕ) : Type 0 where
  pub calls : new.calls ≡ old.calls
  pub limit : new.limit ≡ old.limit
  pub workers : workers_of new ≡ workers_of old
  pub taken : new.taken ≡ old.taken + 1
  pub lines : List Line
  pub history : (past : List HistoryEntry) → IsHistoryOf old.calls (workers_of old) past → Stands old past → Continues old new [] lines event past
  pub written : Gives before after (lines_text lines)
  pub counted : count ≡ length lines

-- a core that took some events and then more: where it stands, and the text and the number of lines that it gave for the latter
pub record Extends (calls : List Planned) (workers : ℕ) (core : CoreView) (more events : List Event) (text : List ℕ) (count : ℕ) : Type 0 where
  pub stands : Stands core (history_of calls workers (more ++ events))
  pub says : text_of calls (history_of calls workers (more ++ events)) ≡ text_of calls (history_of calls workers events) ++ text
  pub counted : length (lines_of calls (history_of calls workers (more ++ events))) ≡ length (lines_of calls (history_of calls workers events)) + count

-- the first bytes of those held are the lines of events, which were answered: `more` are the events, the newest first
pub record IsAnswered (old new : CoreView) (held : List ℕ) (taken : ℕ) (before after : Output) (count : ℕ) : Type 0 where
  pub more : List Event
  pub fit : AreEvents more
  pub front : take taken held ≡ input_of more
  pub within : taken ≤ length held
  pub events : new.taken ≡ old.taken + length more
  pub calls : new.calls ≡ old.calls
  pub limit : new.limit ≡ old.limit
  pub workers : workers_of new ≡ workers_of old
  pub text : List ℕ
  pub written : Gives before after text
  pub extends : IsOrderly old.calls → (events : List Event) → Stands old (history_of old.calls (workers_of old) events)
      → Extends old.calls (workers_of old) new more events text count

-- why the bytes that are held were not taken further
abbrev pub IsPieceEnd : PieceEnd → CoreView → List ℕ → Type 0
IsPieceEnd e.Part core rest = IsFront front.Part rest
IsPieceEnd e.Refused core rest = IsFront front.Refused rest
IsPieceEnd e.Full core rest = (core.taken ≡ core.limit) × BeginsWithEvent rest
IsPieceEnd e.Memory core rest = (core.taken < core.limit) × BeginsWithEvent rest

-- some events at the front of the bytes that are held were answered, and a further one may have more lines than this
pub record WantsRoom (old : CoreView) (held : List ℕ) (before : Output) (capacity : ℕ) : Type 0 where
  pub core : CoreView
  pub taken : ℕ
  pub after : Output
  pub count : ℕ
  pub answered : IsAnswered old core held taken before after count
  pub further : BeginsWithEvent (drop taken held)
  pub below : core.taken < core.limit
  pub short : capacity < room_of core

-- some events at the front of the bytes that are held were answered, and of the text at hand then, and of that of the answer to
-- a further one behind it, a front was written
pub record IsCut (old : CoreView) (held : List ℕ) (before : Output) (contents : Option (List ℕ)) : Type 0 where
  pub core : CoreView
  pub taken : ℕ
  pub after : Output
  pub count : ℕ
  pub answered : IsAnswered old core held taken before after count
  pub below : core.taken < core.limit
  pub event : Event
  pub fits : FitsEvent event
  pub rest : List ℕ
  pub further : drop taken held ≡ event_line event ++ rest
  pub front : CutsSteps core (part_of core.calls core.made core.moment event) after contents

-- the core is where some events led it
pub record StandsAfterEvents (core : CoreView) : Type 0 where
  pub events : List Event
  pub orderly : IsPlanned core.calls
  pub stands : Stands core (history_of core.calls (workers_of core) events)
  pub taken : core.taken ≡ length events
  pub within : core.taken ≤ core.limit
  pub small : core.limit < 2 ^ 32

-- ---- a run under way

-- what a run runs over: the calls, how many workers there are and how many events are taken at most, and what the ends had at first
pub record Setting : Type 0 where
  pub calls : List Planned
  pub workers : ℕ
  pub limit : ℕ
  pub input : Option (List ℕ)
  pub contents : Option (List ℕ)

-- how far a run has come: what is left of the input and what of it is held, the text that was not written yet and what the
-- writer has, the core, and the number of lines that were answered
pub record Progress : Type 0 where
  pub left : Option (List ℕ)
  pub held : List ℕ
  pub text : List ℕ
  pub contents : Option (List ℕ)
  pub core : CoreView
  pub count : ℕ

-- so far these events were taken, and their trace was written but for the text at hand
pub record Done (run : Setting) (at : Progress) : Type 0 where
  pub events : List Event
  pub fit : AreEvents events
  pub read : Consumes run.input (prepend_known at.held at.left) (input_of events)
  pub before : List ℕ
  pub written : Appends run.contents at.contents before
  pub says : text_of run.calls (history_of run.calls run.workers events) ≡ before ++ at.text
  pub counted : length (lines_of run.calls (history_of run.calls run.workers events)) ≡ at.count
  pub taken : at.core.taken ≡ length events
  pub within : at.core.taken ≤ run.limit
  pub stands : Stands at.core (history_of run.calls run.workers events)
  pub calls : at.core.calls ≡ run.calls
  pub workers : workers_of at.core ≡ run.workers
  pub limit : at.core.limit ≡ run.limit
  pub orderly : IsPlanned run.calls
  pub small : run.limit < 2 ^ 32

-- between two turns each event that was read is answered and the answers are written: what is held is a part of one line
pub record IsBetweenTurns (run : Setting) (at : Progress) : Type 0 where
  pub done : Done run at
  pub none : at.text ≡ []
  pub part : IsLine at.held
  pub short : length at.held < most_event_bytes

-- falls from turn to turn: each brings an event, or a byte more of a line
abbrev pub still_to_come : Setting → Progress → ℕ
still_to_come run at = (run.limit - at.core.taken) * (most_event_bytes + 1) + (most_event_bytes - length at.held)

-- what a turn did: the run goes on, or it ended so
abbrev pub Turns : Result Turn StopError → Setting → Progress → Progress → Type 0
Turns (Ok t.More) run old new = IsBetweenTurns run new × (still_to_come run new < still_to_come run old)
Turns (Ok (t.Ended report)) run old new = Runs (Ok report) run.calls run.workers run.limit run.input new.left run.contents new.contents
Turns (Err e) run old new = Runs (Err e) run.calls run.workers run.limit run.input new.left run.contents new.contents
