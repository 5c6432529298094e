-- Which happenings some events make, and the lines of a history.
-- All of it is this project's rule.
use Rattle.std.specs.Prelude.{◌≡◌, ℕ, ◌+◌, ◌<◌, slice_get, length, nat_le, if◌then◌else◌, List, [], ◌∷◌, ◌++◌, replicate, map, drop}
use Rattle.executor_model.specs.declared.types.Event.{Event}
use Rattle.executor_model.specs.declared.types.Event.TheVariants as v
use Rattle.executor_model.specs.declared.types.Happening.{Happening}
use Rattle.executor_model.specs.declared.types.Happening.TheVariants as h
use Rattle.executor_model.specs.declared.types.Answer.{Answer}
use Rattle.executor_model.specs.declared.types.Line.{Line}
use Rattle.executor_model.specs.declared.types.Message.TheVariants as m
use Rattle.queue_code.specs.Calls.{Planned, how_many}
use Rattle.executor_model.specs.Answers.{Reply, is_accepted, moment_after}
use Rattle.executor_model.specs.Histories.{HistoryEntry, happenings, made, made_after, now_of, answer, entry_of, MayFrom}
use Rattle.executor_model.specs.State.{State, after_from, next, reply_of}

-- an event as a happening: the clock shows a moment, a worker asks for work, a worker has run its task, or a task
-- is cancelled from outside
abbrev pub happening_of : Event → Happening
happening_of (v.Clock moment) = h.Clock moment
happening_of (v.Start worker) = h.Start worker
happening_of (v.Finish worker ending) = h.Finish worker ending
happening_of (v.Cancel task) = h.Cancel task

-- how many of the calls that are not made yet have a moment of at most this one
abbrev pub reached : List Planned → ℕ → ℕ → ℕ
reached calls made moment = how_many (λ p. nat_le p.0 moment) (drop made calls)

-- the next call is reached, and is one of them
abbrev pub ReachesNext : List Planned → ℕ → ℕ → Type 0
ReachesNext calls made moment = (made < length calls) × (reached calls made moment ≡ 1 + reached calls (made + 1) moment)

-- how many calls are made just before an event: those that an accepted clock reaches
-- (this project's rule: before an accepted clock all calls with a moment of at most its own are made,
-- in their order)
abbrev pub calls_before : List Planned → ℕ → ℕ → Event → ℕ
calls_before calls made now (v.Clock moment) = if is_accepted now moment then reached calls made moment else 0
calls_before calls made now _ = 0

-- the happenings of one event, the newest first
abbrev pub part_of : List Planned → ℕ → ℕ → Event → List Happening
part_of calls made now event = happening_of event ∷ replicate (calls_before calls made now event) h.Call

-- of an event's part a call comes next, where so many calls were made and this is the moment: one is left, and once it is
-- made all the rest of the part is left
pub record CallComes (calls : List Planned) (made now : ℕ) (event : Event) : Type 0 where
  pub left : made < length calls
  pub rest : part_of calls made now event ≡ part_of calls (made_after made h.Call) (moment_after now (slice_get calls made) h.Call) event ++ h.Call ∷ []

-- the event itself comes next: it may come, and is all that is left of its part
pub record EventComes (calls : List Planned) (made now : ℕ) (event : Event) : Type 0 where
  pub may : MayFrom calls made now (happening_of event)
  pub alone : part_of calls made now event ≡ happening_of event ∷ []

-- the happenings of some events, the newest first
abbrev pub flow : List Planned → List Event → List Happening
flow calls [] = []
flow calls (event ∷ before) =
    part_of calls (made (flow calls before)) (now_of calls (flow calls before)) event ++ flow calls before

-- a history, made longer by some happenings, each with its answer
abbrev pub history_from : List Planned → ℕ → List HistoryEntry → List Happening → List HistoryEntry
history_from calls workers past [] = past
history_from calls workers past (happening ∷ before) =
    entry_of happening (answer calls workers (history_from calls workers past before) happening) ∷ history_from calls workers past before

-- the history of some events: the calls and the events in their order, each with its answer
abbrev pub history_of : List Planned → ℕ → List Event → List HistoryEntry
history_of calls workers events = history_from calls workers [] (flow calls events)

-- the line of an answer
abbrev pub answer_line : ℕ → Answer → Line
answer_line moment answer = record { moment = moment; message = m.Answer answer }

-- the line of a task that an answer ends
abbrev pub end_line : ℕ → ℕ → Line
end_line moment task = record { moment = moment; message = m.End task }

-- the lines of one answer: its own, and then one of each task that it ends
abbrev pub lines_at : ℕ → Reply → List Line
lines_at moment r = answer_line moment r.answer ∷ map (end_line moment) r.ends

-- the reply that an entry of a history holds
abbrev pub reply_in : HistoryEntry → Reply
reply_in e = record { answer = e.answer; ends = e.ends }

-- the lines of a history, the oldest first
abbrev pub lines_of : List Planned → List HistoryEntry → List Line
lines_of calls [] = []
lines_of calls (e ∷ past) = lines_of calls past ++ lines_at (now_of calls (happenings (e ∷ past))) (reply_in e)

-- the lines of steps from a state, the oldest first
abbrev pub lines_from : List Planned → ℕ → State → List Happening → List Line
lines_from calls workers s [] = []
lines_from calls workers s (happening ∷ before) = lines_from calls workers s before
    ++ lines_at (next calls workers (after_from calls workers s before) happening).moment (reply_of calls workers (after_from calls workers s before) happening)
