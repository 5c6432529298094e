-- What a book keeps: its core, its seat, what happened and the lines agree with each other.
-- All of it is this project's rule. `stands_in k tasks`, task k is one of these, is the test `is_end`.
use Rattle.std.specs.Prelude.{◌≡◌, ℕ, ◌==◌, ◌&&◌, ◌||◌, if◌then◌else◌, Bool, true, false, List, [], ◌∷◌, length, reverse, Option, Some, None, slice_index, slice_index_or, ◌⊎◌}
use Rattle.std.specs.List.{list_any}
use Rattle.atomic_table.specs.Seated.{TableId}
use Rattle.once_cell.specs.declared.race.note.Note.{Note}
use Rattle.sched_time.specs.declared.timing.Ending.{Ending}
use Rattle.sched_time.specs.declared.timing.Ending.TheVariants as e
use Rattle.task_word.specs.Words.{Parts, is_cancelled}
use Rattle.task_word.specs.Views.{entry}
use Rattle.task_word.specs.declared.views.CoreSeatView.{CoreSeatView}
use Rattle.result_cell.specs.declared.verdict.Verdict.{Verdict}
use Rattle.queue_code.specs.Calls.{Planned, IsPlanned, task_count}
use Rattle.executor_model.specs.declared.types.Outcome.{Outcome}
use Rattle.executor_model.specs.declared.types.Outcome.TheVariants as o
use Rattle.executor_model.specs.declared.types.Answer.{Answer}
use Rattle.executor_model.specs.declared.types.Answer.TheVariants as a
use Rattle.executor_model.specs.declared.types.Happening.{Happening}
use Rattle.executor_model.specs.declared.types.Happening.TheVariants as h
use Rattle.executor_model.specs.declared.types.Line.{Line}
use Rattle.executor_model.specs.Histories.{HistoryEntry, IsHistoryOf, had_effect, is_end as stands_in, was_cancelled}
use Rattle.executor_model.specs.Flows.{history_from, lines_of}
use Rattle.executor_model.specs.State.{vacant}
use Rattle.executor_model.specs.Tasks.{word_of_task}
use Rattle.executor_core.specs.CoreView.{CoreView, workers_of, Stands}

-- what contracts see of a book: its core, its seat and the table of the seat, the happenings and the lines, the oldest first,
-- of each task the note of its cell that the book keeps, if any, and whether some cell held a verdict before the book's
pub record BookView : Type 0 where
  pub core : CoreView
  pub seat : CoreSeatView
  pub table : TableId
  pub happened : List Happening
  pub lines : List Line
  pub notes : List (Option (Note Verdict))
  pub forestalled : Bool

-- no run is under way: no worker has a task
abbrev pub IsIdle : BookView → Type 0
IsIdle b = (w : ℕ) → slice_index_or b.core.work w None ≡ None

-- the history of some happenings, the oldest first: each with the one answer that it has to have
abbrev pub history_for : List Planned → ℕ → List Happening → List HistoryEntry
history_for calls workers happened = history_from calls workers [] (reverse happened)

-- the history of a book
abbrev pub past_of : BookView → List HistoryEntry
past_of b = history_for b.core.calls (workers_of b.core) b.happened

-- an answer says that a cancel of task k from outside had an effect
abbrev pub is_outside : ℕ → Answer → Bool
is_outside k (a.Outside task effect) = (task == k) && had_effect effect
is_outside k _ = false

-- a cancel of task k from outside had an effect
abbrev pub was_outside : ℕ → List HistoryEntry → Bool
was_outside k past = list_any (λ e. is_outside k e.answer) past

-- how a run ended whose outcome is that its task is done, or failed
abbrev pub ending_of_outcome : Outcome → Option Ending
ending_of_outcome (o.Done value) = Some (e.Value value)
ending_of_outcome (o.Failed code) = Some (e.Fault code)
ending_of_outcome _ = None

-- how the run of task k ended, where an answer says that task k is done, or failed
abbrev pub ending_in : ℕ → Answer → Option Ending
ending_in k (a.Finish worker task run outcome) = if task == k then ending_of_outcome outcome else None
ending_in k _ = None

-- an answer says that task k is done, or failed, and that its run ended so
abbrev pub EndedSo : ℕ → Ending → List HistoryEntry → Type 0
EndedSo k ending [] = ⊥
EndedSo k ending (e ∷ past) = (ending_in k e.answer ≡ Some ending) ⊎ EndedSo k ending past

-- an entry of the seat says what the core's word of the task says: its phase, its run, and whether it is cancelled
-- (not the bit itself: on a word that is vacant or ended it means nothing)
pub record FitsWord (e w : Parts) : Type 0 where
  pub phase : e.phase ≡ w.phase
  pub run : e.run ≡ w.run
  pub cancelled : is_cancelled e ≡ is_cancelled w

-- a note is of the cell of task k, and knows the verdict on it: the ending with which it is done, or failed
pub record KnowsVerdict (cells : List ℕ) (past : List HistoryEntry) (k : ℕ) (note : Note Verdict) : Type 0 where
  pub cell : note.cell ≡ slice_index cells k
  pub ending : Ending
  pub known : note.known ≡ Some (record { task = k; ending = ending })
  pub ended : EndedSo k ending past

-- a happening is a purge, for which a live executor alone is asked
abbrev pub is_purge : Happening → Bool
is_purge h.Purge = true
is_purge _ = false

-- what a book keeps, with these cells
pub record IsBook (cells : List ℕ) (b : BookView) : Type 0 where
  pub orderly : IsPlanned b.core.calls
  -- what happened is a history of the plan, with the one list of answers
  pub means : IsHistoryOf b.core.calls (workers_of b.core) (past_of b)
  -- nothing was purged: a plan has no purge, and a pool asks for none
  pub unpurged : list_any is_purge b.happened ≡ false
  -- the core stands after it
  pub stands : Stands b.core (past_of b)
  -- the lines are those of that history
  pub written : b.lines ≡ lines_of b.core.calls (past_of b)
  -- the seat has an entry for each task, and it says what the core's word says
  pub entries : length b.seat.entries ≡ task_count b.core.calls
  pub words : (k : ℕ) → FitsWord (entry b.seat k) (word_of_task (slice_index_or b.core.tasks k vacant))
  -- a task is cancelled in the history exactly where the seat cancelled it, or a cancel from outside had an effect
  pub cancelled : (k : ℕ) → was_cancelled k (past_of b) ≡ (stands_in k b.seat.own || was_outside k (past_of b))
  -- one had an effect on each task that a handle won which came back
  pub joined : (k : ℕ) → stands_in k b.seat.joined ≡ true → was_outside k (past_of b) ≡ true
  -- each note knows the verdict of the finish with which its task is done, or failed
  pub notes : (k : ℕ) (note : Note Verdict) → slice_index_or b.notes k None ≡ Some note → KnowsVerdict cells (past_of b) k note
