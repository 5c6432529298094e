-- What the calls of a book add to it. All of it is this project's rule.
use Rattle.std.specs.Prelude.{◌≡◌, ℕ, ◌+◌, ◌<◌, ◌≤◌, ◌||◌, ◌&&◌, not, if◌then◌else◌, Bool, true, false, IsTrue, List, [], ◌∷◌, ◌++◌, length, Option, Some, None, ◌⊎◌, ◌-◌, is_some, is_none, slice_index, slice_index_or}
use Rattle.std.specs.List.{All, filter}
use Rattle.once_cell.specs.declared.race.note.Note.{Note}
use Rattle.sched_time.specs.declared.timing.Ending.{Ending}
use Rattle.task_word.specs.Words.{is_cancelled, rank}
use Rattle.task_word.specs.Views.{MeetsEntry, entry, greater}
use Rattle.task_word.specs.Steps.{CoreTells}
use Rattle.task_word.specs.declared.views.CoreSeatView.{CoreSeatView}
use Rattle.task_word.specs.declared.views.HandleSeatView.{HandleSeatView}
use Rattle.result_cell.specs.declared.verdict.Verdict.{Verdict}
use Rattle.queue_code.specs.Calls.{Planned, task_count}
use Rattle.executor_model.specs.declared.types.CancelEffect.TheVariants as f
use Rattle.executor_model.specs.declared.types.Answer.{Answer}
use Rattle.executor_model.specs.declared.types.Answer.TheVariants as a
use Rattle.executor_model.specs.declared.types.Event.{Event}
use Rattle.executor_model.specs.declared.types.Happening.{Happening}
use Rattle.executor_model.specs.declared.types.Happening.TheVariants as h
use Rattle.executor_model.specs.Histories.{HistoryEntry, happenings, is_call, is_end, was_cancelled, is_end as stands_in}
use Rattle.executor_model.specs.Flows.{part_of}
use Rattle.executor_model.specs.State.{vacant, after, reply_of}
use Rattle.executor_model.specs.Tasks.{word_of_task}
use Rattle.executor_model.specs.Needs.{need_of}
use Rattle.executor_core.specs.CoreView.{workers_of}
use Rattle.executor_laws.specs.Cancels.{is_needed}
use Rattle.worker_pool.specs.declared.applied.Applied.{Applied}
use Rattle.worker_pool.specs.declared.applied.Work.{Work}
use Rattle.worker_pool.specs.Books.{BookView, ending_in, ending_of_outcome, past_of, was_outside}

-- ---- cancels that are noted

-- an entry is a cancel from outside, and is answered yes
pub record SaysYes (e : HistoryEntry) (task : ℕ) : Type 0 where
  pub happening : e.happening ≡ h.Cancel task
  pub answer : e.answer ≡ a.Outside task f.Yes

-- an entry is a cancel that was noted: it is answered yes, and its task is cancelled in the seat's view, but not by the seat
-- (so a handle won it: each cancelled task has one winner)
pub record IsNoted (seat : CoreSeatView) (e : HistoryEntry) : Type 0 where
  pub task : ℕ
  pub said : SaysYes e task
  pub met : is_cancelled (entry seat task) ≡ true
  pub others : stands_in task seat.own ≡ false

-- each entry is as it was, or has the bit of a cancel
abbrev pub OnlyMarks : CoreSeatView → CoreSeatView → Type 0
OnlyMarks old new = (k : ℕ) → MeetsEntry (entry old k) (entry new k)

-- cancels were noted, the newest first, and nothing else happened; of the seat the entries alone changed
pub record OnlyNotes (old new : BookView) (noted : List HistoryEntry) : Type 0 where
  pub past : past_of new ≡ noted ++ past_of old
  pub each : All (IsNoted new.seat) noted
  pub taken : new.core.taken ≡ old.core.taken
  pub limit : new.core.limit ≡ old.core.limit
  pub own : new.seat.own ≡ old.seat.own
  pub joined : new.seat.joined ≡ old.seat.joined
  pub ranks : new.seat.ranks ≡ old.seat.ranks
  pub out : new.seat.out ≡ old.seat.out
  pub entries : OnlyMarks old.seat new.seat
  pub notes : new.notes ≡ old.notes
  pub forestalled : new.forestalled ≡ old.forestalled

-- each task that is cancelled in the seat's view is cancelled in the history; this is so of each book, by the sentences `words`
-- and `stands` of what it keeps, and is said once more for callers
abbrev pub KnowsCancels : BookView → Type 0
KnowsCancels b = (k : ℕ) → is_cancelled (entry b.seat k) ≡ true → was_cancelled k (past_of b) ≡ true

-- of the tasks below i the seat's view tells of the word that was met, which is its entry
abbrev pub TellsUpTo : CoreSeatView → ℕ → Type 0
TellsUpTo v i = (k : ℕ) → k < i → CoreTells v k (entry v k)

-- of the entry of each task the seat's lists and ranks say what a look tells of a word, as they do once it was looked at
abbrev pub AllAreLookedAt : BookView → Type 0
AllAreLookedAt b = TellsUpTo b.seat (task_count b.core.calls)

-- ---- an event

-- of some entries those of calls of the plan
abbrev pub calls_in : List HistoryEntry → List HistoryEntry
calls_in entries = filter (λ e. is_call e.happening) entries

-- task k stands in the way of a happening that comes after a history: the need of the happening names it, or it is one of the tasks
-- that the happening ends, as a sweep alone does
abbrev pub is_in_way : List Planned → ℕ → List HistoryEntry → Happening → ℕ → Bool
is_in_way calls workers past happening k =
    let s = after calls workers (happenings past) in is_needed k (need_of calls workers s happening) || is_end k (reply_of calls workers s happening).ends

-- these entries, the newest first, came after a history and before a happening: each cancel among them is of a task that stood, right
-- before the cancel, in the way of what comes next behind it that is no cancel: a call among them, or else that happening
abbrev pub WereInWay : List Planned → ℕ → List HistoryEntry → Happening → List HistoryEntry → Type 0
WereInWay calls workers past happening [] = Unit {0}
WereInWay calls workers past happening (e ∷ before) = ((k : ℕ) → e.happening ≡ h.Cancel k → is_in_way calls workers (before ++ past) happening k ≡ true)
    × WereInWay calls workers past (if is_call e.happening then h.Call else happening) before

-- there is a note of task k, and it knows that the task ended so
abbrev pub KnowsEnding : List (Option (Note Verdict)) → ℕ → Option Ending → Type 0
KnowsEnding notes k None = ⊥
KnowsEnding notes k (Some ending) = (note : Note Verdict) × (slice_index_or notes k None ≡ Some note) × (note.known ≡ Some (record { task = k; ending = ending }))

-- an answer says that a task is done, or failed, of which there is no note
abbrev pub lacks_note : List (Option (Note Verdict)) → Answer → Bool
lacks_note notes (a.Finish worker task run outcome) = is_some (ending_of_outcome outcome) && is_none (slice_index_or notes task None)
lacks_note notes _ = false

-- an event was taken
pub record Applies (old new : BookView) (event : Event) : Type 0 where
  -- the entry of the event, and what came before it, the newest first: calls, and cancels that were noted
  pub last : HistoryEntry
  pub between : List HistoryEntry
  pub past : past_of new ≡ last ∷ (between ++ past_of old)
  pub each : All (λ e. IsTrue (is_call e.happening) ⊎ IsNoted new.seat e) between
  -- each cancel was noted where its task stood in the way of the call that comes next, or of the event
  pub way : WereInWay old.core.calls (workers_of old.core) (past_of old) last.happening between
  -- but for the cancels that were noted these are the event's part of the flow
  pub part : last.happening ∷ happenings (calls_in between) ≡ part_of old.core.calls old.core.made old.core.moment event
  -- the seat cancelled exactly those tasks that the event's part cancels
  pub own : (k : ℕ) → stands_in k new.seat.own ≡ (was_cancelled k (last ∷ calls_in between) || stands_in k old.seat.own)
  -- its list grew in front
  pub grows : (these : List ℕ) × (new.seat.own ≡ these ++ old.seat.own)
  -- the handles that are out or came back are the same
  pub joined : new.seat.joined ≡ old.seat.joined
  pub ranks : new.seat.ranks ≡ old.seat.ranks
  pub out : new.seat.out ≡ old.seat.out
  -- one event more was taken
  pub taken : new.core.taken ≡ old.core.taken + 1
  -- the note of each task is as it was, or it is new: there was none, the event's answer says that this task is done, or failed, and
  -- the note knows the ending that the answer tells
  pub notes : (k : ℕ) → (slice_index_or new.notes k None ≡ slice_index_or old.notes k None) ⊎ ((slice_index_or old.notes k None ≡ None) × KnowsEnding new.notes k (ending_in k last.answer))
  -- that task has its note then: the verdict that stands in its cell is the event's. Else its cell held one before, and the book is
  -- forestalled, which nothing else makes it
  pub put : new.forestalled ≡ (old.forestalled || lacks_note new.notes last.answer)

-- the task and the run that an answer starts
abbrev pub work_started : Answer → Option Work
work_started (a.Start worker task run due) = Some (record { task = task; run = run })
work_started _ = None

-- what is told of an event that was taken: where its lines begin and how many they are, and the work that its answer starts
pub record Tells (old new : BookView) (last : HistoryEntry) (told : Applied) : Type 0 where
  pub first : told.first ≡ length old.lines
  pub count : length new.lines ≡ told.first + told.count
  pub work : told.work ≡ work_started last.answer

-- ---- a handle that comes back

-- the words of the core have at least the ranks that a handle met
abbrev pub HasMetRanks : BookView → HandleSeatView → Type 0
HasMetRanks b handle = (k : ℕ) → k < task_count b.core.calls → slice_index handle.ranks k ≤ rank (word_of_task (slice_index_or b.core.tasks k vacant))

-- while no handle is out, the tasks on which a cancel from outside had an effect, and which the seat did not cancel, are
-- exactly those that handles won which came back
abbrev pub AllAreJoined : BookView → Type 0
AllAreJoined b = b.seat.out ≡ 0 → (k : ℕ)
    → stands_in k b.seat.joined ≡ (was_outside k (past_of b) && not (stands_in k b.seat.own))

-- a handle came back: what it won is joined and known, cancels alone were noted, and the word of each task was looked at
pub record Retires (old new : BookView) (handle : HandleSeatView) : Type 0 where
  pub noted : List HistoryEntry
  pub past : past_of new ≡ noted ++ past_of old
  pub each : All (IsNoted new.seat) noted
  pub taken : new.core.taken ≡ old.core.taken
  pub limit : new.core.limit ≡ old.core.limit
  pub own : new.seat.own ≡ old.seat.own
  pub joined : new.seat.joined ≡ old.seat.joined ++ handle.won
  pub met : new.seat.ranks ≡ greater old.seat.ranks handle.ranks
  -- one handle fewer is out; that some handle was is in the rule of the words, and no step tells it
  pub out : new.seat.out ≡ old.seat.out - 1
  pub entries : OnlyMarks old.seat new.seat
  pub notes : new.notes ≡ old.notes
  pub forestalled : new.forestalled ≡ old.forestalled
  pub won : (k : ℕ) → stands_in k handle.won ≡ true → was_outside k (past_of new) ≡ true
  pub ranks : HasMetRanks new handle
  pub all : AllAreJoined new
  pub looked : AllAreLookedAt new
