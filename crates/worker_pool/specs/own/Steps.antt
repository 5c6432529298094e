-- What stays so of a book while one happening after the other comes.
use Rattle.std.specs.Prelude.{◌≡◌, ℕ, ◌+◌, ◌<◌, ◌≤◌, ◌||◌, ◌&&◌, ◌==◌, not, if◌then◌else◌, true, false, IsTrue, List, ◌∷◌, ◌++◌, length, ◌⊎◌, slice_get}
use Rattle.std.specs.List.{All, list_any}
use Rattle.task_word.specs.Words.{marked}
use Rattle.task_word.specs.Views.{entry}
use Rattle.task_word.specs.declared.views.CoreSeatView.{CoreSeatView}
use Rattle.task_word.specs.declared.views.HandleSeatView.{HandleSeatView}
use Rattle.queue_code.specs.Calls.{Planned, IsPlanned, task_count}
use Rattle.executor_model.specs.declared.types.Happening.{Happening}
use Rattle.executor_model.specs.declared.types.Happening.TheVariants as h
use Rattle.executor_model.specs.declared.types.Line.{Line}
use Rattle.executor_model.specs.declared.types.Event.{Event}
use Rattle.executor_model.specs.declared.types.Need.{Need}
use Rattle.executor_model.specs.declared.types.Need.TheVariants as n
use Rattle.executor_model.specs.Histories.{HistoryEntry, IsHistoryOf, happenings, is_call, is_end, was_cancelled, made_after, MayFrom, is_end as stands_in}
use Rattle.executor_model.specs.Answers.{moment_after}
use Rattle.executor_model.specs.Flows.{lines_of, part_of}
use Rattle.executor_model.specs.State.{State, after, reply_of}
use Rattle.executor_core.specs.CoreView.{CoreView, workers_of, state_of, room_of, IsCounted}
use Rattle.executor_model.specs.Needs.{need_of}
use Rattle.executor_laws.specs.TaskWords.{word_after}
use Rattle.worker_pool.specs.Books.{history_for, is_purge, was_outside, FitsWord}
use Rattle.worker_pool.specs.Applies.{calls_in, SaysYes, is_in_way, WereInWay}

-- the seat's entries fit the words after a history, and who is cancelled there was cancelled by the seat or from outside
pub record Agrees (calls : List Planned) (workers : ℕ) (past : List HistoryEntry) (v : CoreSeatView) : Type 0 where
  pub count : length v.entries ≡ task_count calls
  pub each : (k : ℕ) → FitsWord (entry v k) (word_after calls workers past k)
  pub cancelled : (k : ℕ) → was_cancelled k past ≡ (stands_in k v.own || was_outside k past)

-- a state, a seat, what happened and some lines agree
pub record Keeps (calls : List Planned) (workers : ℕ) (s : State) (v : CoreSeatView) (happened : List Happening) (lines : List Line) : Type 0 where
  pub orderly : IsPlanned calls
  pub means : IsHistoryOf calls workers (history_for calls workers happened)
  pub unpurged : list_any is_purge happened ≡ false
  pub stands : s ≡ after calls workers (happenings (history_for calls workers happened))
  pub written : lines ≡ lines_of calls (history_for calls workers happened)
  pub agrees : Agrees calls workers (history_for calls workers happened) v

-- the same of a core
abbrev pub IsKept : CoreView → CoreSeatView → List Happening → List Line → Type 0
IsKept m v happened lines = Keeps m.calls (workers_of m) (state_of m) v happened lines

-- the history of what happened to a core
abbrev pub past_in : CoreView → List Happening → List HistoryEntry
past_in m happened = history_for m.calls (workers_of m) happened

-- this may happen next, and is no purge
abbrev pub Comes : CoreView → Happening → Type 0
Comes m happening = MayFrom m.calls m.made m.moment happening × (is_purge happening ≡ false)

-- what a core needs for it
abbrev pub need_in : CoreView → Happening → Need
need_in m happening = need_of m.calls (workers_of m) (state_of m) happening

-- the lists have room for all that one event may still add
pub record HasRoom (m : CoreView) (lines lines_room happened happened_room : ℕ) : Type 0 where
  pub lines_fit : lines + room_of m ≤ lines_room
  pub happened_fit : happened + room_of m ≤ happened_room

-- the core is of the same plan, workers and limit, and took as many events
pub record SamePlan (old new : CoreView) : Type 0 where
  pub calls : new.calls ≡ old.calls
  pub workers : workers_of new ≡ workers_of old
  pub taken : new.taken ≡ old.taken
  pub limit : new.limit ≡ old.limit

-- the seat has the same handles out and back
pub record SameHandles (old new : CoreSeatView) : Type 0 where
  pub joined : new.joined ≡ old.joined
  pub ranks : new.ranks ≡ old.ranks
  pub out : new.out ≡ old.out

-- the same, and the list of the tasks that the seat cancelled grew in front
pub record OnlyOwnGrows (old new : CoreSeatView) : Type 0 where
  pub joined : new.joined ≡ old.joined
  pub ranks : new.ranks ≡ old.ranks
  pub out : new.out ≡ old.out
  pub these : List ℕ
  pub grows : new.own ≡ these ++ old.own

-- cancels were noted, each answered yes, the newest first, and nothing else came
pub record Noting (old now : List HistoryEntry) : Type 0 where
  pub noted : List HistoryEntry
  pub past : now ≡ noted ++ old
  pub each : All (λ e. (k : ℕ) × SaysYes e k) noted

-- the tasks that the next call ends
abbrev pub ends_of : CoreView → List ℕ
ends_of m = (reply_of m.calls (workers_of m) (state_of m) h.Call).ends

-- cancels were noted, and nothing else came: the moment and the calls made are the same, a sweep that is next still is, and
-- there are no more lines to come than before
pub record OnlyNoted (old new : CoreView) (before happened : List Happening) : Type 0 where
  pub same : SamePlan old new
  pub made : new.made ≡ old.made
  pub moment : new.moment ≡ old.moment
  pub counted : IsCounted old → IsCounted new
  pub sweeps : need_in old h.Call ≡ n.Sweep → need_in new h.Call ≡ n.Sweep
  pub noting : Noting (past_in old before) (past_in new happened)
  pub room : room_of new ≤ room_of old

-- the same, and the tasks of these cancels stood in the way of a happening
pub record NotedFor (old new : CoreView) (before happened : List Happening) (happening : Happening) : Type 0 where
  pub only : OnlyNoted old new before happened
  pub way : WereInWay old.calls (workers_of old) (past_in old before) happening only.noting.noted

-- a cancel of task k was noted, for which room was given up; a sweep that is next ends the same tasks but that one
pub record Notes (old new : CoreView) (before happened : List Happening) (k : ℕ) : Type 0 where
  pub only : OnlyNoted old new before happened
  pub less : room_of new + 1 ≤ room_of old
  pub ends : (j : ℕ) → is_end j (ends_of new) ≡ (is_end j (ends_of old) && not (k == j))
  -- it is one that stood in the way of each happening in whose way its task stood
  pub way : (y : Happening) → is_in_way old.calls (workers_of old) (past_in old before) y k ≡ true
      → WereInWay old.calls (workers_of old) (past_in old before) y only.noting.noted

-- an entry is a call, or a cancel from outside that is answered yes
abbrev pub IsPassed : HistoryEntry → Type 0
IsPassed e = IsTrue (is_call e.happening) ⊎ ((k : ℕ) × SaysYes e k)

-- calls were made and cancels were noted, the last ones before this happening; these are the calls, the newest first, and the
-- tasks that they cancelled are the seat's own now
pub record Passes (plan : List Planned) (workers : ℕ) (happening : Happening) (before after_own : List ℕ) (old now : List HistoryEntry) (these : List Happening) : Type 0 where
  pub between : List HistoryEntry
  pub past : now ≡ between ++ old
  pub each : All IsPassed between
  pub way : WereInWay plan workers old happening between
  pub calls : happenings (calls_in between) ≡ these
  pub own : (k : ℕ) → stands_in k after_own ≡ (was_cancelled k (calls_in between) || stands_in k before)

-- then a last happening came; with the calls it is this part
pub record Completes (plan : List Planned) (workers : ℕ) (before after_own : List ℕ) (old now : List HistoryEntry) (these : List Happening) : Type 0 where
  pub last : HistoryEntry
  pub between : List HistoryEntry
  pub past : now ≡ last ∷ (between ++ old)
  pub each : All IsPassed between
  pub way : WereInWay plan workers old last.happening between
  pub part : last.happening ∷ happenings (calls_in between) ≡ these
  pub own : (k : ℕ) → stands_in k after_own ≡ (was_cancelled k (last ∷ calls_in between) || stands_in k before)

-- so many calls were made and this is the moment, once a happening came
pub record MovesOn (old new : CoreView) (happening : Happening) : Type 0 where
  pub made : new.made ≡ made_after old.made happening
  pub moment : new.moment ≡ moment_after old.moment (slice_get old.calls old.made) happening

-- a part of what an event makes comes before the rest
abbrev pub part_in : CoreView → Event → List Happening
part_in m event = part_of m.calls m.made m.moment event

-- ---- a sweep

-- the seat's view is ahead of another one by cancels of its own, of these tasks
pub record IsAheadBy (base v : CoreSeatView) (ahead : List ℕ) : Type 0 where
  pub count : length v.entries ≡ length base.entries
  pub entries : (k : ℕ) → entry v k ≡ (if stands_in k ahead then marked (entry base k) else entry base k)
  pub own : (k : ℕ) → stands_in k v.own ≡ (stands_in k ahead || stands_in k base.own)
  pub same : SameHandles base v

-- of the tasks below i the seat has cancelled those that the next call ends; but for these cancels its view agrees
pub record SweepsUpTo (mine : List ℕ) (m : CoreView) (v : CoreSeatView) (happened : List Happening) (lines : List Line) (i : ℕ) : Type 0 where
  pub base : CoreSeatView
  pub ahead : List ℕ
  pub own : base.own ≡ mine
  pub kept : IsKept m base happened lines
  pub far : IsAheadBy base v ahead
  pub swept : (k : ℕ) → k < i → stands_in k ahead ≡ is_end k (ends_of m)
  pub rest : (k : ℕ) → i ≤ k → stands_in k ahead ≡ false

-- ---- what a handle won

-- the tasks that a handle won are among the first n
abbrev pub WinsBelow : ℕ → HandleSeatView → Type 0
WinsBelow n handle = (k : ℕ) → stands_in k handle.won ≡ true → k < n
