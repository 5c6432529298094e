-- What a cancel from outside the plan is answered, by the word of its task, and what it leaves to the steps after it.
-- All of it is this project's rule.
use Rattle.std.specs.Prelude.{◌≡◌, ◌≢◌, ℕ, ◌<◌, ◌==◌, ◌&&◌, ◌||◌, not, nat_lt, Bool, true, false, if◌then◌else◌, List, []}
use Rattle.std.specs.Option.{option_map_or}
use Rattle.std.specs.List.{list_any}
use Rattle.task_word.specs.Words.{Parts, marked}
use Rattle.task_word.specs.Writes.{Kind}
use Rattle.task_word.specs.declared.phases.Phase.{Phase as WordPhase}
use Rattle.task_word.specs.declared.phases.Phase.TheVariants as w
use Rattle.queue_code.specs.Calls.{Planned, IsOrderly, numbers, task_count}
use Rattle.executor_model.specs.declared.types.EventError.TheVariants as x
use Rattle.executor_model.specs.declared.types.CancelEffect.{CancelEffect}
use Rattle.executor_model.specs.declared.types.CancelEffect.TheVariants as f
use Rattle.executor_model.specs.declared.types.Happening.{Happening}
use Rattle.executor_model.specs.declared.types.Happening.TheVariants as h
use Rattle.executor_model.specs.declared.types.Answer.{Answer}
use Rattle.executor_model.specs.declared.types.Answer.TheVariants as a
use Rattle.executor_model.specs.declared.types.Need.{Need}
use Rattle.executor_model.specs.declared.types.Need.TheVariants as n
use Rattle.executor_model.specs.View.{is_waiting, is_enabled, first_enabled}
use Rattle.executor_model.specs.Answers.{bare, queue_size, is_terminated}
use Rattle.executor_model.specs.Histories.{HistoryEntry, IsHistoryOf, happenings, is_call, is_end}
use Rattle.executor_model.specs.State.{State, view_of_state, after, next, reply_of}
use Rattle.executor_model.specs.Tasks.{word_of_task}
use Rattle.executor_model.specs.Needs.{need_of}
use Rattle.executor_laws.specs.NeedWrites.{writes_of}

-- ---- by the word of the task

-- what a cancel does to a task whose word has this phase, and the bit or not: one that waits or is run, and has no bit,
-- it cancels
abbrev pub effect_on_word : WordPhase → Bool → CancelEffect
effect_on_word w.Vacant bit = f.Absent
effect_on_word w.New bit = if bit then f.No else f.Yes
effect_on_word w.Running bit = if bit then f.No else f.Yes
effect_on_word w.Done bit = f.No
effect_on_word w.Failed bit = f.No

-- the answer to a cancel of task k from outside, where this is its word
abbrev pub outside_answer : List Planned → ℕ → Parts → Answer
outside_answer calls k word = if nat_lt k (task_count calls) then a.Outside k (effect_on_word word.phase word.marked) else a.Error x.NoTask

-- in this state cancels of task k go by its word
pub record CancelsByWord (calls : List Planned) (workers : ℕ) (s : State) (k : ℕ) : Type 0 where
  pub outside : reply_of calls workers s (h.Cancel k) ≡ bare (outside_answer calls k (word_of_task (s.tasks k)))
  -- the plan's own cancel does the same
  pub planned : (happening : Happening) (effect : CancelEffect) → (reply_of calls workers s happening).answer ≡ a.Cancel k effect
      → effect ≡ effect_on_word (word_of_task (s.tasks k)).phase (word_of_task (s.tasks k)).marked
  -- only a task of the calls has a word that is not vacant
  pub task : (word_of_task (s.tasks k)).phase ≢ w.Vacant → k < task_count calls

-- after each history of some calls a cancel goes by the word of its task
abbrev pub CancelsGoByWords : Type 0
CancelsGoByWords = (calls : List Planned) (workers : ℕ) (past : List HistoryEntry) (k : ℕ) → IsOrderly calls → IsHistoryOf calls workers past
    → CancelsByWord calls workers (after calls workers (happenings past)) k

-- ---- what is left after it

-- a need names task j
abbrev pub is_needed : ℕ → Need → Bool
is_needed j need = list_any (λ (x : ℕ × Kind). x.0 == j) (writes_of need [])

-- an answer says something of task j that a cancel of it may change, or counts tasks
abbrev pub tells_of : ℕ → Answer → Bool
tells_of j (a.Cancel task effect) = task == j
tells_of j (a.Outside task effect) = task == j
tells_of j (a.Ask queue running shut terminated) = true
tells_of j (a.Start worker task run due) = task == j
tells_of j (a.Finish worker task run outcome) = task == j
tells_of j _ = false

-- what a happening needs in a state where the task that it needed before is cancelled: a start the first task that is
-- enabled there, if any, and any other happening nothing
abbrev pub need_instead : List Planned → State → Happening → Need
need_instead calls s (h.Start worker) = option_map_or (λ k. n.Start k) (first_enabled (view_of_state calls s) (numbers calls)) n.Nothing
need_instead calls s _ = n.Nothing

-- from state s to state t task j alone was cancelled
pub record TouchesOneTask (calls : List Planned) (workers : ℕ) (s t : State) (j : ℕ) : Type 0 where
  pub rest : t ≡ record s { tasks = t.tasks }
  pub others : (k : ℕ) → k ≢ j → t.tasks k ≡ s.tasks k
  pub word : word_of_task (t.tasks j) ≡ marked (word_of_task (s.tasks j))
  -- that task is kept where it waited and the remove policy is false
  pub own : t.tasks j ≡ record (s.tasks j) { cancelled = true; kept = (s.tasks j).kept || (is_waiting ((view_of_state calls s).fate j) && not s.policies.removes) }
  -- a start finds the same tasks but that one
  pub enabled : (k : ℕ) → is_enabled (view_of_state calls t) k ≡ (is_enabled (view_of_state calls s) k && not (j == k))
  -- each happening has the same answer, but those that tell of that task or count tasks
  pub answers : (happening : Happening) → tells_of j (reply_of calls workers s happening).answer ≡ false
      → (reply_of calls workers t happening).answer ≡ (reply_of calls workers s happening).answer
  -- an ask counts the queue anew, and its other parts stay
  pub asks : (happening : Happening) (queue running : ℕ) (shut terminated : Bool) → (reply_of calls workers s happening).answer ≡ a.Ask queue running shut terminated
      → let left = queue_size calls (view_of_state calls t) in (reply_of calls workers t happening).answer ≡ a.Ask left running shut (is_terminated shut left running)
  -- each happening ends the same tasks but that one
  pub ends : (happening : Happening) (k : ℕ) → is_end k (reply_of calls workers t happening).ends ≡ (is_end k (reply_of calls workers s happening).ends && not (j == k))
  -- each need stays, but those that named that task
  pub needs : (happening : Happening) → is_needed j (need_of calls workers s happening) ≡ false → need_of calls workers t happening ≡ need_of calls workers s happening
  pub instead : (happening : Happening) → is_needed j (need_of calls workers s happening) ≡ true → need_of calls workers t happening ≡ need_instead calls t happening

-- after each history of some calls a cancel from outside that has an effect touches its task alone
abbrev pub CancelsTouchOneTask : Type 0
CancelsTouchOneTask = (calls : List Planned) (workers : ℕ) (past : List HistoryEntry) (j : ℕ) → IsOrderly calls → IsHistoryOf calls workers past
    → let s = after calls workers (happenings past) in
    (reply_of calls workers s (h.Cancel j)).answer ≡ a.Outside j f.Yes → TouchesOneTask calls workers s (next calls workers s (h.Cancel j)) j

-- ---- what steps need

-- no event needs a sweep
abbrev pub OnlyCallsSweep : Type 0
OnlyCallsSweep = (calls : List Planned) (workers : ℕ) (s : State) (happening : Happening) → is_call happening ≡ false → need_of calls workers s happening ≢ n.Sweep

-- a cancel from outside that says yes needs the cancel of its task, and any other one nothing
abbrev pub OutsideNeedsItsCancel : Type 0
OutsideNeedsItsCancel = (calls : List Planned) (workers : ℕ) (s : State) (k : ℕ)
    → ((reply_of calls workers s (h.Cancel k)).answer ≡ a.Outside k f.Yes → need_of calls workers s (h.Cancel k) ≡ n.Cancel k)
    × ((reply_of calls workers s (h.Cancel k)).answer ≢ a.Outside k f.Yes → need_of calls workers s (h.Cancel k) ≡ n.Nothing)
