-- What the calls on a table of words answer, and what their callers know of a table and its seats.
-- This project's rule.
use Rattle.std.specs.Prelude.{◌≡◌, ℕ, ◌<◌, Bool, true, false, List, slice_index, slice_set, if◌then◌else◌}
use Rattle.atomic_table.specs.Seated.{TableId}
use Rattle.task_word.specs.Words.{Parts, IsWord, marked, is_cancelled, rank}
use Rattle.task_word.specs.Writes.{Kind, ChangesWord, core_cancel}
use Rattle.task_word.specs.Views.{entry, with_entry, and_if, core_cancelled, handle_looked, handle_cancelled, seen_at, MeetsEntry, MeetsHandle}
use Rattle.task_word.specs.Numbers.{word_of_value}
use Rattle.task_word.specs.Rule.{Matches}
use Rattle.task_word.specs.Steps.{CoreTells}
use Rattle.task_word.specs.declared.phases.Phase.{Phase}
use Rattle.task_word.specs.declared.phases.Phase.TheVariants.{Vacant, New, Running, Done, Failed}
use Rattle.task_word.specs.declared.views.CoreSeatView.{CoreSeatView}
use Rattle.task_word.specs.declared.views.HandleSeatView.{HandleSeatView}
use Rattle.task_word.specs.declared.answers.Moved.{Moved}
use Rattle.task_word.specs.declared.answers.Moved.TheVariants as move
use Rattle.task_word.specs.declared.answers.CoreCancel.{CoreCancel}
use Rattle.task_word.specs.declared.answers.CoreCancel.TheVariants as core
use Rattle.task_word.specs.declared.answers.CancelAnswer.{CancelAnswer}
use Rattle.task_word.specs.declared.answers.CancelAnswer.TheVariants as cancel
use Rattle.task_word.specs.declared.answers.TaskState.{TaskState}
use Rattle.task_word.specs.declared.answers.TaskState.TheVariants as state

-- a table of words: which it is, and the number of its tasks
pub record TableOf : Type 0 where
  pub table : TableId
  pub tasks : ℕ

-- the core's seat: its table, and what it knows
pub record CoreKnows : Type 0 where
  pub table : TableId
  pub view : CoreSeatView

-- a handle's seat: its table, and what it knows
pub record HandleKnows : Type 0 where
  pub table : TableId
  pub view : HandleSeatView

-- the core's view after a move of the task k to the word w. Where the move met the bit, the core's word
-- has it now, and nothing else changed
abbrev pub after_move : CoreSeatView → ℕ → Moved → Parts → CoreSeatView
after_move v k move.Yes w = with_entry v k w
after_move v k move.Cancelled w = with_entry v k (marked (entry v k))

-- where a move answered Yes, its write took the core's word of the task to the one that the core knows now; where it
-- met the bit, the core's word has it now
abbrev pub MoveWrites : Kind → Parts → Moved → Parts → Type 0
MoveWrites kind e move.Yes now = ChangesWord kind e now
MoveWrites kind e move.Cancelled now = now ≡ marked e

-- the answer of a move of the core's that met the word w
abbrev pub move_answer : Parts → Moved
move_answer w = if w.marked then move.Cancelled else move.Yes

-- a move of the core's met some word, and answered by it
abbrev pub MoveMeets : CoreSeatView → ℕ → Moved → Type 0
MoveMeets v k answer = (w : Parts) × MeetsEntry (entry v k) w × CoreTells v k w × (answer ≡ move_answer w)

-- the same, by the word's phase and bit
abbrev pub core_answer_in : Phase → Bool → CoreCancel
core_answer_in Vacant bit = core.Vacant
core_answer_in New bit = if bit then core.Late else core.Won
core_answer_in Running bit = if bit then core.Late else core.Won
core_answer_in Done bit = core.Over
core_answer_in Failed bit = core.Over

-- the answer of the core's cancel that met the word w
abbrev pub core_answer : Parts → CoreCancel
core_answer w = core_answer_in w.phase w.marked

-- whether the core's cancel cancelled the task
abbrev pub is_won : CoreCancel → Bool
is_won core.Won = true
is_won core.Late = false
is_won core.Over = false
is_won core.Vacant = false

-- the core's view after its cancel of the task k had this answer: its word of the task has the bit, and the task joins
-- the core's own where the cancel won. Nothing else changed
abbrev pub after_cancel : CoreSeatView → ℕ → CoreCancel → CoreSeatView
after_cancel v k answer = record { entries = slice_set v.entries k (marked (entry v k)); own = and_if (is_won answer) k v.own; joined = v.joined; ranks = v.ranks; out = v.out }

-- the same, by the word's phase and bit
abbrev pub cancel_answer_in : Phase → Bool → CancelAnswer
cancel_answer_in Vacant bit = cancel.Absent
cancel_answer_in New bit = if bit then cancel.No else cancel.Yes
cancel_answer_in Running bit = if bit then cancel.No else cancel.Yes
cancel_answer_in Done bit = cancel.No
cancel_answer_in Failed bit = cancel.No

-- the answer of a handle's cancel that met the word w
abbrev pub cancel_answer : Parts → CancelAnswer
cancel_answer w = cancel_answer_in w.phase w.marked

-- whether a handle's cancel cancelled the task
abbrev pub is_handle_win : CancelAnswer → Bool
is_handle_win cancel.Yes = true
is_handle_win cancel.No = false
is_handle_win cancel.Absent = false
is_handle_win cancel.NoTask = false

-- the same, by the word's phase and bit
abbrev pub shown_state_in : Phase → Bool → TaskState
shown_state_in Vacant bit = state.Unsubmitted
shown_state_in New bit = if bit then state.Cancelled else state.Waiting
shown_state_in Running bit = if bit then state.Cancelled else state.Running
shown_state_in Done bit = state.Done
shown_state_in Failed bit = state.Failed

-- the state that the word w shows
abbrev pub shown_state : Parts → TaskState
shown_state w = shown_state_in w.phase w.marked

-- the core's cancel met some word, answered by it, and knows the word that its write made of it
abbrev pub CoreCancels : CoreSeatView → ℕ → CoreCancel → CoreSeatView → Type 0
CoreCancels v k answer next = (w : Parts) × MeetsEntry (entry v k) w × CoreTells v k w × (answer ≡ core_answer w) × (next ≡ core_cancelled v k w) × ChangesWord core_cancel w (entry next k)

-- what a handle keeps of the word that it met: its rank, and whether it was cancelled
abbrev pub HandleKeeps : HandleSeatView → ℕ → Parts → Type 0
HandleKeeps h k w = (slice_index h.ranks k ≡ rank w) × (seen_at h k ≡ is_cancelled w)

-- a handle's cancel met some word, answered by it, and keeps it
abbrev pub HandleCancels : HandleSeatView → ℕ → CancelAnswer → HandleSeatView → Type 0
HandleCancels h k answer next = (w : Parts) × MeetsHandle h k w × (answer ≡ cancel_answer w) × (next ≡ handle_cancelled h k w) × HandleKeeps next k w

-- a handle's look met some word, answered by it, and keeps it
abbrev pub HandleLooks : HandleSeatView → ℕ → TaskState → HandleSeatView → Type 0
HandleLooks h k answer next = (w : Parts) × MeetsHandle h k w × (answer ≡ shown_state w) × (next ≡ handle_looked h k w) × HandleKeeps next k w

-- the words with which a table of n tasks was closed: each is the core's, as it is or with the bit
pub record Closes (n : ℕ) (v : CoreSeatView) (words : List ℕ) : Type 0 where
  pub word : (k : ℕ) → k < n → IsWord (word_of_value (slice_index words k))
  pub each : (k : ℕ) → k < n → Matches (slice_index words k) (entry v k)
  pub tells : (k : ℕ) → k < n → CoreTells v k (word_of_value (slice_index words k))
