-- The rule of the words of tasks, which is so between any two steps. The word of task k is word k.
-- This project's rule.
use Rattle.std.specs.Prelude.{◌≡◌, ℕ, ◌<◌, ◌≤◌, Bool, true, false, List, ◌++◌, [], length, slice_index, slice_index_or, ◌⊎◌}
use Rattle.std.specs.List.{sum_by}
use mathlib.Core.Option.{some}
use lib.ListN.{get_elem?}
use Rattle.task_word.specs.Words.{Parts, IsWord, value, vacant_word, marked, is_ended_phase, is_cancelled, rank}
use Rattle.task_word.specs.Numbers.{word_of_value}
use Rattle.task_word.specs.Views.{times, most_handles}
use Rattle.task_word.specs.declared.views.CoreSeatView.{CoreSeatView}
use Rattle.task_word.specs.declared.views.View.{View}
use Rattle.task_word.specs.declared.views.View.TheVariants.{Core, Handle, Spent}

-- the word of task k
abbrev pub word_at : List ℕ → ℕ → Parts
word_at words k = word_of_value (slice_index words k)

-- the number is the word, as it is or with the bit
abbrev pub Matches : ℕ → Parts → Type 0
Matches n w = (n ≡ value w) ⊎ (n ≡ value (marked w))

-- 1 if it is so, else 0
abbrev pub flag : Bool → ℕ
flag true = 1
flag false = 0

-- the tasks that a seat has cancelled, or has taken over from those that did
abbrev pub taken_by : View → List ℕ
taken_by (Core v) = v.own ++ v.joined
taken_by (Handle h) = h.won
taken_by Spent = []

-- for each task the greatest rank that the seat met, or that a joined handle met
abbrev pub ranks_of : View → List ℕ
ranks_of (Core v) = v.ranks
ranks_of (Handle h) = h.ranks
ranks_of Spent = []

-- for each task whether a handle met it cancelled
abbrev pub seen_of : View → List Bool
seen_of (Core v) = []
seen_of (Handle h) = h.seen
seen_of Spent = []

-- the tasks of which the seat knows how far each came when it was cancelled: those that a handle cancelled,
-- and for the core those that the joined handles did
abbrev pub won_of : View → List ℕ
won_of (Core v) = v.joined
won_of (Handle h) = h.won
won_of Spent = []

-- the task of a handle's last step, and the word that the step met
abbrev pub last_of : View → ℕ × Parts
last_of (Core v) = (0, vacant_word)
last_of (Handle h) = h.last
last_of Spent = (0, vacant_word)

-- 1 for a handle, else 0
abbrev pub is_handle : View → ℕ
is_handle (Core v) = 0
is_handle (Handle h) = 1
is_handle Spent = 0

-- each of n words is the core's entry, as it is or with the bit
pub record EntriesFit (n : ℕ) (words : List ℕ) (entries : List Parts) : Type 0 where
  pub count : length entries ≡ n
  pub word : (k : ℕ) → k < n → IsWord (slice_index_or entries k vacant_word)
  pub each : (k : ℕ) → k < n → Matches (slice_index words k) (slice_index_or entries k vacant_word)

-- no word has a lower rank than the seat met, and what the seat met cancelled is cancelled
--
-- A cancelled word stands still: one that the seat met so, or that it won, has the rank met. So does an
-- ended one: that of a handle's last step has the phase and the run met.
pub record HasMet (n : ℕ) (words : List ℕ) (v : View) : Type 0 where
  pub ranks : (k : ℕ) → k < n → slice_index (ranks_of v) k ≤ rank (word_at words k)
  pub seen : (k : ℕ) → k < n → slice_index_or (seen_of v) k false ≡ true → is_cancelled (word_at words k) ≡ true
  pub still : (k : ℕ) → k < n → (slice_index_or (seen_of v) k false ≡ true) ⊎ (0 < times k (won_of v)) → slice_index (ranks_of v) k ≡ rank (word_at words k)
  pub ended : (last_of v).0 < n → is_ended_phase (last_of v).1.phase ≡ true → ((word_at words (last_of v).0).phase ≡ (last_of v).1.phase) × ((word_at words (last_of v).0).run ≡ (last_of v).1.run)

-- how often the task stands in what the seats took, added up
abbrev pub taken_in_all : ℕ → List View → ℕ
taken_in_all k views = sum_by (λ v. times k (taken_by v)) views

-- the number of handles that are out
abbrev pub handles : List View → ℕ
handles views = sum_by is_handle views

-- the words of n tasks and the views of the seats
pub record IsWellFormedTable (n : ℕ) (words : List ℕ) (views : List View) : Type 0 where
  -- one word for each task
  pub count : length words ≡ n
  -- the first seat is the core's, and no other
  pub core : (v : CoreSeatView) × (get_elem? views 0 ≡ some (Core v)) × EntriesFit n words v.entries × (v.out ≡ handles views) × (v.out ≤ most_handles)
  pub only : (id : ℕ) (v : CoreSeatView) → get_elem? views id ≡ some (Core v) → id ≡ 0
  -- each cancelled task stands in what one seat took, once, and no other task stands in any
  pub once : (k : ℕ) → k < n → taken_in_all k views ≡ flag (is_cancelled (word_at words k))
  -- what is no task of the table was taken by none
  pub none : (k : ℕ) → n ≤ k → taken_in_all k views ≡ 0
  -- what the seats met is so
  pub met : (id : ℕ) (v : View) → get_elem? views id ≡ some v → HasMet n words v
