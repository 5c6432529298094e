-- What the seats of a table of words know, and how each step changes it. Tasks are numbered from 0.
-- This project's rule.
use Rattle.std.specs.Prelude.{◌≡◌, ℕ, ◌+◌, ◌-◌, ◌<◌, ◌≤◌, ◌==◌, ◌&&◌, max, Bool, true, false, not, List, [], ◌∷◌, ◌++◌, slice_index, slice_index_or, slice_set, replicate, ◌⊎◌}
use Rattle.std.specs.List.{count_by}
use Rattle.task_word.specs.Words.{Parts, IsWord, vacant_word, marked, is_live, is_ended_phase, is_cancelled, rank}
use Rattle.task_word.specs.declared.views.CoreSeatView.{CoreSeatView}
use Rattle.task_word.specs.declared.views.HandleSeatView.{HandleSeatView}

-- the core's word of a task
abbrev pub entry : CoreSeatView → ℕ → Parts
entry v k = slice_index_or v.entries k vacant_word

-- how often a task stands in a list
abbrev pub times : ℕ → List ℕ → ℕ
times k tasks = count_by (λ j. j == k) tasks

-- the step that sets the bit cancels the task: it met it live, and without the bit
abbrev pub wins : Parts → Bool
wins w = is_live w.phase && not w.marked

-- the list with the task at its head, if so
abbrev pub and_if : Bool → ℕ → List ℕ → List ℕ
and_if true k tasks = k ∷ tasks
and_if false k tasks = tasks

-- a core that knows n vacant tasks, and no handle
abbrev pub new_core : ℕ → CoreSeatView
new_core n = record { entries = replicate n vacant_word; own = []; joined = []; ranks = replicate n 0; out = 0 }

-- a handle that met none of n tasks
abbrev pub new_handle : ℕ → HandleSeatView
new_handle n = record { won = []; ranks = replicate n 0; seen = replicate n false; last = (0, vacant_word) }

-- the core's word of the task k is w, and nothing else changed
abbrev pub with_entry : CoreSeatView → ℕ → Parts → CoreSeatView
with_entry v k w = record { entries = slice_set v.entries k w; own = v.own; joined = v.joined; ranks = v.ranks; out = v.out }

-- the core set the bit of the task k, and met w
abbrev pub core_cancelled : CoreSeatView → ℕ → Parts → CoreSeatView
core_cancelled v k w = record { entries = slice_set v.entries k (marked w); own = and_if (wins w) k v.own; joined = v.joined; ranks = v.ranks; out = v.out }

-- the handles that may be out at once
abbrev pub most_handles : ℕ
most_handles = 63

-- one more handle is out
abbrev pub one_out : CoreSeatView → CoreSeatView
one_out v = record { entries = v.entries; own = v.own; joined = v.joined; ranks = v.ranks; out = v.out + 1 }

-- of two lists, the greater number at each place
abbrev pub greater : List ℕ → List ℕ → List ℕ
greater [] ys = ys
greater (x ∷ xs) [] = x ∷ xs
greater (x ∷ xs) (y ∷ ys) = max x y ∷ greater xs ys

-- a handle is back: what it won is joined, and the greater ranks that it met are the core's
abbrev pub joined_with : CoreSeatView → HandleSeatView → CoreSeatView
joined_with v h = record { entries = v.entries; own = v.own; joined = v.joined ++ h.won; ranks = greater v.ranks h.ranks; out = v.out - 1 }

-- the handle met the word w of the task k
abbrev pub handle_looked : HandleSeatView → ℕ → Parts → HandleSeatView
handle_looked h k w = record { won = h.won; ranks = slice_set h.ranks k (rank w); seen = slice_set h.seen k (is_cancelled w); last = (k, w) }

-- the handle set the bit of the task k, and met w
abbrev pub handle_cancelled : HandleSeatView → ℕ → Parts → HandleSeatView
handle_cancelled h k w = record { won = and_if (wins w) k h.won; ranks = slice_set h.ranks k (rank w); seen = slice_set h.seen k (is_cancelled w); last = (k, w) }

-- whether the handle met the task k cancelled
abbrev pub seen_at : HandleSeatView → ℕ → Bool
seen_at h k = slice_index_or h.seen k false

-- what a core's word lets a step meet: the word, or the word with the bit
abbrev pub MeetsEntry : Parts → Parts → Type 0
MeetsEntry e w = (w ≡ e) ⊎ (w ≡ marked e)

-- what a handle knows lets a step meet: no lower rank than it met, and what it met cancelled or
-- cancelled itself is cancelled, with the rank that it met. What its last step met ended has the phase
-- and the run met
pub record MeetsHandle (h : HandleSeatView) (k : ℕ) (w : Parts) : Type 0 where
  pub word : IsWord w
  pub met : slice_index h.ranks k ≤ rank w
  pub seen : seen_at h k ≡ true → is_cancelled w ≡ true
  pub won : 0 < times k h.won → is_cancelled w ≡ true
  pub still : (seen_at h k ≡ true) ⊎ (0 < times k h.won) → slice_index h.ranks k ≡ rank w
  pub ended : h.last.0 ≡ k → is_ended_phase h.last.1.phase ≡ true → (w.phase ≡ h.last.1.phase) × (w.run ≡ h.last.1.run)
