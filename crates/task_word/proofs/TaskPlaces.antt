-- The words of the tasks in a table, whose first word belongs to no task.
use Rattle.std.proofs.Common.{◌≡◌, ℕ, ◌+◌, suc, List, [], ◌∷◌, set, slice_index, refl, ap, subst, arith}
use lib.ListN.{get_elem?}
use mathlib.Core.Option.{some}
use Rattle.atomic_table.specs.Table.{State, keeps, Allows}
use Rattle.task_word.specs.Rule.{IsWellFormedTable}
use Rattle.task_word.specs.own.Rule.{task_words}
use Rattle.task_word.specs.own.Steps.{Holder}
use Rattle.task_word.specs.declared.views.View.{View}

-- the rule of n tasks, given to a table
abbrev pub Rule : ℕ → State (Unit {0}) View → Type 0
Rule n s = IsWellFormedTable n (task_words s.words) s.views

after : (k : ℕ) → suc k ≡ k + 1
after k = omega arith

-- the word of a task in the table
pub task_at : (words : List ℕ) (k : ℕ) → slice_index (task_words words) k ≡ slice_index words (k + 1)
task_at [] k = refl
task_at (spare ∷ words) k = ap (slice_index (spare ∷ words)) (after k)

-- what a step tells of the word of the task k, where f changes it
abbrev pub TaskStep : ℕ → ℕ → ℕ → Holder → (ℕ → ℕ) → (ℕ → Holder → Type 0) → List ℕ → List View → Type 0
TaskStep n id k me f then words views = (w : View) × IsWellFormedTable n (set words k (f (slice_index words k))) (set views id w) × then (slice_index words k) (w, me.1)

in_table : (n id k : ℕ) (me : Holder) (f : ℕ → ℕ) (then : ℕ → Holder → Type 0) (words : List ℕ) (views : List View) → TaskStep n id k me f then (task_words words) views
    → (w : View) × IsWellFormedTable n (task_words (set words (k + 1) (f (slice_index words (k + 1))))) (set views id w) × then (slice_index words (k + 1)) (w, me.1)
in_table n id k me f then [] views made = made
in_table n id k me f then (spare ∷ words) views made =
    subst (λ (i : ℕ). (w : View) × IsWellFormedTable n (task_words (set (spare ∷ words) i (f (slice_index (spare ∷ words) i)))) (set views id w) × then (slice_index (spare ∷ words) i) (w, me.1)) (after k) made

-- a step that keeps the rule of the tasks' words keeps the table's
pub allows : (n slots id k : ℕ) (me : Holder) (f : ℕ → ℕ) (then : ℕ → Holder → Type 0)
    → ((words : List ℕ) (views : List View) → IsWellFormedTable n words views → get_elem? views id ≡ some me.0 → TaskStep n id k me f then words views)
    → Allows {S = Unit {0}} (Rule n) slots id me (k + 1) f then
allows n slots id k me f then made =
    λ s kept homes at bound.
    let m = in_table n id k me f then s.words s.views (made (task_words s.words) s.views kept at) in (m.0, keeps, tt, m.1, m.2)
