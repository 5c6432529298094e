-- What the words of a closed table are.
use Rattle.std.proofs.Common.{◌≡◌, ℕ, ◌+◌, ◌<◌, zero, suc, List, [], ◌∷◌, ◌++◌, length, slice_index, sym, ap, subst, ◌∙◌, arith, below_more}
use Rattle.std.proofs.Math.ListN.{get_or-append}
use Rattle.std.proofs.Math.Seq.{get_or-append_seam}
use mathlib.Core.Option.{some, some-injective, some-ne-none}
use lib.ListN.{get_elem?}
use Rattle.atomic_table.specs.Table.{Final, Seen}
use Rattle.task_word.specs.Words.{IsWord}
use Rattle.task_word.specs.Views.{entry}
use Rattle.task_word.specs.own.Views.{core_of}
use Rattle.task_word.specs.Numbers.{word_of_value}
use Rattle.task_word.specs.Rule.{Matches, EntriesFit}
use Rattle.task_word.specs.own.Rule.{task_words}
use Rattle.task_word.specs.Steps.{CoreTells}
use Rattle.task_word.specs.Answers.{Closes}
use Rattle.task_word.specs.declared.views.View.{View}
use Rattle.task_word.specs.declared.views.View.TheVariants.{Core}
use Rattle.task_word.proofs.TaskPlaces.{Rule, task_at}
use Rattle.task_word.proofs.WordNumbers.{reads_word}
use Rattle.task_word.proofs.CoreSteps.{fits, tells}

-- the words after the first, copied, close the table
pub closes : (n id : ℕ) (v : View) (words copied : List ℕ) (slots : List (Unit {0})) → id ≡ 0 → v ≡ Core (core_of v) → Final (Seen (Rule n) id v) words slots
    → ((j : ℕ) → j < n → slice_index copied j ≡ slice_index words (j + 1)) → Closes n (core_of v) copied
closes n id v words copied slots zero_id core final same =
    let s = final.0 in
    let kept = final.1.0 in
    let at : get_elem? s.views 0 ≡ some (Core (core_of v)) = subst (λ (i : ℕ). get_elem? s.views i ≡ some v) zero_id final.1.1 ∙ ap some core in
    let f : EntriesFit n (task_words s.words) (core_of v).entries = fits n (task_words s.words) s.views (core_of v) kept at in
    let is : (j : ℕ) → j < n → slice_index (task_words s.words) j ≡ slice_index copied j = (λ j h. task_at s.words j ∙ (ap (λ ws. slice_index ws (j + 1)) final.2 ∙ sym (same j h))) in
    record {
      word = λ k h. subst (λ (x : ℕ). IsWord (word_of_value x)) (is k h) (reads_word _ (entry (core_of v) k) (f.word k h) (f.each k h));
      each = λ k h. subst (λ (x : ℕ). Matches x (entry (core_of v) k)) (is k h) (f.each k h);
      tells = λ k h. subst (λ (x : ℕ). CoreTells (core_of v) k (word_of_value x)) (is k h) (tells n k (task_words s.words) s.views (core_of v) kept at h);
    }

-- one word more is copied
pub copies_more : (xs ys : List ℕ) (k x : ℕ) → length xs ≡ k → get_elem? ys (k + 1) ≡ some x → ((j : ℕ) → j < k → slice_index xs j ≡ slice_index ys (j + 1))
    → (j : ℕ) → j < k + 1 → slice_index (xs ++ x ∷ []) j ≡ slice_index ys (j + 1)
copies_more xs ys k x len at same =
    below_more _ _
    (λ j h. get_or-append xs (x ∷ []) 0 j (omega (arith, len)) ∙ same j h)
    (ap (slice_index (xs ++ x ∷ [])) (sym len) ∙ (get_or-append_seam xs x [] 0 ∙ sym (found_at ys (k + 1) x at)))
  where
    found_at : (ys : List ℕ) (i x : ℕ) → get_elem? ys i ≡ some x → slice_index ys i ≡ x
    found_at [] i x at = absurd (some-ne-none x (sym at))
    found_at (y ∷ ys) zero x at = some-injective _ _ at
    found_at (y ∷ ys) (suc i) x at = found_at ys i x at
