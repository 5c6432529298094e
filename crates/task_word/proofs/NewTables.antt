-- A new table keeps the rule.
use Rattle.std.proofs.Common.{◌≡◌, ℕ, ◌+◌, ◌<◌, zero, suc, true, false, inl, inr, List, [], ◌∷◌, get_or, replicate, refl, sym, ap, subst, ◌∙◌, arith}
use mathlib.Core.Option.{some, some-injective, some-ne-none}
use lib.ListN.{get_elem?}
use Rattle.std.proofs.lemmas.List.{length-replicate, get_or-replicate}
use Rattle.task_word.specs.Words.{Parts, IsWord, vacant_word, is_cancelled, rank}
use Rattle.task_word.specs.Views.{new_core}
use Rattle.task_word.specs.own.Views.{first_view}
use Rattle.task_word.specs.Numbers.{word_of_value}
use Rattle.task_word.specs.Rule.{word_at, HasMet, IsWellFormedTable}
use Rattle.task_word.specs.own.Rule.{task_words}
use Rattle.task_word.specs.declared.views.CoreSeatView.{CoreSeatView}
use Rattle.task_word.specs.declared.views.View.{View}
use Rattle.task_word.specs.declared.views.View.TheVariants.{Core}
use Rattle.task_word.proofs.SeatSplits.{zeros}

vacant_is_word : (n k : ℕ) → k < n → IsWord (get_or (replicate n vacant_word) k vacant_word)
vacant_is_word n k h = subst IsWord (sym (get_or-replicate n k vacant_word vacant_word h)) (record { vacant = λ e. refl; run = omega arith })

met_first : (n : ℕ) (words : List ℕ) → HasMet n words (first_view n)
met_first n words =
    record {
      ranks = λ k h. omega (arith, zeros n k);
      seen = λ k h e. absurd (let f : true ≡ false = sym e in grind (arith));
      still = λ k h s. absurd (elim s [ inl e ↦ (let f : false ≡ true = e in grind (arith)) | inr g ↦ (let z : 0 < 0 = g in omega (arith, z)) ]);
      ended = λ h e. absurd (let f : false ≡ true = e in grind (arith));
    }

none_cancelled : (n k : ℕ) → is_cancelled (word_at (replicate n 0) k) ≡ false
none_cancelled n k = ap (λ m. is_cancelled (word_of_value m)) (zeros n k)

-- the words of the tasks are vacant, where all words of the table are
zero_words : (n : ℕ) → task_words (replicate (n + 1) 0) ≡ replicate n 0
zero_words n = let e : n + 1 ≡ suc n = omega arith in ap (λ m. task_words (replicate m 0)) e

-- the words and the first view of a new table keep the rule
pub opens : (n : ℕ) (words : List ℕ) → words ≡ replicate (n + 1) 0 → IsWellFormedTable n (task_words words) (first_view n ∷ [])
opens n words is =
    subst (λ (ws : List ℕ). IsWellFormedTable n ws (first_view n ∷ [])) (sym (ap task_words is ∙ zero_words n)) record {
      count = length-replicate n 0;
      core = (
        new_core n,
        refl,
        record {
          count = length-replicate n vacant_word;
          word = vacant_is_word n;
          each = λ k h. inl (zeros n k ∙ sym (ap Rattle.task_word.specs.Words.value (get_or-replicate n k vacant_word vacant_word h)));
        },
        refl,
        omega arith,
      );
      only = only;
      once = λ k h. sym (ap Rattle.task_word.specs.Rule.flag (none_cancelled n k));
      none = λ k past. refl;
      met = met;
    }
  where
    only : (id : ℕ) (v : CoreSeatView) → get_elem? (first_view n ∷ []) id ≡ some (Core v) → id ≡ 0
    only zero v e = refl
    only (suc id) v e = absurd (some-ne-none _ (sym e))

    met : (id : ℕ) (v : View) → get_elem? (first_view n ∷ []) id ≡ some v → HasMet n (replicate n 0) v
    met zero v e = subst (HasMet n (replicate n 0)) (some-injective _ _ e) (met_first n _)
    met (suc id) v e = absurd (some-ne-none _ (sym e))
