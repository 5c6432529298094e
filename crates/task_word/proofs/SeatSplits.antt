-- To cut a handle off from the core's seat, and to put it back, keeps the rule.
use Rattle.std.proofs.Common.{◌≡◌, ℕ, ◌<◌, ◌≤◌, ◌≢◌, ◌⊎◌, zero, suc, true, false, inl, inr, List, [], ◌∷◌, ◌++◌, length, set, slice_index, slice_index_or, replicate, refl, sym, ap, subst, ◌∙◌, arith}
use Rattle.std.proofs.lemmas.Bool.{cases_lt}
use mathlib.Core.Option.{some}
use lib.ListN.{get_elem?}
use Rattle.atomic_table.specs.Table.{Splits, Joins}
use Rattle.atomic_table.proofs.Lists.{at_set, set_here, set_else, at_longer, at_snoc}
use Rattle.task_word.specs.Words.{rank}
use Rattle.task_word.specs.Views.{most_handles, times, new_handle, one_out, joined_with, greater}
use Rattle.task_word.specs.own.Views.{core_of, handle_of, lender, lent, together, spent}
use Rattle.task_word.specs.Rule.{word_at, taken_by, is_handle, HasMet, IsWellFormedTable}
use Rattle.task_word.specs.own.Rule.{task_words}
use Rattle.task_word.specs.declared.views.CoreSeatView.{CoreSeatView}
use Rattle.task_word.specs.declared.views.HandleSeatView.{HandleSeatView}
use Rattle.task_word.specs.declared.views.View.{View}
use Rattle.task_word.specs.declared.views.View.TheVariants.{Core, Handle, Spent}
use Rattle.task_word.proofs.ViewLists.{sum_set, sum_last, greater_below}
use Rattle.task_word.proofs.Uses.{greater_left, greater_right}
use Rattle.task_word.proofs.TaskPlaces.{Rule}
use Rattle.task_word.proofs.WordChanges.{times_append}
use Rattle.task_word.proofs.CoreSteps.{not_core, fits, out_is, out_most, in_views}

-- each of a list of zeros is 0
pub zeros : (n k : ℕ) → slice_index (replicate n 0) k ≡ 0
zeros zero k = refl
zeros (suc n) zero = refl
zeros (suc n) (suc k) = zeros n k

none_seen : (n k : ℕ) → slice_index_or (replicate n false) k false ≡ false
none_seen zero k = refl
none_seen (suc n) zero = refl
none_seen (suc n) (suc k) = none_seen n k

-- a new handle met nothing
met_nothing : (n m : ℕ) (words : List ℕ) → HasMet n words (Handle (new_handle m))
met_nothing n m words =
    record {
      ranks = λ k h. omega (arith, zeros m k);
      seen = λ k h e. absurd (let f : true ≡ false = sym e ∙ none_seen m k in grind (arith));
      still = λ k h s. absurd (elim s [ inl e ↦ (let f : true ≡ false = sym e ∙ none_seen m k in grind (arith)) | inr g ↦ (let z : 0 < 0 = g in omega (arith, z)) ]);
      ended = λ h e. absurd (let f : false ≡ true = e in grind (arith));
    }

split_keeps : (n : ℕ) (words : List ℕ) (views : List View) (v : CoreSeatView) → IsWellFormedTable n words views → get_elem? views 0 ≡ some (Core v) → v.out < most_handles
    → IsWellFormedTable n words (set views 0 (Core (one_out v)) ++ Handle (new_handle (length v.entries)) ∷ [])
split_keeps n words views v kept at room =
    let w : View = Core (one_out v) in
    let h : View = Handle (new_handle (length v.entries)) in
    let met : HasMet n words (Core v) = kept.met 0 (Core v) at in
    record {
      count = kept.count;
      core = (
        one_out v,
        at_longer (set views 0 w) (h ∷ []) 0 w (set_here views 0 w (in_views views (Core v) at)),
        fits n words views v kept at,
        (let s = sum_set is_handle views 0 (Core v) w at in let l = sum_last is_handle (set views 0 w) h in let o = out_is n words views v kept at in omega (arith, s, l, o)),
        omega (arith, room),
      );
      only = λ id u there. elim (at_snoc (set views 0 w) h (Core u) id there) [
        | inl before ↦ elim (at_set views 0 id w (Core u) before) [ inl same ↦ same.0 | inr other ↦ kept.only id u other.1 ]
        | inr new ↦ absurd (not_core h u refl new)
      ];
      once = λ k lt.
          let s = sum_set (λ u. times k (taken_by u)) views 0 (Core v) w at in
          let l = sum_last (λ u. times k (taken_by u)) (set views 0 w) h in
          let o = kept.once k lt in
          omega (arith, s, l, o);
      none = λ k past.
          let s = sum_set (λ u. times k (taken_by u)) views 0 (Core v) w at in
          let l = sum_last (λ u. times k (taken_by u)) (set views 0 w) h in
          let o = kept.none k past in
          omega (arith, s, l, o);
      met = λ id u there. elim (at_snoc (set views 0 w) h u id there) [
        | inl before ↦ elim (at_set views 0 id w u before) [
          | inl same ↦ subst (HasMet n words) same.1 (record { ranks = met.ranks; seen = met.seen; still = met.still; ended = met.ended })
          | inr other ↦ kept.met id u other.1
        ]
        | inr new ↦ subst (HasMet n words) new (met_nothing n (length v.entries) words)
      ];
    }

-- the core's seat may cut off a handle while fewer than `most_handles` are out
pub splits : (n id : ℕ) (v : View) → id ≡ 0 → v ≡ Core (core_of v) → (core_of v).out < most_handles → Splits (Rule n) id v (lender v) (lent v)
splits n id v zero_id core room s kept at =
    let here : get_elem? s.views 0 ≡ some (Core (core_of v)) = subst (λ (i : ℕ). get_elem? s.views i ≡ some v) zero_id at ∙ ap some core in
    subst (λ (i : ℕ). IsWellFormedTable n (task_words s.words) (set s.views i (lender v) ++ lent v ∷ [])) (sym zero_id) (split_keeps n (task_words s.words) s.views (core_of v) kept here room)

-- one that is gone knows nothing
met_none : (n : ℕ) (words : List ℕ) → HasMet n words Spent
met_none n words =
    record {
      ranks = λ k lt. omega arith;
      seen = λ k lt e. absurd (let f : false ≡ true = e in grind (arith));
      still = λ k lt s. absurd (elim s [ inl e ↦ (let f : false ≡ true = e in grind (arith)) | inr g ↦ (let z : 0 < 0 = g in omega (arith, z)) ]);
      ended = λ lt e. absurd (let f : false ≡ true = e in grind (arith));
    }

-- what the core and a handle met, the core met once the handle is back
met_both : (n : ℕ) (words : List ℕ) (v : CoreSeatView) (h : HandleSeatView) → HasMet n words (Core v) → HasMet n words (Handle h) → HasMet n words (Core (joined_with v h))
met_both n words v h met met_h =
    record {
      ranks = below;
      seen = met.seen;
      still = λ k lt s. elim s [
        | inl e ↦ absurd (let f : false ≡ true = e in grind (arith))
        | inr g ↦ level k lt (elim (cases_lt 0 (times k v.joined)) [
          | inl here ↦ inl here
          | inr none ↦ inr (omega (arith, g, none, times_append k v.joined h.won))
        ])
      ];
      ended = met.ended;
    }
  where
    below : (k : ℕ) → k < n → slice_index (greater v.ranks h.ranks) k ≤ rank (word_at words k)
    below k lt = greater_below v.ranks h.ranks k (rank (word_at words k)) (met.ranks k lt) (met_h.ranks k lt)

    level : (k : ℕ) → k < n → (0 < times k v.joined) ⊎ (0 < times k h.won) → slice_index (greater v.ranks h.ranks) k ≡ rank (word_at words k)
    level k lt s = elim s [
      | inl g ↦ omega (arith, below k lt, met.still k lt (inr g), greater_left v.ranks h.ranks k)
      | inr g ↦ omega (arith, below k lt, met_h.still k lt (inr g), greater_right v.ranks h.ranks k)
    ]

join_keeps : (n other : ℕ) (words : List ℕ) (views : List View) (v : CoreSeatView) (h : HandleSeatView) → IsWellFormedTable n words views → get_elem? views 0 ≡ some (Core v) → other ≢ 0
    → get_elem? (set views 0 (Core (joined_with v h))) other ≡ some (Handle h)
    → IsWellFormedTable n words (set (set views 0 (Core (joined_with v h))) other Spent)
join_keeps n other words views v h kept at apart there =
    let w : View = Core (joined_with v h) in
    let early : List View = set views 0 w in
    let before : get_elem? views other ≡ some (Handle h) = sym (set_else views 0 other w apart) ∙ there in
    let met : HasMet n words (Core v) = kept.met 0 (Core v) at in
    let met_h : HasMet n words (Handle h) = kept.met other (Handle h) before in
    let zero_apart : 0 ≢ other = (λ e. apart (sym e)) in
    record {
      count = kept.count;
      core = (
        joined_with v h,
        set_else early other 0 Spent zero_apart ∙ set_here views 0 w (in_views views (Core v) at),
        fits n words views v kept at,
        (let s = sum_set is_handle views 0 (Core v) w at in let l = sum_set is_handle early other (Handle h) Spent there in let o = out_is n words views v kept at in omega (arith, s, l, o)),
        (let most = out_most n words views v kept at in omega (arith, most)),
      );
      only = λ id u at'. elim (at_set early other id Spent (Core u) at') [
        | inl same ↦ absurd (not_core Spent u refl same.1)
        | inr else ↦ elim (at_set views 0 id w (Core u) else.1) [ inl same ↦ same.0 | inr far ↦ kept.only id u far.1 ]
      ];
      once = λ k lt.
          let s = sum_set (λ u. times k (taken_by u)) views 0 (Core v) w at in
          let l = sum_set (λ u. times k (taken_by u)) early other (Handle h) Spent there in
          let o = kept.once k lt in
          let a = times_append k v.own v.joined in
          let b = times_append k v.own (v.joined ++ h.won) in
          let c = times_append k v.joined h.won in
          omega (arith, s, l, o, a, b, c);
      none = λ k past.
          let s = sum_set (λ u. times k (taken_by u)) views 0 (Core v) w at in
          let l = sum_set (λ u. times k (taken_by u)) early other (Handle h) Spent there in
          let o = kept.none k past in
          let a = times_append k v.own v.joined in
          let b = times_append k v.own (v.joined ++ h.won) in
          let c = times_append k v.joined h.won in
          omega (arith, s, l, o, a, b, c);
      met = λ id u at'. elim (at_set early other id Spent u at') [
        | inl same ↦ subst (HasMet n words) same.1 (met_none n words)
        | inr else ↦ elim (at_set views 0 id w u else.1) [
          | inl same ↦ subst (HasMet n words) same.1 (met_both n words v h met met_h)
          | inr far ↦ kept.met id u far.1
        ]
      ];
    }

-- the core's seat may take a handle back
pub joins : (n id other : ℕ) (v w : View) → id ≡ 0 → v ≡ Core (core_of v) → w ≡ Handle (handle_of w) → Joins (Rule n) id v other w (together v w) spent
joins n id other v w zero_id core handle s kept at apart there =
    let here : get_elem? s.views 0 ≡ some (Core (core_of v)) = subst (λ (i : ℕ). get_elem? s.views i ≡ some v) zero_id at ∙ ap some core in
    let there' : get_elem? (set s.views 0 (together v w)) other ≡ some (Handle (handle_of w)) = subst (λ (i : ℕ). get_elem? (set s.views i (together v w)) other ≡ some w) zero_id there ∙ ap some handle in
    subst (λ (i : ℕ). IsWellFormedTable n (task_words s.words) (set (set s.views i (together v w)) other Spent)) (sym zero_id) (join_keeps n other (task_words s.words) s.views (core_of v) (handle_of w) kept here (λ e. apart (e ∙ sym zero_id)) there')
