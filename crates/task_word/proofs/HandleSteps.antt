-- The steps of a handle's seat keep the rule.
use Rattle.std.proofs.Common.{◌≡◌, ℕ, ◌+◌, ◌<◌, ◌≤◌, ◌≢◌, zero, suc, Bool, true, false, ◌⊎◌, inl, inr, List, [], ◌∷◌, length, set, slice_index, slice_index_or, refl, sym, ap, subst, ◌∙◌, arith, length-set, bit_or, get_or-set_same, get_or-set_other}
use Rattle.std.proofs.lemmas.Bool.{cases_eq}
use mathlib.Core.Option.{some, some-injective}
use lib.ListN.{get_elem?}
use Rattle.atomic_table.specs.Table.{Allows}
use Rattle.atomic_table.proofs.Lists.{at_set, set_else}
use Rattle.task_word.specs.Writes.{handle_cancel}
use Rattle.task_word.specs.Words.{Parts, IsWord, bit, value, marked, is_cancelled, rank}
use Rattle.task_word.specs.Views.{times, wins, handle_looked, handle_cancelled, MeetsHandle}
use Rattle.task_word.specs.own.Views.{handle_of}
use Rattle.task_word.specs.Numbers.{word_of_value}
use Rattle.task_word.specs.Rule.{word_at, Matches, flag, is_handle, HasMet, IsWellFormedTable}
use Rattle.task_word.specs.own.Steps.{Holder, HandleIs, HandleCancelled, HandleLooked}
use Rattle.task_word.specs.declared.views.HandleSeatView.{HandleSeatView}
use Rattle.task_word.specs.declared.views.View.{View}
use Rattle.task_word.specs.declared.views.View.TheVariants.{Core, Handle}
use Rattle.task_word.proofs.WordNumbers.{reads_back, marked_word, reads_word, reads_number, or_marks}
use Rattle.task_word.proofs.ViewLists.{sum_set}
use Rattle.task_word.proofs.TaskPlaces.{Rule, allows}
use Rattle.task_word.proofs.Writes.{Becomes, becomes, becomes_same}
use Rattle.task_word.proofs.WordChanges.{won_cancelled, won_still, met_after, once_after, none_after, word_after, and_if_same, and_if_other, wins_count}
use Rattle.task_word.proofs.CoreSteps.{not_core, at_task}

-- a list of numbers with one of them set is below what it was below, and the new one is
set_below : (xs : List ℕ) (k j a m : ℕ) → slice_index xs j ≤ m → (j ≡ k → a ≤ m) → slice_index (set xs k a) j ≤ m
set_below [] k j a m before new = before
set_below (x ∷ xs) zero zero a m before new = new refl
set_below (x ∷ xs) zero (suc j) a m before new = before
set_below (x ∷ xs) (suc k) zero a m before new = before
set_below (x ∷ xs) (suc k) (suc j) a m before new = set_below xs k j a m before (λ e. new (ap suc e))

-- what is set in a list with one set was set before, or is the one
set_true : (xs : List Bool) (k j : ℕ) (b : Bool) → slice_index_or (set xs k b) j false ≡ true → (slice_index_or xs j false ≡ true) ⊎ ((j ≡ k) × (b ≡ true))
set_true [] k j b e = inl e
set_true (x ∷ xs) zero zero b e = inr (refl, e)
set_true (x ∷ xs) zero (suc j) b e = inl e
set_true (x ∷ xs) (suc k) zero b e = inl e
set_true (x ∷ xs) (suc k) (suc j) b e = elim (set_true xs k j b e) [ inl before ↦ inl before | inr new ↦ inr (ap suc new.0, new.1) ]

-- the core's word of the task is a word that the table's fits
some_entry : (n k : ℕ) (words : List ℕ) (views : List View) → IsWellFormedTable n words views → k < n → (e : Parts) × IsWord e × Matches (slice_index words k) e
some_entry n k words views kept in_n = (_, kept.core.2.word k in_n, kept.core.2.each k in_n)

-- the seat of a handle is not the first
not_first : (n id : ℕ) (words : List ℕ) (views : List View) (h : HandleSeatView) → IsWellFormedTable n words views → get_elem? views id ≡ some (Handle h) → id ≢ 0
not_first n id words views h kept at zero_id =
    let here : get_elem? views 0 ≡ some (Handle h) = subst (λ (i : ℕ). get_elem? views i ≡ some (Handle h)) zero_id at in
    not_core (Handle h) kept.core.0 refl (some-injective _ _ (sym here ∙ kept.core.1))

-- what a step that met the word w of the task k changes of a handle's view
record Meets (k : ℕ) (w : Parts) (h h' : HandleSeatView) : Type 0 where
  pub ranks : h'.ranks ≡ set h.ranks k (rank w)
  pub seen : h'.seen ≡ set h.seen k (is_cancelled w)
  pub last : h'.last ≡ (k, w)
  pub won : (j : ℕ) → j ≢ k → times j h'.won ≡ times j h.won

-- what a handle met stays so where it meets one word more
met_more : (n k : ℕ) (words : List ℕ) (h h' : HandleSeatView) (w : Parts) → k < n → k < length h.ranks → w ≡ word_at words k → Meets k w h h'
    → HasMet n words (Handle h) → HasMet n words (Handle h')
met_more n k words h h' w in_n room is new met =
    record {
      ranks = λ j lt.
          let b = set_below h.ranks k j (rank w) (rank (word_at words j)) (met.ranks j lt) (λ e. let s : rank w ≡ rank (word_at words j) = ap rank is ∙ ap (λ i. rank (word_at words i)) (sym e) in omega (arith, s)) in
          subst (λ (xs : List ℕ). slice_index xs j ≤ rank (word_at words j)) (sym new.ranks) b;
      seen = λ j lt e.
          elim (set_true h.seen k j (is_cancelled w) (subst (λ (xs : List Bool). slice_index_or xs j false ≡ true) new.seen e)) [
            | inl before ↦ met.seen j lt before
            | inr here ↦ ap (λ i. is_cancelled (word_at words i)) here.0 ∙ (sym (ap is_cancelled is) ∙ here.1)
          ];
      still = λ j lt s. elim (cases_eq j k) [
        | inl same ↦ subst (λ (i : ℕ). slice_index h'.ranks i ≡ rank (word_at words i)) (sym same) (ap (λ xs. slice_index xs k) new.ranks ∙ (get_or-set_same h.ranks k (rank w) 0 room ∙ ap rank is))
        | inr other ↦ ap (λ xs. slice_index xs j) new.ranks ∙ (get_or-set_other h.ranks k j (rank w) 0 other ∙ met.still j lt (before j other s))
      ];
      ended = λ lt e. subst (λ (l : ℕ × Parts). ((word_at words l.0).phase ≡ l.1.phase) × ((word_at words l.0).run ≡ l.1.run)) (sym new.last) (ap (λ p. p.phase) (sym is), ap (λ p. p.run) (sym is));
    }
  where
    before : (j : ℕ) → j ≢ k → (slice_index_or h'.seen j false ≡ true) ⊎ (0 < times j h'.won) → (slice_index_or h.seen j false ≡ true) ⊎ (0 < times j h.won)
    before j other s = elim s [
      | inl e ↦ inl (sym (ap (λ xs. slice_index_or xs j false) new.seen ∙ get_or-set_other h.seen k j (is_cancelled w) false other) ∙ e)
      | inr g ↦ inr (let e = new.won j other in omega (arith, g, e))
    ]

-- a step of a handle keeps the rule: the word of the task k becomes x, and what the handle won becoming along
handle_keeps : (n k x id : ℕ) (words : List ℕ) (views : List View) (h h' : HandleSeatView) → IsWellFormedTable n words views → get_elem? views id ≡ some (Handle h) → k < n
    → ((e : Parts) → IsWord e → Matches (slice_index words k) e → Matches x e)
    → times k h'.won + flag (is_cancelled (word_at words k)) ≡ times k h.won + flag (is_cancelled (word_of_value x))
    → k < length h.ranks → Becomes (word_at words k) (word_of_value x) → rank (word_at words k) ≡ rank (word_of_value x) → Meets k (word_at words k) h h'
    → IsWellFormedTable n (set words k x) (set views id (Handle h'))
handle_keeps n k x id words views h h' kept at in_n fit here room becoming level new =
    let lt : k < length words = omega (arith, kept.count) in
    let other_id : 0 ≢ id = (λ e. not_first n id words views h kept at (sym e)) in
    let f = kept.core.2 in
    record {
      count = length-set words k x ∙ kept.count;
      core = (
        kept.core.0,
        set_else views id 0 (Handle h') other_id ∙ kept.core.1,
        word_after n k x words kept.core.0.entries lt in_n (fit _ (f.word k in_n) (f.each k in_n)) f,
        (let s = sum_set is_handle views id (Handle h) (Handle h') at in let o = kept.core.3 in omega (arith, s, o)),
        kept.core.4,
      );
      only = λ i u there'. elim (at_set views id i (Handle h') (Core u) there') [ inl same ↦ absurd (not_core (Handle h') u refl same.1) | inr other ↦ kept.only i u other.1 ];
      once = once_after n k x id words views (Handle h) (Handle h') lt in_n at here new.won kept.once;
      none = none_after n k id views (Handle h) (Handle h') in_n at new.won kept.none;
      met = λ i u there'. elim (at_set views id i (Handle h') u there') [
        | inl same ↦ subst (HasMet n (set words k x)) same.1 (met_after n k x words (Handle h') lt in_n becoming (λ g. level) (met_more n k words h h' (word_at words k) in_n room refl new (kept.met id (Handle h) at)))
        | inr other ↦ met_after n k x words u lt in_n becoming (won_still n k i x words views u kept other.1 in_n becoming) (kept.met i u other.1)
      ];
    }

-- a fact about a seat with the view of a handle is one about the seat whose view this is
handle_is : (P : Holder → Type 0) (me : Holder) → me.0 ≡ Handle (handle_of me.0) → P (Handle (handle_of me.0), me.1) → P me
handle_is P me handle p = subst P (λ i. (sym handle i, me.1)) p

-- what a handle meets
handle_meets : (n k id : ℕ) (words : List ℕ) (views : List View) (h : HandleSeatView) → IsWellFormedTable n words views → get_elem? views id ≡ some (Handle h) → k < n → MeetsHandle h k (word_at words k)
handle_meets n k id words views h kept at in_n =
    let e = some_entry n k words views kept in_n in
    let met : HasMet n words (Handle h) = kept.met id (Handle h) at in
    record {
      word = reads_word _ e.0 e.1 e.2;
      met = met.ranks k in_n;
      seen = met.seen k in_n;
      won = won_cancelled n k id words views (Handle h) kept at in_n;
      still = met.still k in_n;
      ended = λ same over. subst (λ (i : ℕ). ((word_at words i).phase ≡ h.last.1.phase) × ((word_at words i).run ≡ h.last.1.run)) same (met.ended (omega (arith, same, in_n)) over);
    }

read_number : (n k : ℕ) (words : List ℕ) (views : List View) → IsWellFormedTable n words views → k < n → value (word_at words k) ≡ slice_index words k
read_number n k words views kept in_n = let e = some_entry n k words views kept in_n in reads_number _ e.0 e.1 e.2

-- a load of a handle's keeps the rule
pub handle_looks : (n slots id k : ℕ) (me : Holder) → me.0 ≡ Handle (handle_of me.0) → k < n → k < length (handle_of me.0).ranks
    → Allows {S = Unit {0}} (Rule n) slots id me (k + 1) (λ x. x) (HandleLooked (k + 1) me)
handle_looks n slots id k me handle in_n room =
    handle_is (λ m. Allows {S = Unit {0}} (Rule n) slots id m (k + 1) (λ x. x) (HandleLooked (k + 1) m)) me handle
    (allows n slots id k (Handle (handle_of me.0), me.1) (λ x. x) (HandleLooked (k + 1) (Handle (handle_of me.0), me.1)) (λ words views kept at.
    let h : HandleSeatView = handle_of me.0 in
    let x : ℕ = slice_index words k in
    let h' : HandleSeatView = handle_looked h k (word_of_value x) in (
      Handle h',
      handle_keeps n k x id words views h h' kept at in_n (λ e is m. m) refl room (becomes_same (word_of_value x)) refl (record { ranks = refl; seen = refl; last = refl; won = λ j other. refl }),
      at_task k (λ j. MeetsHandle h j (word_of_value x) × (value (word_of_value x) ≡ x) × HandleIs (handle_looked h j (word_of_value x)) (Handle h, me.1) (Handle h', me.1)) (handle_meets n k id words views h kept at in_n, read_number n k words views kept in_n, refl),
    )))

-- the setting of the bit by a handle keeps the rule
bit_keeps : (n k id : ℕ) (words : List ℕ) (views : List View) (h : HandleSeatView) → IsWellFormedTable n words views → get_elem? views id ≡ some (Handle h) → k < n → k < length h.ranks
    → IsWellFormedTable n (set words k (bit_or (slice_index words k) bit)) (set views id (Handle (handle_cancelled h k (word_at words k))))
bit_keeps n k id words views h kept at in_n room =
    let x : ℕ = slice_index words k in
    let w : Parts = word_of_value x in
    let m = handle_meets n k id words views h kept at in_n in
    let number : value w ≡ x = read_number n k words views kept in_n in
    let cut : bit_or x bit ≡ value (marked w) = or_marks x w m.word (inl (sym number)) in
    let read : word_of_value (bit_or x bit) ≡ marked w = ap word_of_value cut ∙ reads_back (marked w) (marked_word w m.word) in
    handle_keeps n k (bit_or x bit) id words views h (handle_cancelled h k w) kept at in_n
    (λ e is fit. inr (or_marks x e is fit))
    (let a = and_if_same (wins w) k h.won in let b = wins_count w in let c = ap (λ u. flag (is_cancelled u)) read in omega (arith, a, b, c))
    room
    (becomes handle_cancel w _ read)
    (sym (ap rank read))
    (record { ranks = refl; seen = refl; last = refl; won = λ j other. and_if_other (wins w) k j h.won other })

-- a handle's setting of the bit keeps the rule, and tells the handle what it met
pub handle_cancels : (n slots id k : ℕ) (me : Holder) → me.0 ≡ Handle (handle_of me.0) → k < n → k < length (handle_of me.0).ranks
    → Allows {S = Unit {0}} (Rule n) slots id me (k + 1) (λ x. bit_or x bit) (HandleCancelled (k + 1) me)
handle_cancels n slots id k me handle in_n room =
    handle_is (λ m. Allows {S = Unit {0}} (Rule n) slots id m (k + 1) (λ x. bit_or x bit) (HandleCancelled (k + 1) m)) me handle
    (allows n slots id k (Handle (handle_of me.0), me.1) (λ x. bit_or x bit) (HandleCancelled (k + 1) (Handle (handle_of me.0), me.1)) (λ words views kept at.
    let h : HandleSeatView = handle_of me.0 in
    let x : ℕ = slice_index words k in
    let h' : HandleSeatView = handle_cancelled h k (word_of_value x) in (
      Handle h',
      bit_keeps n k id words views h kept at in_n room,
      at_task k (λ j. MeetsHandle h j (word_of_value x) × (value (word_of_value x) ≡ x) × HandleIs (handle_cancelled h j (word_of_value x)) (Handle h, me.1) (Handle h', me.1)) (handle_meets n k id words views h kept at in_n, read_number n k words views kept in_n, refl),
    )))
