-- The steps of the core's seat keep the rule.
use Rattle.std.proofs.Common.{◌≡◌, ℕ, ◌+◌, ◌<◌, ◌≤◌, ◌≢◌, ◌==◌, suc, Bool, true, false, ◌⊎◌, inl, inr, List, [], ◌∷◌, length, set, slice_index, refl, sym, ap, subst, ◌∙◌, arith, length-set, bit_or}
use Rattle.std.proofs.lemmas.List.Sums.{sum_by-cons}
use mathlib.Core.Option.{some, some-injective, some-ne-none}
use lib.ListN.{get_elem?}
use prog.Atomic.{either}
use Rattle.atomic_table.specs.Table.{Allows}
use Rattle.atomic_table.proofs.Lists.{at_set, set_here, exchanged}
use Rattle.task_word.specs.Writes.{submit, core_cancel}
use Rattle.task_word.specs.own.Writes.{Exchanges}
use Rattle.task_word.specs.Words.{Parts, IsWord, bit, value, marked, is_cancelled, new_in}
use Rattle.task_word.specs.Views.{most_handles, entry, times, wins, and_if, with_entry, core_cancelled, MeetsEntry}
use Rattle.task_word.specs.own.Views.{core_of}
use Rattle.task_word.specs.Numbers.{word_of_value}
use Rattle.task_word.specs.Rule.{word_at, Matches, flag, taken_by, is_handle, EntriesFit, HasMet, taken_in_all, handles, IsWellFormedTable}
use Rattle.task_word.specs.Steps.{CoreTells}
use Rattle.task_word.specs.own.Steps.{Holder, AtTask, CoreIs, Submitted, Exchanged, CoreMeets, CoreCancelled, CoreLooked}
use Rattle.task_word.specs.declared.phases.Phase.TheVariants.{Vacant}
use Rattle.task_word.specs.declared.views.CoreSeatView.{CoreSeatView}
use Rattle.task_word.specs.declared.views.View.{View}
use Rattle.task_word.specs.declared.views.View.TheVariants.{Core, Handle, Spent}
use Rattle.task_word.proofs.WordNumbers.{reads_back, marked_word, meets, reads_word, reads_number, or_marks}
use Rattle.task_word.proofs.ViewLists.{sum_set, sum_part}
use Rattle.task_word.proofs.TaskPlaces.{Rule, allows}
use Rattle.task_word.proofs.Writes.{Becomes, becomes, becomes_same, exchanges, vacant_free}
use Rattle.task_word.proofs.WordChanges.{won_still, met_after, once_after, none_after, entries_after, and_if_same, and_if_other, times_append, wins_count}

-- the view that a core's view is
pub core_same : (v w : CoreSeatView) → some (Core v) ≡ some (Core w) → v ≡ w
core_same v w e = ap core_of (some-injective _ _ e)

-- a seat whose view is the core's is the core's
abbrev pub is_core : View → Bool
is_core (Core v) = true
is_core (Handle h) = false
is_core Spent = false

-- a view that is not the core's is no core's view
pub not_core : (v : View) (w : CoreSeatView) → is_core v ≡ false → v ≢ Core w
not_core v w e same = let f : true ≡ false = sym (ap is_core same) ∙ e in grind (arith)

-- what the rule says of the core's entries
pub fits : (n : ℕ) (words : List ℕ) (views : List View) (v : CoreSeatView) → IsWellFormedTable n words views → get_elem? views 0 ≡ some (Core v) → EntriesFit n words v.entries
fits n words views v kept at = subst (λ (u : CoreSeatView). EntriesFit n words u.entries) (core_same _ _ (sym kept.core.1 ∙ at)) kept.core.2

-- the core counts the handles that are out
pub out_is : (n : ℕ) (words : List ℕ) (views : List View) (v : CoreSeatView) → IsWellFormedTable n words views → get_elem? views 0 ≡ some (Core v) → v.out ≡ handles views
out_is n words views v kept at = subst (λ (u : CoreSeatView). u.out ≡ handles views) (core_same _ _ (sym kept.core.1 ∙ at)) kept.core.3

-- the handles that are out are at most `most_handles`
pub out_most : (n : ℕ) (words : List ℕ) (views : List View) (v : CoreSeatView) → IsWellFormedTable n words views → get_elem? views 0 ≡ some (Core v) → v.out ≤ most_handles
out_most n words views v kept at = subst (λ (u : CoreSeatView). u.out ≤ most_handles) (core_same _ _ (sym kept.core.1 ∙ at)) kept.core.4

-- there is a first view
pub in_views : (views : List View) (v : View) → get_elem? views 0 ≡ some v → 0 < length views
in_views [] v at = absurd (some-ne-none v (sym at))
in_views (u ∷ us) v at = omega arith

-- a step of the core keeps the rule: the word of the task k becomes x, its entry e, and the core's own list becoming along
pub core_keeps : (n k x : ℕ) (words : List ℕ) (views : List View) (v : CoreSeatView) (e : Parts) (own : List ℕ) → IsWellFormedTable n words views → get_elem? views 0 ≡ some (Core v) → k < n
    → IsWord e → Matches x e
    → times k own + flag (is_cancelled (word_at words k)) ≡ times k v.own + flag (is_cancelled (word_of_value x))
    → ((j : ℕ) → j ≢ k → times j own ≡ times j v.own)
    → Becomes (word_at words k) (word_of_value x)
    → IsWellFormedTable n (set words k x) (set views 0 (Core record { entries = set v.entries k e; own = own; joined = v.joined; ranks = v.ranks; out = v.out }))
core_keeps n k x words views v e own kept at in_n is fit here there becoming =
    let w : CoreSeatView = record { entries = set v.entries k e; own = own; joined = v.joined; ranks = v.ranks; out = v.out } in
    let lt : k < length words = omega (arith, kept.count) in
    let met : HasMet n words (Core v) = kept.met 0 (Core v) at in
    let taken : (j : ℕ) → j ≢ k → times j (taken_by (Core w)) ≡ times j (taken_by (Core v)) = (λ j other. let t = there j other in omega (arith, times_append j own v.joined, times_append j v.own v.joined, t)) in
    record {
      count = length-set words k x ∙ kept.count;
      core = (
        w,
        set_here views 0 (Core w) (in_views views (Core v) at),
        entries_after n k x words v.entries e lt in_n is fit (fits n words views v kept at),
        (let s = sum_set is_handle views 0 (Core v) (Core w) at in omega (arith, s, out_is n words views v kept at)),
        out_most n words views v kept at,
      );
      only = λ id u there'. elim (at_set views 0 id (Core w) (Core u) there') [ inl same ↦ same.0 | inr other ↦ kept.only id u other.1 ];
      once = once_after n k x 0 words views (Core v) (Core w) lt in_n at
          (omega (arith, times_append k own v.joined, times_append k v.own v.joined, here))
          taken
          kept.once;
      none = none_after n k 0 views (Core v) (Core w) in_n at taken kept.none;
      met = λ id u there'. elim (at_set views 0 id (Core w) u there') [
        | inl same ↦ subst (HasMet n (set words k x)) same.1 (met_after n k x words (Core w) lt in_n becoming (won_still n k 0 x words views (Core v) kept at in_n becoming) record { ranks = met.ranks; seen = met.seen; still = met.still; ended = met.ended })
        | inr other ↦ met_after n k x words u lt in_n becoming (won_still n k id x words views u kept other.1 in_n becoming) (kept.met id u other.1)
      ];
    }

-- a fact about the seat 0 with the view v is one about the seat whose number and view these are
pub seat_is : (P : ℕ → Holder → Type 0) (id : ℕ) (me : Holder) → id ≡ 0 → me.0 ≡ Core (core_of me.0) → P 0 (Core (core_of me.0), me.1) → P id me
seat_is P id me zero_id core p = subst (λ (i : ℕ). P i me) (sym zero_id) (subst (P 0) (λ i. (sym core i, me.1)) p)

-- what is so of the task k is so of the task whose word is k + 1
pub at_task : (k : ℕ) (P : ℕ → Type 0) → P k → AtTask (k + 1) P
at_task k P p = λ j e. let same : k ≡ j = omega arith in subst P same p

met_phase : (e w : Parts) → MeetsEntry e w → w.phase ≡ e.phase
met_phase e w (inl same) = ap (λ p. p.phase) same
met_phase e w (inr cut) = ap (λ p. p.phase) cut

met_run : (e w : Parts) → MeetsEntry e w → w.run ≡ e.run
met_run e w (inl same) = ap (λ p. p.run) same
met_run e w (inr cut) = ap (λ p. p.run) cut

-- a submission keeps the rule
pub submits : (n slots id k : ℕ) (me : Holder) → id ≡ 0 → me.0 ≡ Core (core_of me.0) → k < n → (entry (core_of me.0) k).phase ≡ Vacant
    → Allows {S = Unit {0}} (Rule n) slots id me (k + 1) (λ _. value (new_in 0)) (λ _ next. Submitted (k + 1) me next)
submits n slots id k me zero_id core in_n phase =
    seat_is (λ i m. Allows {S = Unit {0}} (Rule n) slots i m (k + 1) (λ _. value (new_in 0)) (λ _ next. Submitted (k + 1) m next)) id me zero_id core
    (allows n slots 0 k (Core (core_of me.0), me.1) (λ _. value (new_in 0)) (λ _ next. Submitted (k + 1) (Core (core_of me.0), me.1) next) (λ words views kept at. (
      Core (with_entry (core_of me.0) k (new_in 0)),
      submit_keeps n k words views (core_of me.0) kept at in_n phase,
      at_task k (λ j. CoreIs (with_entry (core_of me.0) j (new_in 0)) (Core (core_of me.0), me.1) (Core (with_entry (core_of me.0) k (new_in 0)), me.1)) refl,
    )))
  where
    submit_keeps : (n k : ℕ) (words : List ℕ) (views : List View) (v : CoreSeatView) → IsWellFormedTable n words views → get_elem? views 0 ≡ some (Core v) → k < n → (entry v k).phase ≡ Vacant
        → IsWellFormedTable n (set words k (value (new_in 0))) (set views 0 (Core (with_entry v k (new_in 0))))
    submit_keeps n k words views v kept at in_n phase =
        let f = fits n words views v kept at in
        let is = f.word k in_n in
        let w : Parts = word_at words k in
        let m : MeetsEntry (entry v k) w = meets _ (entry v k) is (f.each k in_n) in
        let was : w.phase ≡ Vacant = met_phase (entry v k) w m ∙ phase in
        let free : is_cancelled w ≡ false = vacant_free w was in
        let fresh : IsWord (new_in 0) = record { vacant = λ e. refl; run = omega arith } in
        let read : word_of_value (value (new_in 0)) ≡ new_in 0 = reads_back (new_in 0) fresh in
        let live : is_cancelled (word_of_value (value (new_in 0))) ≡ false = ap is_cancelled read in
        core_keeps n k (value (new_in 0)) words views v (new_in 0) v.own kept at in_n fresh (inl refl)
        (ap (λ b. times k v.own + flag b) (free ∙ sym live))
        (λ j other. refl)
        (becomes submit w _ (was, read))

-- the exchange that finds what it expected keeps the rule
exchange_keeps : (n k new : ℕ) (next : Parts) (words : List ℕ) (views : List View) (v : CoreSeatView) → IsWellFormedTable n words views → get_elem? views 0 ≡ some (Core v) → k < n
    → Exchanges (entry v k) next → slice_index words k ≡ value (entry v k) → new ≡ value next → (IsWord (entry v k) → IsWord next)
    → IsWellFormedTable n (set words k new) (set views 0 (Core (with_entry v k (word_of_value new))))
exchange_keeps n k new next words views v kept at in_n step found is_new word =
    let f = fits n words views v kept at in
    let is = f.word k in_n in
    let read : word_of_value new ≡ next = ap word_of_value is_new ∙ reads_back next (word is) in
    let was : word_at words k ≡ entry v k = ap word_of_value found ∙ reads_back (entry v k) is in
    let written : Exchanges (word_at words k) (word_of_value new) = subst (λ w. Exchanges w (word_of_value new)) (sym was) (subst (Exchanges (entry v k)) (sym read) step) in
    let both = exchanges (word_at words k) (word_of_value new) written in
    core_keeps n k new words views v (word_of_value new) v.own kept at in_n (subst IsWord (sym read) (word is)) (inl (is_new ∙ ap value (sym read)))
    (ap (λ b. times k v.own + flag b) (both.free ∙ sym both.still))
    (λ j other. refl)
    (becomes written.0 _ _ written.2)

-- a load of the core's keeps the rule, whatever word of the entry's it takes over
load_keeps : (n k : ℕ) (words : List ℕ) (views : List View) (v : CoreSeatView) (e : Parts) → IsWellFormedTable n words views → get_elem? views 0 ≡ some (Core v) → k < n
    → IsWord e → Matches (slice_index words k) e
    → IsWellFormedTable n (set words k (slice_index words k)) (set views 0 (Core (with_entry v k e)))
load_keeps n k words views v e kept at in_n is fit =
    core_keeps n k (slice_index words k) words views v e v.own kept at in_n is fit refl (λ j other. refl) (becomes_same (word_at words k))

-- while no handle is out, what is taken is the core's
none_taken : (k : ℕ) (views : List View) → handles views ≡ 0 → ((id : ℕ) (u : CoreSeatView) → get_elem? views id ≢ some (Core u)) → taken_in_all k views ≡ 0
none_taken k [] none others = refl
none_taken k (Core u ∷ us) none others = absurd (others 0 u refl)
none_taken k (Handle h ∷ us) none others = absurd (omega (arith, none, sum_by-cons is_handle (Handle h) us))
none_taken k (Spent ∷ us) none others =
    let rest = none_taken k us (omega (arith, none, sum_by-cons is_handle Spent us)) (λ id u e. others (suc id) u e) in
    omega (arith, sum_by-cons (λ v. times k (taken_by v)) Spent us, rest)

alone_taken : (k : ℕ) (views : List View) (v : CoreSeatView) → get_elem? views 0 ≡ some (Core v) → handles views ≡ 0 → ((id : ℕ) (u : CoreSeatView) → get_elem? views id ≡ some (Core u) → id ≡ 0)
    → taken_in_all k views ≡ times k (taken_by (Core v))
alone_taken k [] v at none only = absurd (some-ne-none _ (sym at))
alone_taken k (u ∷ us) v at none only =
    let same : u ≡ Core v = some-injective _ _ at in
    let rest = none_taken k us (omega (arith, none, sum_by-cons is_handle u us)) (λ id w e. absurd (let z : suc id ≡ 0 = only (suc id) w e in omega arith)) in
    omega (arith, sum_by-cons (λ w. times k (taken_by w)) u us, rest, ap (λ w. times k (taken_by w)) same)

-- what the rule tells the core of a word that it met
pub tells : (n k : ℕ) (words : List ℕ) (views : List View) (v : CoreSeatView) → IsWellFormedTable n words views → get_elem? views 0 ≡ some (Core v) → k < n → CoreTells v k (word_at words k)
tells n k words views v kept at in_n =
    let all = kept.once k in_n in
    let both = times_append k v.own v.joined in
    record {
      once = (let part = sum_part (λ u. times k (taken_by u)) views 0 (Core v) at in omega (arith, all, both, part));
      alone = λ none. omega (arith, all, both, alone_taken k views v at (sym (out_is n words views v kept at) ∙ none) kept.only);
      met = (kept.met 0 (Core v) at).ranks k in_n;
      still = λ some_won. (kept.met 0 (Core v) at).still k in_n (inr some_won);
    }

core_meets : (n k : ℕ) (words : List ℕ) (views : List View) (v : CoreSeatView) → IsWellFormedTable n words views → get_elem? views 0 ≡ some (Core v) → k < n → CoreMeets v k (slice_index words k)
core_meets n k words views v kept at in_n =
    let f = fits n words views v kept at in
    let is = f.word k in_n in
    record {
      word = reads_word _ (entry v k) is (f.each k in_n);
      number = reads_number _ (entry v k) is (f.each k in_n);
      meets = meets _ (entry v k) is (f.each k in_n);
      tells = tells n k words views v kept at in_n;
    }

-- a failed exchange met the bit
met_bit : (x : ℕ) (e : Parts) → Matches x e → x ≢ value e → x ≡ value (marked e)
met_bit x e (inl same) other = absurd (other same)
met_bit x e (inr cut) other = cut

move_either : (n slots k old new : ℕ) (next : Parts) (v : CoreSeatView) (xs : List (ℕ × Unit {0})) → k < n
    → Exchanges (entry v k) next → old ≡ value (entry v k) → new ≡ value next → (IsWord (entry v k) → IsWord next)
    → Allows {S = Unit {0}} (Rule n) slots 0 (Core v, xs) (k + 1) (λ x. either (x == old) new x) (Exchanged (k + 1) old new (Core v, xs))
move_either n slots k old new next v xs in_n step is_old is_new word =
    allows n slots 0 k (Core v, xs) (λ x. either (x == old) new x) (Exchanged (k + 1) old new (Core v, xs)) (λ words views kept at.
    let x : ℕ = slice_index words k in
    let f = fits n words views v kept at in
    let is = f.word k in_n in
    exchanged x old new
    (λ y. (w : View) × IsWellFormedTable n (set words k y) (set views 0 w) × Exchanged (k + 1) old new (Core v, xs) x (w, xs))
    (λ hit. (
      Core (with_entry v k (word_of_value new)),
      exchange_keeps n k new next words views v kept at in_n step (hit ∙ is_old) is_new word,
      at_task k (λ j. CoreMeets v j x × (((x ≡ old) × CoreIs (with_entry v j (word_of_value new)) (Core v, xs) (Core (with_entry v k (word_of_value new)), xs)) ⊎ ((x ≢ old) × CoreIs (with_entry v j (marked (entry v j))) (Core v, xs) (Core (with_entry v k (word_of_value new)), xs)))) (core_meets n k words views v kept at in_n, inl (hit, refl)),
    ))
    (λ miss. (
      Core (with_entry v k (marked (entry v k))),
      load_keeps n k words views v (marked (entry v k)) kept at in_n (marked_word (entry v k) is) (inl (met_bit x (entry v k) (f.each k in_n) (λ e. miss (e ∙ sym is_old)))),
      at_task k (λ j. CoreMeets v j x × (((x ≡ old) × CoreIs (with_entry v j (word_of_value new)) (Core v, xs) (Core (with_entry v k (marked (entry v k))), xs)) ⊎ ((x ≢ old) × CoreIs (with_entry v j (marked (entry v j))) (Core v, xs) (Core (with_entry v k (marked (entry v k))), xs)))) (core_meets n k words views v kept at in_n, inr (miss, refl)),
    )))

-- an exchange of the core's keeps the rule, and where it fails it met the bit
pub moves : (n slots id k old new : ℕ) (next : Parts) (me : Holder) → id ≡ 0 → me.0 ≡ Core (core_of me.0) → k < n
    → Exchanges (entry (core_of me.0) k) next → old ≡ value (entry (core_of me.0) k) → new ≡ value next → (IsWord (entry (core_of me.0) k) → IsWord next)
    → Allows {S = Unit {0}} (Rule n) slots id me (k + 1) (λ x. either (x == old) new x) (Exchanged (k + 1) old new me)
moves n slots id k old new next me zero_id core in_n step is_old is_new word =
    seat_is (λ i m. Allows {S = Unit {0}} (Rule n) slots i m (k + 1) (λ x. either (x == old) new x) (Exchanged (k + 1) old new m)) id me zero_id core
    (move_either n slots k old new next (core_of me.0) me.1 in_n step is_old is_new word)

-- a load of the core's keeps the rule
pub core_looks : (n slots id k : ℕ) (me : Holder) → id ≡ 0 → me.0 ≡ Core (core_of me.0) → k < n
    → Allows {S = Unit {0}} (Rule n) slots id me (k + 1) (λ x. x) (CoreLooked (k + 1) me)
core_looks n slots id k me zero_id core in_n =
    seat_is (λ i m. Allows {S = Unit {0}} (Rule n) slots i m (k + 1) (λ x. x) (CoreLooked (k + 1) m)) id me zero_id core
    (allows n slots 0 k (Core (core_of me.0), me.1) (λ x. x) (CoreLooked (k + 1) (Core (core_of me.0), me.1)) (λ words views kept at.
    let v : CoreSeatView = core_of me.0 in
    let x : ℕ = slice_index words k in
    let m : CoreMeets v k x = core_meets n k words views v kept at in_n in (
      Core (with_entry v k (word_of_value x)),
      load_keeps n k words views v (word_of_value x) kept at in_n m.word (inl (sym m.number)),
      at_task k (λ j. CoreMeets v j x × CoreIs (with_entry v j (word_of_value x)) (Core v, me.1) (Core (with_entry v k (word_of_value x)), me.1)) (m, refl),
    )))

-- the setting of the bit by the core keeps the rule
bit_keeps : (n k : ℕ) (words : List ℕ) (views : List View) (v : CoreSeatView) → IsWellFormedTable n words views → get_elem? views 0 ≡ some (Core v) → k < n
    → IsWellFormedTable n (set words k (bit_or (slice_index words k) bit)) (set views 0 (Core (core_cancelled v k (word_at words k))))
bit_keeps n k words views v kept at in_n =
    let f = fits n words views v kept at in
    let is = f.word k in_n in
    let x : ℕ = slice_index words k in
    let w : Parts = word_of_value x in
    let word : IsWord w = reads_word x (entry v k) is (f.each k in_n) in
    let number : value w ≡ x = reads_number x (entry v k) is (f.each k in_n) in
    let cut : bit_or x bit ≡ value (marked w) = or_marks x w word (inl (sym number)) in
    let read : word_of_value (bit_or x bit) ≡ marked w = ap word_of_value cut ∙ reads_back (marked w) (marked_word w word) in
    core_keeps n k (bit_or x bit) words views v (marked w) (and_if (wins w) k v.own) kept at in_n (marked_word w word) (inl cut)
    (let a = and_if_same (wins w) k v.own in let b = wins_count w in let c = ap (λ u. flag (is_cancelled u)) read in omega (arith, a, b, c))
    (λ j other. and_if_other (wins w) k j v.own other)
    (becomes core_cancel w _ read)

-- the core's setting of the bit keeps the rule, and tells the core what it met
pub core_cancels : (n slots id k : ℕ) (me : Holder) → id ≡ 0 → me.0 ≡ Core (core_of me.0) → k < n
    → Allows {S = Unit {0}} (Rule n) slots id me (k + 1) (λ x. bit_or x bit) (CoreCancelled (k + 1) me)
core_cancels n slots id k me zero_id core in_n =
    seat_is (λ i m. Allows {S = Unit {0}} (Rule n) slots i m (k + 1) (λ x. bit_or x bit) (CoreCancelled (k + 1) m)) id me zero_id core
    (allows n slots 0 k (Core (core_of me.0), me.1) (λ x. bit_or x bit) (CoreCancelled (k + 1) (Core (core_of me.0), me.1)) (λ words views kept at.
    let v : CoreSeatView = core_of me.0 in
    let x : ℕ = slice_index words k in
    let m : CoreMeets v k x = core_meets n k words views v kept at in_n in (
      Core (core_cancelled v k (word_of_value x)),
      bit_keeps n k words views v kept at in_n,
      at_task k (λ j. CoreMeets v j x × CoreIs (core_cancelled v j (word_of_value x)) (Core v, me.1) (Core (core_cancelled v k (word_of_value x)), me.1)) (m, refl),
    )))
