-- What is kept where the word of one task changes, and with it the view of one seat.
use Rattle.std.proofs.Common.{◌≡◌, ℕ, ◌+◌, ◌<◌, ◌≤◌, ◌≢◌, Bool, true, false, ◌&&◌, ◌==◌, cond, not, ◌⊎◌, inl, inr, List, ◌++◌, length, set, get_or, slice_index, slice_index_or, refl, sym, ap, subst, ◌∙◌, arith, get_or-set_other, get_or-set_same, length-set}
use Rattle.std.proofs.lemmas.List.Sums.{sum_by-cons, sum_by-append}
use Rattle.std.proofs.lemmas.Bool.{cases_eq}
use Rattle.std.proofs.lemmas.Bool.Decides.{nat_tests}
use mathlib.Core.Option.{some}
use lib.ListN.{get_elem?}
use Rattle.task_word.specs.Words.{Parts, IsWord, vacant_word, marked, is_live, is_ended_phase, is_cancelled, rank}
use Rattle.task_word.specs.Views.{times, wins, and_if}
use Rattle.task_word.specs.Numbers.{word_of_value}
use Rattle.task_word.specs.Rule.{word_at, Matches, flag, taken_by, ranks_of, seen_of, won_of, last_of, EntriesFit, HasMet, taken_in_all, IsWellFormedTable}
use Rattle.task_word.specs.declared.views.View.{View}
use Rattle.task_word.specs.declared.views.View.TheVariants.{Core, Handle, Spent}
use Rattle.task_word.proofs.ViewLists.{sum_set, sum_part}
use Rattle.task_word.proofs.Writes.{Becomes}

-- the word of the task that changes is the one given
pub word_same : (words : List ℕ) (k x : ℕ) → k < length words → word_at (set words k x) k ≡ word_of_value x
word_same words k x lt = ap word_of_value (get_or-set_same words k x 0 lt)

-- the word of another task stays as it was
pub word_other : (words : List ℕ) (k x j : ℕ) → j ≢ k → word_at (set words k x) j ≡ word_at words j
word_other words k x j other = ap word_of_value (get_or-set_other words k j x 0 other)

-- what is so of the changed word, and was so of the others, is so of each
pub after_set : (n k x : ℕ) (words : List ℕ) (P : ℕ → Parts → Type 0) → k < length words → P k (word_of_value x) → ((j : ℕ) → j < n → j ≢ k → P j (word_at words j))
    → (j : ℕ) → j < n → P j (word_at (set words k x) j)
after_set n k x words P lt here there j h =
    elim (cases_eq j k) [
      | inl same ↦ subst (λ (i : ℕ). P i (word_at (set words k x) i)) (sym same) (subst (P k) (sym (word_same words k x lt)) here)
      | inr other ↦ subst (P j) (sym (word_other words k x j other)) (there j h other)
    ]

-- what a seat met stays so
pub met_after : (n k x : ℕ) (words : List ℕ) (v : View) → k < length words → k < n → Becomes (word_at words k) (word_of_value x)
    → (0 < times k (won_of v) → rank (word_at words k) ≡ rank (word_of_value x)) → HasMet n words v → HasMet n (set words k x) v
met_after n k x words v lt in_n becoming won met =
    record {
      ranks = after_set n k x words (λ j w. slice_index (ranks_of v) j ≤ rank w) lt (let m = met.ranks k in_n in let u = becoming.up in omega (arith, m, u)) (λ j h other. met.ranks j h);
      seen = after_set n k x words (λ j w. slice_index_or (seen_of v) j false ≡ true → is_cancelled w ≡ true) lt (λ e. becoming.stays (met.seen k in_n e)) (λ j h other. met.seen j h);
      still = after_set n k x words (λ j w. (slice_index_or (seen_of v) j false ≡ true) ⊎ (0 < times j (won_of v)) → slice_index (ranks_of v) j ≡ rank w) lt
          (λ s. met.still k in_n s ∙ elim s [ inl e ↦ becoming.steady (met.seen k in_n e) | inr g ↦ won g ])
          (λ j h other. met.still j h);
      ended = λ h e.
          after_set n k x words (λ j w. (last_of v).0 ≡ j → (w.phase ≡ (last_of v).1.phase) × (w.run ≡ (last_of v).1.run)) lt
          (λ is.
          let m = subst (λ (i : ℕ). ((word_at words i).phase ≡ (last_of v).1.phase) × ((word_at words i).run ≡ (last_of v).1.run)) is (met.ended h e) in
          let g = becoming.ended (ap is_ended_phase m.0 ∙ e) in (g.0 ∙ m.0, g.1 ∙ m.1))
          (λ j below other is. subst (λ (i : ℕ). ((word_at words i).phase ≡ (last_of v).1.phase) × ((word_at words i).run ≡ (last_of v).1.run)) is (met.ended h e))
          (last_of v).0 h refl;
    }

-- the number of times that a task was taken becoming along with its word
pub once_after : (n k x id : ℕ) (words : List ℕ) (views : List View) (v w : View) → k < length words → k < n → get_elem? views id ≡ some v
    → times k (taken_by w) + flag (is_cancelled (word_at words k)) ≡ times k (taken_by v) + flag (is_cancelled (word_of_value x))
    → ((j : ℕ) → j ≢ k → times j (taken_by w) ≡ times j (taken_by v))
    → ((j : ℕ) → j < n → taken_in_all j views ≡ flag (is_cancelled (word_at words j)))
    → (j : ℕ) → j < n → taken_in_all j (set views id w) ≡ flag (is_cancelled (word_at (set words k x) j))
once_after n k x id words views v w lt in_n at here there once =
    after_set n k x words (λ j u. taken_in_all j (set views id w) ≡ flag (is_cancelled u)) lt
    (let s = sum_set (λ u. times k (taken_by u)) views id v w at in let o = once k in_n in omega (arith, s, o, here))
    (λ j h other. let s = sum_set (λ u. times j (taken_by u)) views id v w at in let o = once j h in let e = there j other in omega (arith, s, o, e))

-- what is no task stays untaken
pub none_after : (n k id : ℕ) (views : List View) (v w : View) → k < n → get_elem? views id ≡ some v → ((j : ℕ) → j ≢ k → times j (taken_by w) ≡ times j (taken_by v))
    → ((j : ℕ) → n ≤ j → taken_in_all j views ≡ 0) → (j : ℕ) → n ≤ j → taken_in_all j (set views id w) ≡ 0
none_after n k id views v w in_n at there none j past =
    let s = sum_set (λ u. times j (taken_by u)) views id v w at in
    let o = none j past in
    let e = there j (omega arith) in
    omega (arith, s, o, e)

-- the words still fit the entries where the word and its entry change
pub entries_after : (n k x : ℕ) (words : List ℕ) (entries : List Parts) (e : Parts) → k < length words → k < n → IsWord e → Matches x e
    → EntriesFit n words entries → EntriesFit n (set words k x) (set entries k e)
entries_after n k x words entries e lt in_n is fits f =
    let room : k < length entries = omega (arith, f.count) in
    record {
      count = length-set entries k e ∙ f.count;
      word = λ j h. elim (cases_eq j k) [
        | inl same ↦ subst IsWord (sym (ap (λ i. get_or (set entries k e) i vacant_word) same ∙ get_or-set_same entries k e vacant_word room)) is
        | inr other ↦ subst IsWord (sym (get_or-set_other entries k j e vacant_word other)) (f.word j h)
      ];
      each = λ j h. elim (cases_eq j k) [
        | inl same ↦
            subst (λ (y : ℕ). Matches y (get_or (set entries k e) j vacant_word)) (sym (ap (λ i. get_or (set words k x) i 0) same ∙ get_or-set_same words k x 0 lt))
            (subst (Matches x) (sym (ap (λ i. get_or (set entries k e) i vacant_word) same ∙ get_or-set_same entries k e vacant_word room)) fits)
        | inr other ↦
            subst (λ (y : ℕ). Matches y (get_or (set entries k e) j vacant_word)) (sym (get_or-set_other words k j x 0 other))
            (subst (Matches (get_or words j 0)) (sym (get_or-set_other entries k j e vacant_word other)) (f.each j h))
      ];
    }

-- the words still fit the entries where the word changes to one that fits its entry
pub word_after : (n k x : ℕ) (words : List ℕ) (entries : List Parts) → k < length words → k < n → Matches x (slice_index_or entries k vacant_word)
    → EntriesFit n words entries → EntriesFit n (set words k x) entries
word_after n k x words entries lt in_n fits f =
    record {
      count = f.count;
      word = f.word;
      each = λ j h. elim (cases_eq j k) [
        | inl same ↦
            subst (λ (i : ℕ). Matches (get_or (set words k x) i 0) (get_or entries i vacant_word)) (sym same)
            (subst (λ (y : ℕ). Matches y (get_or entries k vacant_word)) (sym (get_or-set_same words k x 0 lt)) fits)
        | inr other ↦
            subst (λ (y : ℕ). Matches y (get_or entries j vacant_word)) (sym (get_or-set_other words k j x 0 other)) (f.each j h)
      ];
    }

-- a task that may be put at the head of a list stands in it once more, if it is put there
pub and_if_same : (b : Bool) (k : ℕ) (xs : List ℕ) → times k (and_if b k xs) ≡ flag b + times k xs
and_if_same true k xs = let one : cond {A = ℕ} (k == k) 1 0 ≡ 1 = grind (arith, nat_tests) in omega (arith, sum_by-cons (λ j. cond (j == k) 1 0) k xs, one)
and_if_same false k xs = omega arith

-- another task stands in it as often as before
pub and_if_other : (b : Bool) (k j : ℕ) (xs : List ℕ) → j ≢ k → times j (and_if b k xs) ≡ times j xs
and_if_other true k j xs other = let none : cond {A = ℕ} (k == j) 1 0 ≡ 0 = grind (arith, nat_tests) in omega (arith, sum_by-cons (λ i. cond (i == j) 1 0) k xs, none)
and_if_other false k j xs other = refl

-- a task stands in two lists joined as often as in both
pub times_append : (k : ℕ) (xs ys : List ℕ) → times k (xs ++ ys) ≡ times k xs + times k ys
times_append k xs ys = sum_by-append (λ j. cond (j == k) 1 0) xs ys

win_counts : (live bit : Bool) → flag (live && not bit) + flag (live && bit) ≡ flag (live && true)
win_counts true true = refl
win_counts true false = refl
win_counts false true = refl
win_counts false false = refl

-- to set the bit of a word cancels its task exactly when it wins
pub wins_count : (w : Parts) → flag (wins w) + flag (is_cancelled w) ≡ flag (is_cancelled (marked w))
wins_count w = win_counts (is_live w.phase) w.marked

-- what counts is so
pub flag_true : (b : Bool) → 0 < flag b → b ≡ true
flag_true true h = refl
flag_true false h = absurd (omega arith)

won_taken : (k : ℕ) (v : View) → times k (won_of v) ≤ times k (taken_by v)
won_taken k (Core v) = omega (arith, times_append k v.own v.joined)
won_taken k (Handle h) = omega arith
won_taken k Spent = omega arith

-- what a seat won is cancelled
pub won_cancelled : (n k id : ℕ) (words : List ℕ) (views : List View) (v : View) → IsWellFormedTable n words views → get_elem? views id ≡ some v → k < n
    → 0 < times k (won_of v) → is_cancelled (word_at words k) ≡ true
won_cancelled n k id words views v kept at in_n some_won =
    flag_true _ (let part = sum_part (λ u. times k (taken_by u)) views id v at in let all = kept.once k in_n in let w = won_taken k v in omega (arith, some_won, part, all, w))

-- a word that a seat won keeps its rank
pub won_still : (n k id x : ℕ) (words : List ℕ) (views : List View) (v : View) → IsWellFormedTable n words views → get_elem? views id ≡ some v → k < n → Becomes (word_at words k) (word_of_value x)
    → 0 < times k (won_of v) → rank (word_at words k) ≡ rank (word_of_value x)
won_still n k id x words views v kept at in_n becoming some_won = becoming.steady (won_cancelled n k id words views v kept at in_n some_won)
