-- Where a name has its slot in a row, and what the slots hold of a table.
use Rattle.std.proofs.Common.{◌≡◌, ◌≢◌, ◌<◌, length, get_or, set, arith, ℕ, Bool, true, false, if◌then◌else◌, List, [], ◌∷◌, ◌++◌, String, Global, Option, Some, None, Less, Greater, nat_cmp, string_bytes, bytes_eq, refl, sym, ap, ◌∙◌, inl, inr}
use Rattle.std.proofs.lemmas.Bool.{cases_Bool}
use Rattle.std.proofs.lemmas.Bool.Decides.{not_from_Decides}
use Rattle.std.proofs.lemmas.List.{get_or-replicate, get_or-set_same, get_or-set_other}
use Rattle.std.proofs.lemmas.Cmp.{nat_list_cmp_total}
use Rattle.std.proofs.lemmas.Map.Text.{is_eq-slice_cmp}
use Rattle.std.proofs.lemmas.Slice.Eq.{bytes_eq-Decides}
use Rattle.std.specs.Borrow.{Bor}
use Rattle.std.specs.Cmp.Lexicographic.{slice_cmp}
use Rattle.std.specs.Cmp.{tied_itself}
use Rattle.std.specs.Prelude.{option_map, ◌&&◌, replicate}
use Rattle.std.specs.List.{AllByRecursion, list_all}
use Rattle.std.specs.List.Sorted.{IsStrictlySortedBy}
use Rattle.std.specs.Map.{keys_of, lookup}
use Rattle.std.specs.Ordering.{is_eq, ordering_reverse}
use Rattle.std.specs.String.{string_cmp}
use Rattle.toml.specs.declared.value.Value.{Value}
use Rattle.plan_read.specs.declared.key_names.KeyName.{KeyName}
use Rattle.plan_read.specs.declared.key_names.KeyName.TheVariants as names
use Rattle.plan_read.proofs.Words.{differs}
use Rattle.plan_read.specs.declared.keys.Key.{Key as CodeKey}
use Rattle.plan_read.specs.Keys.{Key}
use Rattle.plan_read.specs.own.Rows.{word_of, key_of_word, place, slot, key_as_defined, as_defined}

abbrev pub Entry : Type 0
Entry = String Global × Value

-- ---- names and their words

-- a name is named by its word
pub named_by_word : (k : KeyName) → key_of_word (word_of k) ≡ Some k
named_by_word names.Op = refl
named_by_word names.At = refl
named_by_word names.Name = refl
named_by_word names.Delay = refl
named_by_word names.First = refl
named_by_word names.Period = refl
named_by_word names.Which = refl
named_by_word names.Value = refl
named_by_word names.Version = refl
named_by_word names.Block = refl
named_by_word names.Unit = refl
named_by_word names.Times = refl
named_by_word names.Every = refl
named_by_word names.Call = refl
named_by_word names.AtUnit = refl
named_by_word names.EveryUnit = refl
named_by_word names.DelayUnit = refl
named_by_word names.FirstUnit = refl
named_by_word names.PeriodUnit = refl

-- a word that is a name's names it
pub names_key : (w : List ℕ) (k : KeyName) → w ≡ word_of k → Some k ≡ key_of_word w
names_key w k is = sym (ap key_of_word is ∙ named_by_word k)

-- a word that is no name's names none
pub names_none : (w : List ℕ) → ((k : KeyName) → w ≢ word_of k) → None ≡ key_of_word w
names_none w other =
    let apart = λ (k : KeyName). differs w (word_of k) (other k) in
    rw (apart names.Op, apart names.At, apart names.Name, apart names.Delay, apart names.First, apart names.Period, apart names.Which, apart names.Value, apart names.Version, apart names.Block, apart names.Unit, apart names.Times, apart names.Every, apart names.Call, apart names.AtUnit, apart names.EveryUnit, apart names.DelayUnit, apart names.FirstUnit, apart names.PeriodUnit) refl

one_word : (w : List ℕ) (j k : KeyName) (rest : Option KeyName) → (rest ≡ Some k → w ≡ word_of k) → (if bytes_eq w (word_of j) then Some j else rest) ≡ Some k → w ≡ word_of k
one_word w j k rest more h =
    elim (cases_Bool (bytes_eq w (word_of j))) [
      | inl t ↦ (let e : j ≡ k = (let g = rw t at h in cc) in (bytes_eq-Decides w (word_of j)).0 t ∙ ap word_of e)
      | inr f ↦ more (rw f at h)
    ]

-- the word that names a key is its word
pub word_is : (w : List ℕ) (k : KeyName) → key_of_word w ≡ Some k → w ≡ word_of k
word_is w k h =
    one_word w names.Op k _ (one_word w names.At k _ (one_word w names.Name k _ (one_word w names.Delay k _ (one_word w names.First k _ (one_word w names.Period k _ (one_word w names.Which k _ (one_word w names.Value k _ (one_word w names.Version k _ (one_word w names.Block k _ (one_word w names.Unit k _ (one_word w names.Times k _ (one_word w names.Every k _ (one_word w names.Call k _ (one_word w names.AtUnit k _ (one_word w names.EveryUnit k _ (one_word w names.DelayUnit k _ (one_word w names.FirstUnit k _ (one_word w names.PeriodUnit k None (λ e. absurd (cc)))))))))))))))))))) h

-- names of one word are one
pub one_name : (j k : KeyName) → word_of j ≡ word_of k → j ≡ k
one_name j k is = let e : Some j ≡ Some k = sym (named_by_word j) ∙ (ap key_of_word is ∙ named_by_word k) in cc

-- ---- names and their places

-- all names, each at its place
all_names : List KeyName
all_names = names.Version ∷ names.Block ∷ names.Op ∷ names.At ∷ names.AtUnit ∷ names.Unit ∷ names.Times ∷ names.Every ∷ names.EveryUnit ∷ names.Call ∷ names.Name ∷ names.First ∷ names.FirstUnit ∷ names.Delay ∷ names.DelayUnit ∷ names.Period ∷ names.PeriodUnit ∷ names.Which ∷ names.Value ∷ []

-- each name is at its place
stands_at : (k : KeyName) → get_or all_names (place k) names.Op ≡ k
unfolding all_names
stands_at names.Op = refl
stands_at names.At = refl
stands_at names.Name = refl
stands_at names.Delay = refl
stands_at names.First = refl
stands_at names.Period = refl
stands_at names.Which = refl
stands_at names.Value = refl
stands_at names.Version = refl
stands_at names.Block = refl
stands_at names.Unit = refl
stands_at names.Times = refl
stands_at names.Every = refl
stands_at names.Call = refl
stands_at names.AtUnit = refl
stands_at names.EveryUnit = refl
stands_at names.DelayUnit = refl
stands_at names.FirstUnit = refl
stands_at names.PeriodUnit = refl

-- there is a slot for each name
pub within : (k : KeyName) → place k < 19
within names.Op = omega arith
within names.At = omega arith
within names.Name = omega arith
within names.Delay = omega arith
within names.First = omega arith
within names.Period = omega arith
within names.Which = omega arith
within names.Value = omega arith
within names.Version = omega arith
within names.Block = omega arith
within names.Unit = omega arith
within names.Times = omega arith
within names.Every = omega arith
within names.Call = omega arith
within names.AtUnit = omega arith
within names.EveryUnit = omega arith
within names.DelayUnit = omega arith
within names.FirstUnit = omega arith
within names.PeriodUnit = omega arith

-- names at one place are one
one_place : (j k : KeyName) → place j ≡ place k → j ≡ k
one_place j k is = sym (stands_at j) ∙ (ap (λ i. get_or all_names i names.Op) is ∙ stands_at k)

-- ---- what stands at a key, by what was passed

-- the key is this word
abbrev pub at_word : List ℕ → String Global → Bool
at_word w key = is_eq (slice_cmp nat_cmp w (string_bytes key))

-- what is kept for a word after the entries `done`: nothing where none of them has it, and else what all of them have there
abbrev pub Sees : List Entry → List Entry → Option (Bor Value) → List ℕ → Type 0
Sees all done None w = lookup (at_word w) done ≡ None
Sees all done (Some v) w = lookup (at_word w) all ≡ Some v.now

-- a word that one more entry does not have
pub still_none : (w : List ℕ) (done : List Entry) (e : Entry) → at_word w e.0 ≡ false → lookup (at_word w) done ≡ None → lookup (at_word w) (done ++ e ∷ []) ≡ None
still_none w [] e apart h = rw apart refl
still_none w (f ∷ done) e apart h = elim (cases_Bool (at_word w f.0)) [ inl t ↦ absurd (let g = rw t at h in cc) | inr u ↦ rw u (still_none w done e apart (rw u at h)) ]

below_middle : (first : Entry) (es : List Entry) (e : Entry) (more : List Entry) → AllByRecursion (λ y. string_cmp first.0 y ≡ Less) (keys_of (es ++ e ∷ more)) → string_cmp first.0 e.0 ≡ Less
below_middle first [] e more h = h.0
below_middle first (x ∷ es) e more h = below_middle first es e more h.1

-- what all entries have at the key of one of them
pub found_there : (done : List Entry) (e : Entry) (more : List Entry) → IsStrictlySortedBy string_cmp (keys_of (done ++ e ∷ more))
    → lookup (at_word (string_bytes e.0)) (done ++ e ∷ more) ≡ Some e.1
unfolding IsStrictlySortedBy
found_there [] e more h = rw (tied_itself nat_list_cmp_total (string_bytes e.0)) refl
found_there (first ∷ done) e more h =
    let above : slice_cmp nat_cmp (string_bytes e.0) (string_bytes first.0) ≡ Greater =
    nat_list_cmp_total.antisymm (string_bytes e.0) (string_bytes first.0) ∙ ap ordering_reverse (below_middle first done e more h.0) in
    rw above (found_there done e more h.1)

-- ---- one entry more

-- before any entry
pub nothing_yet : (all : List Entry) (k : KeyName) → Sees all [] (slot k (replicate 19 None)) (word_of k)
nothing_yet all k = rw (get_or-replicate {A = Option (Bor Value)} 19 (place k) None None (within k)) refl

-- what the slots have at a name after a value was put at another
pub slot_set : (j k : KeyName) (v : Bor Value) (slots : List (Option (Bor Value))) → length slots ≡ 19
    → slot k (set slots (place j) (Some v)) ≡ (if bytes_eq (word_of k) (word_of j) then Some v else slot k slots)
slot_set j k v slots size =
    elim (cases_Bool (bytes_eq (word_of k) (word_of j))) [
      | inl t ↦ (
          let e : k ≡ j = one_name k j ((bytes_eq-Decides (word_of k) (word_of j)).0 t) in
          rw (t, e) (get_or-set_same slots (place j) (Some v) None (rw size (within j))))
      | inr f ↦ (
          let apart : place k ≢ place j = λ h. not_from_Decides (bytes_eq (word_of k) (word_of j)) (bytes_eq-Decides (word_of k) (word_of j)) f (ap word_of (one_place k j h)) in
          rw f (get_or-set_other slots (place j) (place k) (Some v) None apart))
    ]

keeps : (all done : List Entry) (e : Entry) (o : Option (Bor Value)) (w : List ℕ) → bytes_eq w (string_bytes e.0) ≡ false → Sees all done o w → Sees all (done ++ e ∷ []) o w
keeps all done e None w apart h = still_none w done e (is_eq-slice_cmp w (string_bytes e.0) ∙ apart) h
keeps all done e (Some v) w apart h = h

-- after an entry whose key is no key of a call
pub passed_over : (all done : List Entry) (e : Entry) (r : List (Option (Bor Value))) → key_of_word (string_bytes e.0) ≡ None → ((k : KeyName) → Sees all done (slot k r) (word_of k))
    → (k : KeyName) → Sees all (done ++ e ∷ []) (slot k r) (word_of k)
passed_over all done e r none h k =
    elim (cases_Bool (bytes_eq (word_of k) (string_bytes e.0))) [
      | inl t ↦ absurd (let s = rw ((bytes_eq-Decides (word_of k) (string_bytes e.0)).0 t) at (named_by_word k) in cc)
      | inr f ↦ keeps all done e (slot k r) (word_of k) f (h k)
    ]

-- after an entry whose value was kept
pub kept : (all done : List Entry) (e : Entry) (more : List Entry) (r : List (Option (Bor Value))) (j : KeyName) (v : Bor Value) → length r ≡ 19 → all ≡ done ++ e ∷ more → IsStrictlySortedBy string_cmp (keys_of all)
    → key_of_word (string_bytes e.0) ≡ Some j → v.now ≡ e.1 → ((k : KeyName) → Sees all done (slot k r) (word_of k))
    → (k : KeyName) → Sees all (done ++ e ∷ []) (slot k (set r (place j) (Some v))) (word_of k)
kept all done e more r j v size is sorted named same h k =
    let word : string_bytes e.0 ≡ word_of j = word_is (string_bytes e.0) j named in
    let there : lookup (at_word (string_bytes e.0)) all ≡ Some e.1 = rw is (found_there done e more (rw is at sorted)) in
    elim (cases_Bool (bytes_eq (word_of k) (word_of j))) [
      | inl t ↦ (
          let own : word_of k ≡ string_bytes e.0 = (bytes_eq-Decides (word_of k) (word_of j)).0 t ∙ sym word in
          rw (slot_set j k v r size, t) (rw (own, same) there))
      | inr f ↦ rw (slot_set j k v r size, f) (keeps all done e (slot k r) (word_of k) (rw word f) (h k))
    ]

-- after all entries
pub held : (all : List Entry) (o : Option (Bor Value)) (w : List ℕ) → Sees all all o w → option_map (λ v. v.now) o ≡ lookup (at_word w) all
held all None w h = sym h
held all (Some v) w h = sym h

-- ---- keys

-- to test keys one by one is to test them as the definitions have them
pub all_as_defined : (test : Key → Bool) (keys : List CodeKey) → list_all (λ k. test (key_as_defined k)) keys ≡ list_all test (as_defined keys)
all_as_defined test [] = refl
all_as_defined test (k ∷ keys) = ap (λ b. test (key_as_defined k) && b) (all_as_defined test keys)

swapped : (a b c d : Bool) → ((a && b) && (c && d)) ≡ ((a && c) && (b && d))
swapped false b c d = refl
swapped true true c d = refl
swapped true false true d = refl
swapped true false false d = refl

-- all pass both tests where all pass the one and all pass the other
pub all_of_both : (a b : Key → Bool) (keys : List Key) → list_all (λ k. a k && b k) keys ≡ (list_all a keys && list_all b keys)
all_of_both a b [] = refl
all_of_both a b (k ∷ keys) = ap (λ c. (a k && b k) && c) (all_of_both a b keys) ∙ swapped (a k) (b k) (list_all a keys) (list_all b keys)
