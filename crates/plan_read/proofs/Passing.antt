-- A pass over the keys of a table tells what the three tests of the table tell.
use Rattle.std.proofs.Common.{◌≡◌, ◌≤◌, ◌<◌, ℕ, zero, suc, ◌+◌, Bool, true, false, cond, ◌&&◌, ◌||◌, ◌==◌, not, List, [], ◌∷◌, length, get_or, drop, is_some, refl, sym, ap, ◌∙◌, arith}
use Rattle.std.proofs.Math.Seq.{drop-nil}
use Rattle.std.proofs.lemmas.List.Sums.{sum_by-cons}
use Rattle.std.specs.List.{list_all, count_by}
use Rattle.std.specs.List.Sorted.{IsStrictlySortedBy}
use Rattle.std.specs.Map.{keys_of}
use Rattle.std.specs.String.{string_cmp}
use Rattle.toml.specs.Data.{Members, get_member}
use Rattle.toml.specs.View.{members_view}
use Rattle.plan_read.specs.declared.keys.Key.{Key as CodeKey}
use Rattle.plan_read.specs.Keys.{Key, fits, has_only, has_required, are_typed}
use Rattle.plan_read.specs.own.Rows.{word_of, are_apart, as_defined}
use Rattle.plan_read.proofs.KeyCounts.{only_these, count_as_defined}
use Rattle.plan_read.proofs.KeyTable.{drop_next, after}
use Rattle.plan_read.proofs.RowLaw.{Entry, all_as_defined, all_of_both}

-- whether a key of the code is there
abbrev pub is_there : Members → CodeKey → Bool
is_there ms k = is_some (get_member (word_of k.name) ms)

-- whether it is there with a value of its shape, or may be left out and is
abbrev pub holds : Members → CodeKey → Bool
holds ms k = (not k.required || is_there ms k) && fits k.shape (get_member (word_of k.name) ms)

-- so many of the keys before an index are there, and all of these hold
pub record Passing (ms : Members) (there : ℕ) (keys : List CodeKey) (i : ℕ) : Type 0 where
  pub counted : there + count_by (is_there ms) (drop i keys) ≡ count_by (is_there ms) keys
  pub few : there ≤ i
  pub held : list_all (holds ms) (drop i keys) ≡ list_all (holds ms) keys

pub start : (ms : Members) (keys : List CodeKey) → Passing ms 0 keys 0
start ms keys = record { counted = omega arith; few = omega arith; held = refl }

next_drop : (keys : List CodeKey) (i : ℕ) (d : CodeKey) → i < length keys → drop i keys ≡ get_or keys i d ∷ drop (i + 1) keys
next_drop keys i d h = rw (drop_next keys i d h, after i) refl

next_counted : (ms : Members) (keys : List CodeKey) (i : ℕ) (d : CodeKey) → i < length keys
    → count_by (is_there ms) (drop i keys) ≡ cond (is_there ms (get_or keys i d)) 1 0 + count_by (is_there ms) (drop (i + 1) keys)
next_counted ms keys i d h = ap (λ ks. count_by (is_there ms) ks) (next_drop keys i d h) ∙ sum_by-cons (λ (k : CodeKey). cond (is_there ms k) 1 0) (get_or keys i d) (drop (i + 1) keys)

next_held : (ms : Members) (keys : List CodeKey) (i : ℕ) (d : CodeKey) → i < length keys
    → list_all (holds ms) (drop i keys) ≡ (holds ms (get_or keys i d) && list_all (holds ms) (drop (i + 1) keys))
next_held ms keys i d h = ap (λ ks. list_all (holds ms) ks) (next_drop keys i d h)

-- a key that is there
pub one_there : (ms : Members) (there : ℕ) (keys : List CodeKey) (i : ℕ) (d : CodeKey) → i < length keys → Passing ms there keys i
    → holds ms (get_or keys i d) ≡ true → is_there ms (get_or keys i d) ≡ true → Passing ms (there + 1) keys (i + 1)
one_there ms there keys i d h p held is =
    let counted : count_by (is_there ms) (drop i keys) ≡ 1 + count_by (is_there ms) (drop (i + 1) keys) = rw is at (next_counted ms keys i d h) in
    let all : list_all (holds ms) (drop i keys) ≡ list_all (holds ms) (drop (i + 1) keys) = rw held at (next_held ms keys i d h) in
    record { counted = omega (arith, counted, p.counted); few = omega (arith, p.few); held = sym all ∙ p.held }

-- one that is not
pub one_left : (ms : Members) (there : ℕ) (keys : List CodeKey) (i : ℕ) (d : CodeKey) → i < length keys → Passing ms there keys i
    → holds ms (get_or keys i d) ≡ true → is_there ms (get_or keys i d) ≡ false → Passing ms there keys (i + 1)
one_left ms there keys i d h p held is =
    let counted : count_by (is_there ms) (drop i keys) ≡ 0 + count_by (is_there ms) (drop (i + 1) keys) = rw is at (next_counted ms keys i d h) in
    let all : list_all (holds ms) (drop i keys) ≡ list_all (holds ms) (drop (i + 1) keys) = rw held at (next_held ms keys i d h) in
    record { counted = omega (arith, counted, p.counted); few = omega (arith, p.few); held = sym all ∙ p.held }

-- ---- what is told

tested : (ms : Members) (keys : List CodeKey) → list_all (holds ms) keys ≡ (has_required (as_defined keys) ms && are_typed (as_defined keys) ms)
tested ms keys =
    let met : Key → Bool = λ k. not k.required || is_some (get_member k.name ms) in
    let typed : Key → Bool = λ k. fits k.shape (get_member k.name ms) in
    all_as_defined (λ k. met k && typed k) keys ∙ all_of_both met typed (as_defined keys)

and_false : (a b : Bool) → b ≡ false → false ≡ (a && b)
and_false true b h = sym h
and_false false b h = refl

and_true : (a b : Bool) → b ≡ true → a ≡ (a && b)
and_true true b h = sym h
and_true false b h = refl

drop_past : (keys : List CodeKey) (i : ℕ) → length keys ≤ i → drop i keys ≡ []
drop_past [] i h = drop-nil i
drop_past (k ∷ keys) zero h = absurd (omega (arith, h))
drop_past (k ∷ keys) (suc i) h = drop_past keys i (omega (arith, h))

-- a key that does not hold fails the tests
pub one_fails : (ms : Members) (there : ℕ) (keys : List CodeKey) (i : ℕ) (d : CodeKey) → i < length keys → Passing ms there keys i → holds ms (get_or keys i d) ≡ false
    → false ≡ (has_only (as_defined keys) ms && (has_required (as_defined keys) ms && are_typed (as_defined keys) ms))
one_fails ms there keys i d h p fails =
    let not_all : list_all (holds ms) (drop i keys) ≡ false = rw fails at (next_held ms keys i d h) in
    and_false (has_only (as_defined keys) ms) _ (sym (tested ms keys) ∙ sym p.held ∙ not_all)

-- behind the last key the number of those that are there decides
pub all_passed : (there : ℕ) (keys : List CodeKey) (i : ℕ) (es : List Entry) → length keys ≤ i → Passing (members_view es) there keys i → are_apart (as_defined keys) ≡ true → IsStrictlySortedBy string_cmp (keys_of es)
    → (there == length es) ≡ (has_only (as_defined keys) (members_view es) && (has_required (as_defined keys) (members_view es) && are_typed (as_defined keys) (members_view es)))
all_passed there keys i es past p apart sorted =
    let ms = members_view es in
    let none = drop_past keys i past in
    let counted : there + 0 ≡ count_by (is_there ms) keys = rw none at p.counted in
    let number : there ≡ count_by (λ k. is_some (get_member k.name ms)) (as_defined keys) = (omega (arith, counted)) ∙ count_as_defined (λ k. is_some (get_member k.name ms)) keys in
    let all : true ≡ list_all (holds ms) keys = rw none at p.held in
    ap (λ n. n == length es) number ∙ only_these (as_defined keys) es apart sorted ∙ and_true (has_only (as_defined keys) ms) _ (sym (tested ms keys) ∙ sym all)
