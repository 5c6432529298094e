-- One more of some elements.
use Rattle.std.proofs.Common.{◌≡◌, ◌∙◌, ◌⊎◌, inl, inr, ℕ, ◌+◌, ◌<◌, ◌≤◌, Bool, true, false, ◌||◌, List, [], ◌∷◌, ◌++◌, length, get_or, take, map, cond, refl, sym, ap, append_assoc, append-nil}
use Rattle.std.specs.List.{filter, flat_map, list_any}
use Rattle.std.proofs.lemmas.List.{map-append, take_all, take_more}
use Rattle.std.proofs.lemmas.List.Concat.{flat_map-append}
use Rattle.std.proofs.lemmas.List.Elements.{filter-append}
use Rattle.std.proofs.lemmas.List.Folds.{list_any_more}

-- a search among what some elements are made to
pub list_any-map : {X Y : Type 0} (test : Y → Bool) (f : X → Y) (xs : List X) → list_any test (map f xs) ≡ list_any (λ x. test (f x)) xs
list_any-map test f [] = refl
list_any-map test f (x ∷ xs) = ap (λ b. test (f x) || b) (list_any-map test f xs)

-- a search that has come one element further
pub any_more : {X : Type 0} (test : X → Bool) (xs : List X) (i : ℕ) (x : X) → i < length xs → x ≡ get_or xs i x → list_any test (take (i + 1) xs) ≡ (list_any test (take i xs) || test x)
any_more test xs i x within is = list_any_more test xs i x within ∙ ap (λ y. list_any test (take i xs) || test y) (sym is)

-- a search that has come to the end
pub any_of_all : {X Y : Type 0} (test : Y → Bool) (f : X → Y) (xs : List X) (i : ℕ) → length xs ≤ i → list_any (λ x. test (f x)) (take i xs) ≡ list_any test (map f xs)
any_of_all test f xs i all = ap (list_any (λ x. test (f x))) (take_all i xs all) ∙ sym (list_any-map test f xs)

-- what is made of those that pass a test, one element further
pub kept_more : {X Y : Type 0} (test : X → Bool) (f : X → Y) (xs : List X) (i : ℕ) (d : X) (old now : List Y) → i < length xs → now ≡ old ++ map f (filter test (take i xs))
    → now ++ map f (filter test (get_or xs i d ∷ [])) ≡ old ++ map f (filter test (take (i + 1) xs))
kept_more test f xs i d old now within so_far =
    let x = get_or xs i d in
    ap (λ ys. ys ++ map f (filter test (x ∷ []))) so_far
    ∙ (append_assoc old (map f (filter test (take i xs))) (map f (filter test (x ∷ [])))
    ∙ (ap (λ ys. old ++ ys) (sym (map-append f (filter test (take i xs)) (filter test (x ∷ []))))
    ∙ (ap (λ ys. old ++ map f ys) (sym (filter-append test (take i xs) (x ∷ [])))
    ∙ ap (λ ys. old ++ map f (filter test ys)) (sym (take_more xs i d within)))))

-- two tests that tell the same keep the same
pub filter_same : {X : Type 0} (p q : X → Bool) → ((x : X) → p x ≡ q x) → (xs : List X) → filter p xs ≡ filter q xs
filter_same p q same [] = refl
filter_same p q same (x ∷ xs) = ap (λ b. cond b (x ∷ filter p xs) (filter p xs)) (same x) ∙ ap (λ ys. cond (q x) (x ∷ ys) ys) (filter_same p q same xs)

-- lists that are made of what some elements are made to
pub flat_map-map : {X Y Z : Type 0} (f : Y → List Z) (h : X → Y) (xs : List X) → flat_map f (map h xs) ≡ flat_map (λ x. f (h x)) xs
flat_map-map f h [] = refl
flat_map-map f h (x ∷ xs) = ap (λ ys. f (h x) ++ ys) (flat_map-map f h xs)

-- lists that are made of some elements, one element further
pub flat_more : {X Y : Type 0} (f : X → List Y) (xs : List X) (i : ℕ) (x : X) → i < length xs → x ≡ get_or xs i x → flat_map f (take (i + 1) xs) ≡ flat_map f (take i xs) ++ f x
flat_more f xs i x within is =
    ap (flat_map f) (take_more xs i x within ∙ ap (λ y. take i xs ++ y ∷ []) (sym is)) ∙ (flat_map-append f (take i xs) (x ∷ []) ∙ ap (λ ys. flat_map f (take i xs) ++ ys) (append-nil (f x)))

-- a truth is true or false
pub bool_cases : (b : Bool) → (b ≡ true) ⊎ (b ≡ false)
bool_cases true = inl refl
bool_cases false = inr refl

-- what passes a test, one element further
pub passed_more : {X : Type 0} (test : X → Bool) (xs : List X) (i : ℕ) (d : X) (now : List X) → i < length xs → now ≡ filter test (take i xs) → now ++ filter test (get_or xs i d ∷ []) ≡ filter test (take (i + 1) xs)
passed_more test xs i d now within so_far =
    let x = get_or xs i d in
    ap (λ ys. ys ++ filter test (x ∷ [])) so_far ∙ (sym (filter-append test (take i xs) (x ∷ [])) ∙ ap (filter test) (sym (take_more xs i d within)))
