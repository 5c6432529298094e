-- Groups of what lies over one another, and of what stands at one place.
use Rattle.std.proofs.Common.{◌≡◌, ℕ, suc, ◌<◌, ◌≤◌, ◌==◌, Bool, true, false, List, [], ◌∷◌, ◌++◌, Some, length, refl, sym, subst, ◌∙◌, arith}
use Rattle.std.specs.Prelude.{nat_lt, max, fold, slice_get}
use Rattle.std.specs.List.{AllByRecursion}
use Rattle.std.proofs.lemmas.Bool.{eqb-true}
use Rattle.std.proofs.lemmas.Bool.Decides.{nat_tests}
use Rattle.trace_svg.specs.Groups.{groups_from, groups_of, of_first}
use Rattle.trace_svg.proofs.Groups.{EachInTurn, Pairs, Rises, all_at, chosen, decided, each_from, each_in_turn_grows}

-- how far items reach
abbrev pub reach : {X : Type 0} → (X → ℕ) → List X → ℕ
reach r xs = fold (λ n x. max n (r x)) 0 xs

-- an item begins before the items of a group end
abbrev pub begins_before : {X : Type 0} → (X → ℕ) → (X → ℕ) → List X → X → Bool
begins_before l r group x = nat_lt (l x) (reach r group)

-- an item is where the first of a group is
abbrev pub is_there : {X : Type 0} → (X → ℕ) → List X → X → Bool
is_there l group x = l x == of_first l group

pub less : (a b : ℕ) → nat_lt a b ≡ true → a < b
less a b is = grind (arith, nat_tests)

not_less : (a b : ℕ) → nat_lt a b ≡ false → b ≤ a
not_less a b is = grind (arith, nat_tests)

not_same : (a b : ℕ) → (a == b) ≡ false → b ≤ a → b < a
not_same a b is low = grind (arith, nat_tests)

-- ---- the first of a group that grows

pub first_stays : {X : Type 0} (f : X → ℕ) (group : List X) (x : X) → 0 < length group → of_first f (group ++ x ∷ []) ≡ of_first f group
first_stays f [] x some = absurd (omega arith)
first_stays f (y ∷ ys) x some = refl

grown : {X : Type 0} (group : List X) (x : X) → 0 < length (group ++ x ∷ [])
grown [] x = omega arith
grown (y ∷ ys) x = omega arith

all_more : {X : Type 0} (P : X → Type 0) (xs : List X) (x : X) → AllByRecursion P xs → P x → AllByRecursion P (xs ++ x ∷ [])
all_more P [] x all here = (here, tt)
all_more P (y ∷ ys) x all here = (all.0, all_more P ys x all.1 here)

pub all_weaker : {X : Type 0} (P Q : X → Type 0) → ((x : X) → P x → Q x) → (xs : List X) → AllByRecursion P xs → AllByRecursion Q xs
all_weaker P Q weaker [] all = tt
all_weaker P Q weaker (x ∷ xs) all = (weaker x all.0, all_weaker P Q weaker xs all.1)

-- ---- how far items reach

reach_grows : {X : Type 0} (r : X → ℕ) (n : ℕ) (xs : List X) → n ≤ fold (λ n x. max n (r x)) n xs
reach_grows r n [] = omega arith
reach_grows r n (x ∷ xs) = omega (arith, reach_grows r (max n (r x)) xs)

reach_each : {X : Type 0} (r : X → ℕ) (n : ℕ) (xs : List X) → AllByRecursion (λ x. r x ≤ fold (λ n x. max n (r x)) n xs) xs
reach_each r n [] = tt
reach_each r n (x ∷ xs) = (omega (arith, reach_grows r (max n (r x)) xs), reach_each r (max n (r x)) xs)

-- a group reaches no less far than its first item begins
first_reaches : {X : Type 0} (l r : X → ℕ) → ((x : X) → l x ≤ r x) → (group : List X) → of_first l group ≤ reach r group
first_reaches l r wide [] = omega arith
first_reaches l r wide (x ∷ xs) = omega (arith, wide x, reach_grows r (max 0 (r x)) xs)

-- ---- groups of what lies over one another

-- a group begins no further left than a number
record BeginsFrom {X : Type 0} (l : X → ℕ) (n : ℕ) (group : List X) : Type 0 where
  pub some : 0 < length group
  pub from : n ≤ of_first l group

behind : {X : Type 0} (l r : X → ℕ) → ((x : X) → l x ≤ r x) → (n : ℕ) (group xs : List X) → BeginsFrom l n group → AllByRecursion (λ g. n ≤ of_first l g) (groups_from (begins_before l r) group xs)
behind l r wide n group xs here =
    all_weaker (BeginsFrom l n) (λ g. n ≤ of_first l g) (λ g b. b.from) (groups_from (begins_before l r) group xs)
    (each_from (begins_before l r) (BeginsFrom l n)
    (λ g x b is. record { some = grown g x; from = subst (λ k. n ≤ k) (sym (first_stays l g x b.some)) b.from })
    (λ g x b is. record { some = omega arith; from = omega (arith, b.from, first_reaches l r wide g, not_less (l x) (reach r g) is) })
    group xs here)

apart_from : {X : Type 0} (l r : X → ℕ) → ((x : X) → l x ≤ r x) → (group xs : List X) → Pairs (λ g h. reach r g ≤ of_first l h) (groups_from (begins_before l r) group xs)
apart_from l r wide group [] = (tt, tt)
apart_from l r wide group (x ∷ later) =
    chosen (λ gs. Pairs (λ g h. reach r g ≤ of_first l h) gs) (begins_before l r group x) (groups_from (begins_before l r) (group ++ x ∷ []) later) (group ∷ groups_from (begins_before l r) (x ∷ []) later)
    (λ is. apart_from l r wide (group ++ x ∷ []) later)
    (λ is. (behind l r wide (reach r group) (x ∷ []) later (record { some = omega arith; from = not_less (l x) (reach r group) is }), apart_from l r wide (x ∷ []) later))

-- none begins before one before it ends
pub apart : {X : Type 0} (l r : X → ℕ) → ((x : X) → l x ≤ r x) → (xs : List X) → Pairs (λ g h. reach r g ≤ of_first l h) (groups_of (begins_before l r) xs)
apart l r wide [] = tt
apart l r wide (x ∷ later) = apart_from l r wide (x ∷ []) later

-- a group reaches over each of its items
abbrev pub ReachesOver : {X : Type 0} → (X → ℕ) → (X → ℕ) → List X → X → Type 0
ReachesOver l r group x = (of_first l group ≤ l x) × (r x ≤ reach r group)

both : {X : Type 0} (P Q : X → Type 0) (xs : List X) → AllByRecursion P xs → AllByRecursion Q xs → AllByRecursion (λ x. P x × Q x) xs
both P Q [] p q = tt
both P Q (x ∷ xs) p q = ((p.0, q.0), both P Q xs p.1 q.1)

over_from : {X : Type 0} (l r : X → ℕ) (n : ℕ) (group xs : List X) → 0 < length group → of_first l group ≤ n → AllByRecursion (λ x. of_first l group ≤ l x) group → Rises l n xs
    → AllByRecursion (λ g. AllByRecursion (ReachesOver l r g) g) (groups_from (begins_before l r) group xs)
over_from l r n group [] some low each up = (both (λ x. of_first l group ≤ l x) (λ x. r x ≤ reach r group) group each (reach_each r 0 group), tt)
over_from l r n group (x ∷ later) some low each up =
    chosen (λ gs. AllByRecursion (λ g. AllByRecursion (ReachesOver l r g) g) gs) (begins_before l r group x) (groups_from (begins_before l r) (group ++ x ∷ []) later) (group ∷ groups_from (begins_before l r) (x ∷ []) later)
    (λ is. over_from l r (l x) (group ++ x ∷ []) later (grown group x)
    (subst (λ k. k ≤ l x) (sym (first_stays l group x some)) (omega (arith, low, up.0)))
    (subst (λ k. AllByRecursion (λ y. k ≤ l y) (group ++ x ∷ [])) (sym (first_stays l group x some)) (all_more (λ y. of_first l group ≤ l y) group x each (omega (arith, low, up.0))))
    up.1)
    (λ is. (
      both (λ y. of_first l group ≤ l y) (λ y. r y ≤ reach r group) group each (reach_each r 0 group),
      over_from l r (l x) (x ∷ []) later (omega arith) (omega arith) (omega arith, tt) up.1,
    ))

pub over : {X : Type 0} (l r : X → ℕ) (xs : List X) → Rises l 0 xs → AllByRecursion (λ g. AllByRecursion (ReachesOver l r g) g) (groups_of (begins_before l r) xs)
over l r [] up = tt
over l r (x ∷ later) up = over_from l r (l x) (x ∷ []) later (omega arith) (omega arith) (omega arith, tt) up.1

-- ---- an item of a group lies over one before it

-- one of some items ends behind a number
record EndsBehind {X : Type 0} (r : X → ℕ) (n : ℕ) (xs : List X) : Type 0 where
  pub index : ℕ
  pub other : X
  pub at : slice_get xs index ≡ Some other
  pub behind : n < r other

ends_behind : {X : Type 0} (r : X → ℕ) (n far : ℕ) (xs : List X) → far ≤ n → n < fold (λ n x. max n (r x)) far xs → EndsBehind r n xs
ends_behind r n far [] low reaches = absurd (omega arith)
ends_behind r n far (x ∷ xs) low reaches =
    decided (nat_lt n (r x))
    (λ is. record { index = 0; other = x; at = refl; behind = less n (r x) is })
    (λ is.
    let later = ends_behind r n (max far (r x)) xs (omega (arith, low, not_less n (r x) is)) reaches in
    record { index = suc later.index; other = later.other; at = later.at; behind = later.behind })

-- an item begins no earlier than one of some items, and before that ends
pub record LiesOverOne {X : Type 0} (l r : X → ℕ) (xs : List X) (x : X) : Type 0 where
  pub index : ℕ
  pub other : X
  pub at : slice_get xs index ≡ Some other
  pub from : l other ≤ l x
  pub before : l x < r other

lies_over_one : {X : Type 0} (l r : X → ℕ) (n : ℕ) (xs : List X) (x : X) → AllByRecursion (λ y. l y ≤ n) xs → n ≤ l x → l x < reach r xs → LiesOverOne l r xs x
lies_over_one l r n xs x low up reaches =
    let one = ends_behind r (l x) 0 xs (omega arith) reaches in
    record { index = one.index; other = one.other; at = one.at; from = omega (arith, up, all_at (λ y. l y ≤ n) xs one.index one.other low one.at); before = one.behind }

lie_over_from : {X : Type 0} (l r : X → ℕ) (n : ℕ) (group xs : List X) → AllByRecursion (λ x. l x ≤ n) group → EachInTurn (LiesOverOne l r) group → Rises l n xs
    → AllByRecursion (EachInTurn (LiesOverOne l r)) (groups_from (begins_before l r) group xs)
lie_over_from l r n group [] low here up = (here, tt)
lie_over_from l r n group (x ∷ later) low here up =
    chosen (λ gs. AllByRecursion (EachInTurn (LiesOverOne l r)) gs) (begins_before l r group x) (groups_from (begins_before l r) (group ++ x ∷ []) later) (group ∷ groups_from (begins_before l r) (x ∷ []) later)
    (λ is. lie_over_from l r (l x) (group ++ x ∷ []) later
    (all_more (λ y. l y ≤ l x) group x (all_weaker (λ y. l y ≤ n) (λ y. l y ≤ l x) (λ y below. omega (arith, below, up.0)) group low) (omega arith))
    (each_in_turn_grows (LiesOverOne l r) group x here (lies_over_one l r n group x low up.0 (less (l x) (reach r group) is)))
    up.1)
    (λ _. (here, lie_over_from l r (l x) (x ∷ []) later (omega arith, tt) tt up.1))

-- each item but the first does, where the items rise
pub lie_over : {X : Type 0} (l r : X → ℕ) (xs : List X) → Rises l 0 xs → AllByRecursion (EachInTurn (LiesOverOne l r)) (groups_of (begins_before l r) xs)
lie_over l r [] up = tt
lie_over l r (x ∷ later) up = lie_over_from l r (l x) (x ∷ []) later (omega arith, tt) tt up.1

-- ---- groups of what stands at one place

-- each item of a group, which has some, is where the first is
record AreThere {X : Type 0} (l : X → ℕ) (group : List X) : Type 0 where
  pub some : 0 < length group
  pub each : AllByRecursion (λ x. l x ≡ of_first l group) group

there_from : {X : Type 0} (l : X → ℕ) (group xs : List X) → AreThere l group → AllByRecursion (AreThere l) (groups_from (is_there l) group xs)
there_from l group xs here =
    each_from (is_there l) (AreThere l)
    (λ g x a is. record {
      some = grown g x;
      each = subst (λ k. AllByRecursion (λ y. l y ≡ k) (g ++ x ∷ [])) (sym (first_stays l g x a.some)) (all_more (λ y. l y ≡ of_first l g) g x a.each (eqb-true (l x) (of_first l g) is));
    })
    (λ g x a is. record { some = omega arith; each = (refl, tt) })
    group xs here

pub there : {X : Type 0} (l : X → ℕ) (xs : List X) → AllByRecursion (λ g. AllByRecursion (λ x. l x ≡ of_first l g) g) (groups_of (is_there l) xs)
there l [] = tt
there l (x ∷ later) =
    all_weaker (AreThere l) (λ g. AllByRecursion (λ y. l y ≡ of_first l g) g) (λ g a. a.each) (groups_from (is_there l) (x ∷ []) later) (there_from l (x ∷ []) later (record { some = omega arith; each = (refl, tt) }))

-- those behind a group that is begun stand further on, where the items rise
further : {X : Type 0} (l : X → ℕ) (m n : ℕ) (group xs : List X) → 0 < length group → m < of_first l group → of_first l group ≡ n → Rises l n xs → AllByRecursion (λ g. m < of_first l g) (groups_from (is_there l) group xs)
further l m n group [] some low is up = (low, tt)
further l m n group (x ∷ later) some low is up =
    chosen (λ gs. AllByRecursion (λ g. m < of_first l g) gs) (is_there l group x) (groups_from (is_there l) (group ++ x ∷ []) later) (group ∷ groups_from (is_there l) (x ∷ []) later)
    (λ same. further l m (l x) (group ++ x ∷ []) later (grown group x)
    (subst (λ k. m < k) (sym (first_stays l group x some)) low)
    (first_stays l group x some ∙ sym (eqb-true (l x) (of_first l group) same))
    up.1)
    (λ other. (low, further l m (l x) (x ∷ []) later (omega arith) (omega (arith, low, is, up.0)) refl up.1))

stand_from : {X : Type 0} (l : X → ℕ) (n : ℕ) (group xs : List X) → 0 < length group → of_first l group ≡ n → Rises l n xs → Pairs (λ g h. of_first l g < of_first l h) (groups_from (is_there l) group xs)
stand_from l n group [] some is up = (tt, tt)
stand_from l n group (x ∷ later) some is up =
    chosen (λ gs. Pairs (λ g h. of_first l g < of_first l h) gs) (is_there l group x) (groups_from (is_there l) (group ++ x ∷ []) later) (group ∷ groups_from (is_there l) (x ∷ []) later)
    (λ same. stand_from l (l x) (group ++ x ∷ []) later (grown group x) (first_stays l group x some ∙ sym (eqb-true (l x) (of_first l group) same)) up.1)
    (λ other. (
      further l (of_first l group) (l x) (x ∷ []) later (omega arith) (not_same (l x) (of_first l group) other (omega (arith, is, up.0))) refl up.1,
      stand_from l (l x) (x ∷ []) later (omega arith) refl up.1,
    ))

-- no two groups stand at one place, where the items rise
pub stand : {X : Type 0} (l : X → ℕ) (xs : List X) → Rises l 0 xs → Pairs (λ g h. of_first l g < of_first l h) (groups_of (is_there l) xs)
stand l [] up = tt
stand l (x ∷ later) up = stand_from l (l x) (x ∷ []) later (omega arith) refl up.1
