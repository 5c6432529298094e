-- Lists that are cut into groups.
use Rattle.std.proofs.Common.{◌≡◌, ℕ, zero, suc, ◌+◌, ◌<◌, ◌≤◌, Bool, true, false, cond, List, [], ◌∷◌, ◌++◌, Some, length, take, drop, get_or, refl, sym, ap, subst, ◌∙◌, append_assoc, append-nil, arith}
use Rattle.std.specs.Prelude.{flat_map, slice_get}
use Rattle.std.specs.List.{AllByRecursion, AllPairs, filter, sum_by}
use Rattle.std.proofs.lemmas.Grind.{flat_map-append}
use Rattle.std.proofs.lemmas.List.{take_more, drop_more, length-append}
use Rattle.std.proofs.lemmas.List.Concat.{length-flat_map}
use Rattle.std.proofs.lemmas.Option.{none-some, same_Some}
use Rattle.trace_svg.specs.Groups.{groups_from, groups_of}

-- what holds of both branches of a test holds of the test
pub chosen : {A : Type 0} (P : A → Type 0) (b : Bool) (x y : A) → (b ≡ true → P x) → (b ≡ false → P y) → P (cond b x y)
chosen P true x y one other = one refl
chosen P false x y one other = other refl

-- what follows from both answers of a test follows
pub decided : {A : Type 0} (b : Bool) → (b ≡ true → A) → (b ≡ false → A) → A
decided true one other = one refl
decided false one other = other refl

-- ---- joined they are the list

joined_from : {X : Type 0} (joins : List X → X → Bool) (group xs : List X) → flat_map (λ g. g) (groups_from joins group xs) ≡ group ++ xs
joined_from joins group [] = refl
joined_from joins group (x ∷ later) =
    chosen (λ gs. flat_map (λ g. g) gs ≡ group ++ x ∷ later) (joins group x) (groups_from joins (group ++ x ∷ []) later) (group ∷ groups_from joins (x ∷ []) later)
    (λ _. joined_from joins (group ++ x ∷ []) later ∙ append_assoc group (x ∷ []) later)
    (λ _. ap (λ rest. group ++ rest) (joined_from joins (x ∷ []) later))

pub joined : {X : Type 0} (joins : List X → X → Bool) (xs : List X) → flat_map (λ g. g) (groups_of joins xs) ≡ xs
joined joins [] = refl
joined joins (x ∷ later) = joined_from joins (x ∷ []) later

-- parts of parts, joined at once
pub parts_of_parts : {K X A : Type 0} (f : X → List A) (g : K → List X) (h : K → List A) → ((k : K) → flat_map f (g k) ≡ h k) → (ks : List K) → flat_map f (flat_map g ks) ≡ flat_map h ks
parts_of_parts f g h each [] = refl
parts_of_parts f g h each (k ∷ ks) =
    flat_map-append f (g k) (flat_map g ks) ∙ (ap (λ a. a ++ flat_map f (flat_map g ks)) (each k) ∙ ap (λ a. h k ++ a) (parts_of_parts f g h each ks))

-- the groups of some lists hold as many items as the lists
pub counted_in : {K X : Type 0} (g : K → List (List X)) (h : K → List X) → ((k : K) → flat_map (λ xs. xs) (g k) ≡ h k) → (ks : List K) → sum_by length (flat_map g ks) ≡ length (flat_map h ks)
counted_in g h each ks = sym (length-flat_map (λ xs. xs) (flat_map g ks)) ∙ ap length (parts_of_parts (λ xs. xs) g h each ks)

-- ---- what an item in front does

pub grows : {X : Type 0} (joins : List X → X → Bool) (group : List X) (x : X) (later : List X) → joins group x ≡ true → groups_from joins group (x ∷ later) ≡ groups_from joins (group ++ x ∷ []) later
grows joins group x later is = ap (λ b. cond b (groups_from joins (group ++ x ∷ []) later) (group ∷ groups_from joins (x ∷ []) later)) is

pub ends : {X : Type 0} (joins : List X → X → Bool) (group : List X) (x : X) (later : List X) → joins group x ≡ false → groups_from joins group (x ∷ later) ≡ group ∷ groups_of joins (x ∷ later)
ends joins group x later is = ap (λ b. cond b (groups_from joins (group ++ x ∷ []) later) (group ∷ groups_from joins (x ∷ []) later)) is

-- ---- the first group, item by item

-- the items before an index are in it
abbrev pub AreFirst : {X : Type 0} → (List X → X → Bool) → List X → ℕ → Type 0
AreFirst joins xs i = groups_of joins xs ≡ groups_from joins (take i xs) (drop i xs)

pub one_more : {X : Type 0} (joins : List X → X → Bool) (xs : List X) (i : ℕ) (d : X) → i < length xs → AreFirst joins xs i → joins (take i xs) (get_or xs i d) ≡ true → AreFirst joins xs (i + 1)
one_more joins xs i d low first is =
    first
    ∙ (ap (λ rest. groups_from joins (take i xs) rest) (drop_more xs i d low)
    ∙ (grows joins (take i xs) (get_or xs i d) (drop (i + 1) xs) is
    ∙ ap (λ group. groups_from joins group (drop (i + 1) xs)) (sym (take_more xs i d low))))

-- ---- groups that are written, one behind the other

-- the first group was written, and the others are left
pub one_written : {X : Type 0} (joins : List X → X → Bool) (write : List X → List ℕ) (old new all : List ℕ) (xs front behind : List X) → groups_of joins xs ≡ front ∷ groups_of joins behind
    → new ≡ old ++ write front → old ++ flat_map write (groups_of joins xs) ≡ all → new ++ flat_map write (groups_of joins behind) ≡ all
one_written joins write old new all xs front behind cut put kept =
    rw put (append_assoc old (write front) (flat_map write (groups_of joins behind)))
    ∙ (ap (λ gs. old ++ flat_map write gs) (sym cut) ∙ kept)

-- ---- what holds of each group

-- what holds of the group that is begun, and stays so as it grows, and holds of a next one
pub each_from : {X : Type 0} (joins : List X → X → Bool) (P : List X → Type 0)
    → ((g : List X) (x : X) → P g → joins g x ≡ true → P (g ++ x ∷ [])) → ((g : List X) (x : X) → P g → joins g x ≡ false → P (x ∷ []))
    → (group xs : List X) → P group → AllByRecursion P (groups_from joins group xs)
each_from joins P more next group [] here = (here, tt)
each_from joins P more next group (x ∷ later) here =
    chosen (λ gs. AllByRecursion P gs) (joins group x) (groups_from joins (group ++ x ∷ []) later) (group ∷ groups_from joins (x ∷ []) later)
    (λ is. each_from joins P more next (group ++ x ∷ []) later (more group x here is))
    (λ is. (here, each_from joins P more next (x ∷ []) later (next group x here is)))

-- none is empty
some_from : {X : Type 0} (joins : List X → X → Bool) (group xs : List X) → 0 < length group → AllByRecursion (λ g. 0 < length g) (groups_from joins group xs)
some_from joins group xs some =
    each_from joins (λ g. 0 < length g) (λ g x here is. omega (arith, length-append g (x ∷ []))) (λ g x here is. omega arith) group xs some

pub some : {X : Type 0} (joins : List X → X → Bool) (xs : List X) → AllByRecursion (λ g. 0 < length g) (groups_of joins xs)
some joins [] = tt
some joins (x ∷ later) = some_from joins (x ∷ []) later (omega arith)

-- ---- what holds of each item of a group and those before it

-- R holds of each of some items behind a front of them, and of all before it
abbrev InTurn : {X : Type 0} → (List X → X → Type 0) → List X → List X → Type 0
InTurn R front [] = Unit {0}
InTurn R front (x ∷ later) = R front x × InTurn R (front ++ x ∷ []) later

one_in_turn : {X : Type 0} (R : List X → X → Type 0) (front xs : List X) (x : X) → InTurn R front xs → R (front ++ xs) x → InTurn R front (xs ++ x ∷ [])
one_in_turn R front [] x each here = (subst (λ g. R g x) (append-nil front) here, tt)
one_in_turn R front (y ∷ ys) x each here = (each.0, one_in_turn R (front ++ y ∷ []) ys x each.1 (subst (λ g. R g x) (sym (append_assoc front (y ∷ []) ys)) here))

-- R holds of each item of a group but the first, and of all before it
abbrev pub EachInTurn : {X : Type 0} → (List X → X → Type 0) → List X → Type 0
EachInTurn R [] = Unit {0}
EachInTurn R (first ∷ later) = InTurn R (first ∷ []) later

pub each_in_turn_grows : {X : Type 0} (R : List X → X → Type 0) (group : List X) (x : X) → EachInTurn R group → R group x → EachInTurn R (group ++ x ∷ [])
each_in_turn_grows R [] x each here = tt
each_in_turn_grows R (first ∷ later) x each here = one_in_turn R (first ∷ []) later x each here

-- an item joins a group
abbrev pub Joins : {X : Type 0} → (List X → X → Bool) → List X → X → Type 0
Joins joins group x = joins group x ≡ true

pub each_joins : {X : Type 0} (joins : List X → X → Bool) (xs : List X) → AllByRecursion (EachInTurn (Joins joins)) (groups_of joins xs)
each_joins joins [] = tt
each_joins joins (x ∷ later) = each_from joins (EachInTurn (Joins joins)) (each_in_turn_grows (Joins joins)) (λ g x here is. tt) (x ∷ []) later tt

-- ---- by index

pub all_at : {X : Type 0} (P : X → Type 0) (xs : List X) (i : ℕ) (x : X) → AllByRecursion P xs → slice_get xs i ≡ Some x → P x
all_at P [] i x all is = absurd (none-some x is)
all_at P (y ∷ ys) zero x all is = subst P (same_Some y x is) all.0
all_at P (y ∷ ys) (suc i) x all is = all_at P ys i x all.1 is

behind_at : {X : Type 0} (R : List X → X → Type 0) (front xs : List X) (k : ℕ) (x : X) → InTurn R front xs → slice_get xs k ≡ Some x → R (front ++ take k xs) x
behind_at R front [] k x each is = absurd (none-some x is)
behind_at R front (y ∷ ys) zero x each is = subst (λ z. R (front ++ []) z) (same_Some y x is) (subst (λ g. R g y) (sym (append-nil front)) each.0)
behind_at R front (y ∷ ys) (suc k) x each is = subst (λ g. R g x) (append_assoc front (y ∷ []) (take k ys)) (behind_at R (front ++ y ∷ []) ys k x each.1 is)

pub in_turn_at : {X : Type 0} (R : List X → X → Type 0) (group : List X) (k : ℕ) (x : X) → EachInTurn R group → 0 < k → slice_get group k ≡ Some x → R (take k group) x
in_turn_at R [] k x each later is = absurd (none-some x is)
in_turn_at R (first ∷ more) zero x each later is = absurd (omega arith)
in_turn_at R (first ∷ more) (suc k) x each later is = behind_at R (first ∷ []) more k x each is

-- R holds of each item and each later one
abbrev pub Pairs : {X : Type 0} → (X → X → Type 0) → List X → Type 0
Pairs R [] = Unit {0}
Pairs R (x ∷ xs) = AllByRecursion (R x) xs × Pairs R xs

pub pair_at : {X : Type 0} (R : X → X → Type 0) (xs : List X) (i j : ℕ) (x y : X) → Pairs R xs → i < j → slice_get xs i ≡ Some x → slice_get xs j ≡ Some y → R x y
pair_at R [] i j x y pairs less is at = absurd (none-some x is)
pair_at R (z ∷ zs) zero zero x y pairs less is at = absurd (omega arith)
pair_at R (z ∷ zs) zero (suc j) x y pairs less is at = subst (λ w. R w y) (same_Some z x is) (all_at (R z) zs j y pairs.0 at)
pair_at R (z ∷ zs) (suc i) zero x y pairs less is at = absurd (omega arith)
pair_at R (z ∷ zs) (suc i) (suc j) x y pairs less is at = pair_at R zs i j x y pairs.1 (omega arith) is at

-- a number of each item, no less than a number and than that of each before it
abbrev pub Rises : {X : Type 0} → (X → ℕ) → ℕ → List X → Type 0
Rises f n [] = Unit {0}
Rises f n (x ∷ xs) = (n ≤ f x) × Rises f (f x) xs

pub rises : {X : Type 0} (f : X → ℕ) (n : ℕ) (xs : List X) → ((d : X) → 0 < length xs → n ≤ f (get_or xs 0 d)) → AllPairs (λ x y. f x ≤ f y) xs → Rises f n xs
rises f n [] low pairs = tt
rises f n (x ∷ later) low pairs =
    (low x (omega arith), rises f (f x) later (λ d here. pairs 0 1 d (omega arith) (omega arith)) (λ i j d less within. pairs (suc i) (suc j) d (omega arith) (omega arith)))

-- ---- items that stand each in one of some parts

-- how many keys pass
abbrev pub hits : {K : Type 0} → (K → Bool) → List K → ℕ
hits p [] = 0
hits p (k ∷ ks) = cond (p k) (1 + hits p ks) (hits p ks)

one_item : {K X : Type 0} (p : K → X → Bool) (x : X) (xs : List X) (ks : List K) → length (flat_map (λ k. filter (p k) (x ∷ xs)) ks) ≡ hits (λ k. p k x) ks + length (flat_map (λ k. filter (p k) xs) ks)
one_item p x xs [] = refl
one_item {X = X} p x xs (k ∷ ks) = pick (p k x) (filter (p k) xs) (flat_map (λ k. filter (p k) (x ∷ xs)) ks) (flat_map (λ k. filter (p k) xs) ks) (hits (λ k. p k x) ks) (one_item p x xs ks)
  where
    pick : (b : Bool) (here rest old : List X) (n : ℕ) → length rest ≡ n + length old → length (cond b (x ∷ here) here ++ rest) ≡ cond b (1 + n) n + length (here ++ old)
    pick true here rest old n is = omega (arith, length-append here rest, length-append here old, is)
    pick false here rest old n is = omega (arith, length-append here rest, length-append here old, is)

pub counted : {K X : Type 0} (p : K → X → Bool) (ks : List K) (xs : List X) → AllByRecursion (λ x. hits (λ k. p k x) ks ≡ 1) xs → length (flat_map (λ k. filter (p k) xs) ks) ≡ length xs
counted {K = K} {X = X} p ks [] each = none ks
  where
    none : (ks : List K) → length (flat_map (λ k. filter (p k) []) ks) ≡ 0
    none [] = refl
    none (k ∷ ks) = none ks
counted p ks (x ∷ xs) each = omega (arith, one_item p x xs ks, each.0, counted p ks xs each.1)
