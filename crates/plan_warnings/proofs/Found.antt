-- An element of a list that passes a test, and a call of a plan whose place does.
use Rattle.std.proofs.Common.{◌≡◌, ◌∙◌, ◌⊎◌, inl, inr, ℕ, zero, suc, ◌+◌, Bool, true, false, ◌||◌, List, [], ◌∷◌, ◌++◌, length, Some, refl, sym, ap, subst, arith, append_assoc, append-nil}
use Rattle.std.specs.Prelude.{slice_get}
use Rattle.std.specs.List.{list_any}
use Rattle.std.proofs.lemmas.Bool.{false≢true, or_cases}
use Rattle.std.proofs.lemmas.List.Folds.{list_any-append}
use Rattle.plan_read.specs.declared.plans.Call.{Call}
use Rattle.plan_read.specs.Plans.{BlockTree, PlanTree}
use Rattle.plan_warnings.specs.Places.{PlaceTree, place_of, places_in, places_from, some_block_shuts_down}
use Rattle.plan_warnings.proofs.Steps.{bool_cases}

-- ---- lists

-- an element of a list that passes a test
pub record Passes {X : Type 0} (test : X → Bool) (xs : List X) : Type 0 where
  pub front : List X
  pub x : X
  pub back : List X
  pub parts : xs ≡ front ++ x ∷ back
  pub passes : test x ≡ true

pub any_passes : {X : Type 0} (test : X → Bool) (xs : List X) → list_any test xs ≡ true → Passes test xs
any_passes test [] q = absurd (false≢true q)
any_passes test (x ∷ xs) q = elim (bool_cases (test x)) [
  | inl e ↦ record { front = []; x = x; back = xs; parts = refl; passes = e }
  | inr e ↦
      let s = any_passes test xs (subst (λ b. (b || list_any test xs) ≡ true) e q) in
      record { front = x ∷ s.front; x = s.x; back = s.back; parts = ap (λ ys. x ∷ ys) s.parts; passes = s.passes }
]

-- the element at a place, with those before it and behind it
pub get_parts : {X : Type 0} (xs : List X) (i : ℕ) (x : X) → slice_get xs i ≡ Some x → (front : List X) × (back : List X) × (xs ≡ front ++ x ∷ back) × (length front ≡ i)
get_parts [] i x q = absurd cc
get_parts (y ∷ xs) zero x q = let e : y ≡ x = cc in ([], xs, ap (λ z. z ∷ xs) e, refl)
get_parts (y ∷ xs) (suc i) x q = let r = get_parts xs i x q in (y ∷ r.0, r.1, ap (λ ys. y ∷ ys) r.2, ap suc r.3)

-- a list is parted at one place in one way
pub parts_alike : {X : Type 0} (xs : List X) (x : X) (ys zs : List X) (z : X) (ws : List X) → xs ++ x ∷ ys ≡ zs ++ z ∷ ws → length xs ≡ length zs → (xs ≡ zs) × (x ≡ z)
parts_alike [] x ys [] z ws e l = (refl, cc)
parts_alike [] x ys (w ∷ zs) z ws e l = absurd (omega (arith, l))
parts_alike (y ∷ xs) x ys [] z ws e l = absurd (omega (arith, l))
parts_alike (y ∷ xs) x ys (w ∷ zs) z ws e l =
    let tails : xs ++ x ∷ ys ≡ zs ++ z ∷ ws = cc in
    let heads : y ≡ w = cc in
    let r = parts_alike xs x ys zs z ws tails (omega (arith, l)) in
    (ap (λ v. v ∷ xs) heads ∙ ap (λ vs. w ∷ vs) r.0, r.1)

-- ---- places

-- a call of a block whose place passes a test
record FoundCall (test : PlaceTree → Bool) (number : ℕ) (shut : Bool) (b : BlockTree) (before cs : List Call) : Type 0 where
  front : List Call
  call : Call
  back : List Call
  parts : cs ≡ front ++ call ∷ back
  passes : test (place_of number shut b (before ++ front) call) ≡ true

found_in : (test : PlaceTree → Bool) (number : ℕ) (shut : Bool) (b : BlockTree) (before cs : List Call) → list_any test (places_in number shut b before cs) ≡ true → FoundCall test number shut b before cs
found_in test number shut b before [] q = absurd (false≢true q)
found_in test number shut b before (c ∷ cs) q = elim (or_cases (test (place_of number shut b before c)) (list_any test (places_in number shut b (before ++ c ∷ []) cs)) q) [
  | inl e ↦ record {
    front = [];
    call = c;
    back = cs;
    parts = refl;
    passes = subst (λ (ds : List Call). test (place_of number shut b ds c) ≡ true) (sym (append-nil before)) e;
  }
  | inr e ↦
      let f = found_in test number shut b (before ++ c ∷ []) cs e in
      record {
        front = c ∷ f.front;
        call = f.call;
        back = f.back;
        parts = ap (λ (ds : List Call). c ∷ ds) f.parts;
        passes = subst (λ (ds : List Call). test (place_of number shut b ds f.call) ≡ true) (append_assoc before (c ∷ []) f.front) f.passes;
      }
]

-- a call of some blocks, behind others, whose place passes a test
pub record FoundPlace (test : PlaceTree → Bool) (earlier bs : PlanTree) : Type 0 where
  pub front : PlanTree
  pub block : BlockTree
  pub back : PlanTree
  pub before : List Call
  pub call : Call
  pub behind : List Call
  pub in_plan : bs ≡ front ++ block ∷ back
  pub in_block : block.calls ≡ before ++ call ∷ behind
  pub passes : test (place_of (length (earlier ++ front)) (some_block_shuts_down (earlier ++ front)) block before call) ≡ true

pub found_from : (test : PlaceTree → Bool) (earlier bs : PlanTree) → list_any test (places_from earlier bs) ≡ true → FoundPlace test earlier bs
found_from test earlier [] q = absurd (false≢true q)
found_from test earlier (b ∷ bs) q =
    let mine = places_in (length earlier) (some_block_shuts_down earlier) b [] b.calls in
    let rest = places_from (earlier ++ b ∷ []) bs in
    elim (or_cases (list_any test mine) (list_any test rest) (sym (list_any-append test mine rest) ∙ q)) [
      | inl e ↦
          let f = found_in test (length earlier) (some_block_shuts_down earlier) b [] b.calls e in
          record {
            front = [];
            block = b;
            back = bs;
            before = f.front;
            call = f.call;
            behind = f.back;
            in_plan = refl;
            in_block = f.parts;
            passes = subst (λ (ds : PlanTree). test (place_of (length ds) (some_block_shuts_down ds) b f.front f.call) ≡ true) (sym (append-nil earlier)) f.passes;
          }
      | inr e ↦
          let f = found_from test (earlier ++ b ∷ []) bs e in
          record {
            front = b ∷ f.front;
            block = f.block;
            back = f.back;
            before = f.before;
            call = f.call;
            behind = f.behind;
            in_plan = ap (λ (ds : PlanTree). b ∷ ds) f.in_plan;
            in_block = f.in_block;
            passes = subst (λ (ds : PlanTree). test (place_of (length ds) (some_block_shuts_down ds) f.block f.before f.call) ≡ true) (append_assoc earlier (b ∷ []) f.front) f.passes;
          }
    ]
