-- Tests of a walk that agree with the checks of a place, one by one.
use Rattle.std.proofs.Common.{◌≡◌, ℕ, true, List, [], ◌∷◌, ◌++◌, None, Some, refl, sym, ◌∙◌, ap, inl, inr}
use Rattle.std.proofs.lemmas.Bool.{cases_Bool}
use Rattle.plan_read.specs.declared.faults.Place.{Place}
use Rattle.plan_read.specs.declared.faults.PlanFault.{PlanFault}
use Rattle.plan_read.specs.declared.faults.PlanFaultKind.{PlanFaultKind}
use Rattle.plan_read.specs.Checks.{Check, Passes, FailsAt, FailsBehind, IsFaultOf}
use Rattle.plan_read.specs.own.Walk.{Test, place_fault}

-- ---- one check more

-- a value that passes some checks and one more
pub passes_one_more : {X : Type 0} (before : List (Check X)) (c : Check X) (x : X) → Passes before x → c.Holds x → Passes (before ++ c ∷ []) x
passes_one_more [] c x p h = (h, tt)
passes_one_more (b ∷ before) c x p h = (p.0, passes_one_more before c x p.1 h)

-- and the other way
pub passed_one_more : {X : Type 0} (before : List (Check X)) (c : Check X) (x : X) → Passes (before ++ c ∷ []) x → Passes before x × c.Holds x
passed_one_more [] c x p = (tt, p.0)
passed_one_more (b ∷ before) c x p = let r = passed_one_more before c x p.1 in ((p.0, r.0), r.1)

-- ---- tests that agree with checks

-- behind the checks `before`, each test is of the same kind as its check; it passes where the check holds of a value that passes those
-- before; and where it passes the check holds of `v`
abbrev pub Agree : {X : Type 0} → X → List (Check X) → List Test → List (Check X) → Type 0
Agree v before [] [] = Unit {0}
Agree v before [] (c ∷ cs) = ⊥
Agree v before (t ∷ ts) [] = ⊥
Agree {X} v before (t ∷ ts) (c ∷ cs) =
    (t.kind ≡ c.kind)
    × (Passes before v → t.passes ≡ true → c.Holds v)
    × ((x : X) → Passes before x → c.Holds x → t.passes ≡ true)
    × Agree v (before ++ c ∷ []) ts cs

-- where no test fails, the value passes the checks
pub agree_passes : {X : Type 0} (p : Place) (v : X) (before : List (Check X)) (ts : List Test) (cs : List (Check X)) → Agree v before ts cs → Passes before v
    → place_fault p ts ≡ None → Passes cs v
agree_passes p v before [] [] a b none = tt
agree_passes p v before [] (c ∷ cs) a b none = absurd a
agree_passes p v before (t ∷ ts) [] a b none = absurd a
agree_passes p v before (t ∷ ts) (c ∷ cs) a b none =
    elim (cases_Bool t.passes) [
      | inl held ↦ (
          let h = a.1 b held in
          (h, agree_passes p v (before ++ c ∷ []) ts cs a.3 (passes_one_more before c v b h) (rw held at none)))
      | inr failed ↦ absurd (let e = rw failed at none in cc)
    ]

-- where a value passes the checks, no test fails
pub agree_none : {X : Type 0} (p : Place) (v : X) (before : List (Check X)) (ts : List Test) (cs : List (Check X)) → Agree v before ts cs → (x : X) → Passes before x → Passes cs x
    → place_fault p ts ≡ None
agree_none p v before [] [] a x b h = refl
agree_none p v before [] (c ∷ cs) a x b h = absurd a
agree_none p v before (t ∷ ts) [] a x b h = absurd a
agree_none p v before (t ∷ ts) (c ∷ cs) a x b h = rw (a.2 x b h.0) (agree_none p v (before ++ c ∷ []) ts cs a.3 x (passes_one_more before c x b h.0) h.1)

-- the first test that fails is the first check that no value passes
pub agree_fails : {X : Type 0} (p : Place) (v : X) (before : List (Check X)) (ts : List Test) (cs : List (Check X)) (fault : PlanFault) → Agree v before ts cs → Passes before v
    → place_fault p ts ≡ Some fault → FailsBehind before cs fault.kind × (fault.block ≡ p.block) × (fault.call ≡ p.call)
agree_fails p v before [] [] fault a b some = absurd (cc)
agree_fails p v before [] (c ∷ cs) fault a b some = absurd a
agree_fails p v before (t ∷ ts) [] fault a b some = absurd a
agree_fails {X} p v before (t ∷ ts) (c ∷ cs) fault a b some =
    elim (cases_Bool t.passes) [
      | inl held ↦ (
          let h = a.1 b held in
          let r = agree_fails p v (before ++ c ∷ []) ts cs fault a.3 (passes_one_more before c v b h) (rw held at some) in
          (inr r.0, r.1, r.2))
      | inr failed ↦ (
          let told : Some (record { kind = t.kind; block = p.block; call = p.call }) ≡ Some fault = rw failed at some in
          let is : record { kind = t.kind; block = p.block; call = p.call } ≡ fault = cc in
          let stops : (x : X) → Passes before x → c.Holds x → ⊥ = λ x q h. (let e = sym (a.2 x q h) ∙ failed in absurd (cc)) in
          (inl (ap (λ (f : PlanFault). f.kind) (sym is) ∙ a.0, record { passed = (v, b); stopped = stops }), ap (λ (f : PlanFault). f.block) (sym is), ap (λ (f : PlanFault). f.call) (sym is)))
    ]

-- the fault of a place
pub fault_of : {X : Type 0} (p : Place) (v : X) (ts : List Test) (cs : List (Check X)) (fault : PlanFault) → Agree v [] ts cs → place_fault p ts ≡ Some fault
    → IsFaultOf cs p.block p.call fault
fault_of p v ts cs fault a some = agree_fails p v [] ts cs fault a tt some

-- ---- what fails does not pass, and fails once

-- no value passes checks that fail
pub never_passes : {X : Type 0} (before cs : List (Check X)) (kind : PlanFaultKind) (x : X) → FailsBehind before cs kind → Passes before x → Passes cs x → ⊥
never_passes before [] kind x f b h = f
never_passes before (c ∷ cs) kind x (inl here) b h = here.1.stopped x b h.0
never_passes before (c ∷ cs) kind x (inr later) b h = never_passes (before ++ c ∷ []) cs kind x later (passes_one_more before c x b h.0) h.1

-- a value passes the checks before the one that fails
reaches : {X : Type 0} (before cs : List (Check X)) (kind : PlanFaultKind) → FailsBehind before cs kind → (x : X) × Passes before x
reaches before [] kind f = absurd f
reaches before (c ∷ cs) kind (inl here) = here.1.passed
reaches before (c ∷ cs) kind (inr later) = let r = reaches (before ++ c ∷ []) cs kind later in (r.0, (passed_one_more before c r.0 r.1).0)

-- it passes the first of them
passes_first : {X : Type 0} (before cs : List (Check X)) (c : Check X) (kind : PlanFaultKind) → FailsBehind (before ++ c ∷ []) cs kind → FailsAt before c → ⊥
passes_first before cs c kind later here =
    let r = reaches (before ++ c ∷ []) cs kind later in
    let q = passed_one_more before c r.0 r.1 in
    here.stopped r.0 q.0 q.1

-- checks fail once
pub fails_once : {X : Type 0} (before cs : List (Check X)) (kind other : PlanFaultKind) → FailsBehind before cs kind → FailsBehind before cs other → kind ≡ other
fails_once before [] kind other f g = absurd f
fails_once before (c ∷ cs) kind other (inl f) (inl g) = f.0 ∙ sym g.0
fails_once before (c ∷ cs) kind other (inl f) (inr g) = absurd (passes_first before cs c other g f.1)
fails_once before (c ∷ cs) kind other (inr f) (inl g) = absurd (passes_first before cs c kind f g.1)
fails_once before (c ∷ cs) kind other (inr f) (inr g) = fails_once (before ++ c ∷ []) cs kind other f g

-- a place has one fault
pub one_fault : {X : Type 0} (cs : List (Check X)) (block call : ℕ) (fault other : PlanFault) → IsFaultOf cs block call fault → IsFaultOf cs block call other → fault ≡ other
one_fault cs block call fault other f g = rw (fails_once [] cs fault.kind other.kind f.0 g.0, f.1, g.1, f.2, g.2) refl
