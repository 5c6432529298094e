-- The first failing check of a list.
use Rattle.std.proofs.Common.{◌≡◌, true, List, [], ◌∷◌, ◌++◌, Option, None, refl, ◌∙◌, inl, inr}
use Rattle.std.proofs.lemmas.Bool.{cases_Bool}
use Rattle.std.specs.List.{AllByRecursion}
use Rattle.plan_read.specs.declared.faults.Place.{Place}
use Rattle.plan_read.specs.declared.faults.PlanFault.{PlanFault}
use Rattle.plan_read.specs.declared.faults.ReadError.{ReadError}
use Rattle.plan_read.specs.declared.faults.ReadError.TheVariants as errors
use Rattle.plan_read.specs.own.Walk.{Test, place_fault, ◌or_else◌}
use Rattle.plan_read.specs.own.Reads.{FailsWith}

-- the first failing check of two lists is that of the first list, and where it has none that of the second
pub place_fault-append : (p : Place) (xs ys : List Test) → place_fault p (xs ++ ys) ≡ (place_fault p xs or_else place_fault p ys)
place_fault-append p [] ys = refl
place_fault-append p (x ∷ xs) ys = elim (cases_Bool x.passes) [ inl t ↦ rw t (place_fault-append p xs ys) | inr f ↦ rw f refl ]

-- the checks before pass, so that those after them decide
pub goes_on : (p : Place) (xs ys : List Test) → place_fault p xs ≡ None → place_fault p (xs ++ ys) ≡ place_fault p ys
goes_on p xs ys h = rw (place_fault-append p xs ys, h) refl

-- a function stops at the first checks, and so at all of them
pub stops_here : (e : ReadError) (p : Place) (xs ys : List Test) → FailsWith e (place_fault p xs) → FailsWith e (place_fault p (xs ++ ys))
stops_here errors.Memory p xs ys h = tt
stops_here (errors.Fault e) p xs ys h = rw (place_fault-append p xs ys, h) refl

-- where no check fails, each passes
pub all_pass : (p : Place) (cs : List Test) → place_fault p cs ≡ None → AllByRecursion (λ c. c.passes ≡ true) cs
all_pass p [] h = tt
all_pass p (c ∷ cs) h = elim (cases_Bool c.passes) [ inl t ↦ (t, all_pass p cs (rw t at h)) | inr f ↦ absurd (let e = rw f at h in cc) ]

-- where each check passes, none fails
pub none_fails : (p : Place) (cs : List Test) → AllByRecursion (λ c. c.passes ≡ true) cs → place_fault p cs ≡ None
none_fails p [] h = refl
none_fails p (c ∷ cs) h = rw h.0 (none_fails p cs h.1)

-- the fault of the first place is that of both
pub first_decides : (e : ReadError) (here after : Option PlanFault) → FailsWith e here → FailsWith e (here or_else after)
first_decides errors.Memory here after h = tt
first_decides (errors.Fault e) here after h = rw h refl

-- where the first place has no fault the next one decides
pub next_decides : (here after : Option PlanFault) → here ≡ None → (here or_else after) ≡ after
next_decides here after h = rw h refl

-- of four lists of checks, one after the other, the second decides where the first passes
pub second : (e : ReadError) (p : Place) (a b c d : List Test) → place_fault p a ≡ None → FailsWith e (place_fault p b) → FailsWith e (place_fault p (a ++ b ++ c ++ d))
second e p a b c d x h = stops_here e p (a ++ b ++ c) d (stops_here e p (a ++ b) c (rw (goes_on p a b x) h))

-- the third list decides where the first two pass
pub third : (e : ReadError) (p : Place) (a b c d : List Test) → place_fault p a ≡ None → place_fault p b ≡ None → FailsWith e (place_fault p c) → FailsWith e (place_fault p (a ++ b ++ c ++ d))
third e p a b c d x y h = stops_here e p (a ++ b ++ c) d (rw (goes_on p (a ++ b) c (goes_on p a b x ∙ y)) h)

-- the last list decides where the first three pass
pub last : (p : Place) (a b c d : List Test) → place_fault p a ≡ None → place_fault p b ≡ None → place_fault p c ≡ None → place_fault p (a ++ b ++ c ++ d) ≡ place_fault p d
last p a b c d x y z = goes_on p (a ++ b ++ c) d (goes_on p (a ++ b) c (goes_on p a b x ∙ y) ∙ z)

-- it decides of what stops a function too
pub fourth : (e : ReadError) (p : Place) (a b c d : List Test) → place_fault p a ≡ None → place_fault p b ≡ None → place_fault p c ≡ None → FailsWith e (place_fault p d)
    → FailsWith e (place_fault p (a ++ b ++ c ++ d))
fourth e p a b c d x y z h = rw (last p a b c d x y z) h

-- each of two lists passes
pub parts : (p : Place) (a b : List Test) → place_fault p (a ++ b) ≡ None → (place_fault p a ≡ None) × (place_fault p b ≡ None)
parts p [] b h = (refl, h)
parts p (c ∷ a) b h = elim (cases_Bool c.passes) [ inl t ↦ (let r = parts p a b (rw t at h) in (rw t r.0, r.1)) | inr f ↦ absurd (let e = rw f at h in cc) ]

-- the first list decides where a check of it fails
pub first : (e : ReadError) (p : Place) (a b c d : List Test) → FailsWith e (place_fault p a) → FailsWith e (place_fault p (a ++ b ++ c ++ d))
first e p a b c d h = stops_here e p (a ++ b ++ c) d (stops_here e p (a ++ b) c (stops_here e p a b h))
