-- The reading of several units: the first that is none decides.
use Rattle.std.proofs.Common.{◌≡◌, Bool, true, false, ◌&&◌, [], ◌∷◌, refl, inl, inr}
use Rattle.std.proofs.lemmas.Bool.{cases_Bool}
use Rattle.plan_read.specs.declared.faults.Place.{Place}
use Rattle.plan_read.specs.declared.faults.PlanFaultKind.TheVariants.{BadUnit}
use Rattle.plan_read.specs.declared.faults.ReadError.{ReadError}
use Rattle.plan_read.specs.declared.faults.ReadError.TheVariants as errors
use Rattle.plan_read.specs.own.Reads.{FailsWith}
use Rattle.plan_read.specs.own.Walk.{◌barring◌, place_fault}

-- where a test fails if another does, what stops a function at the one stops it at the other
pub halts : (e : ReadError) (p : Place) (one all : Bool) → (one ≡ false → all ≡ false) → FailsWith e (place_fault p ((BadUnit barring one) ∷ [])) → FailsWith e (place_fault p ((BadUnit barring all) ∷ []))
halts errors.Memory p one all fails h = tt
halts (errors.Fault e) p one all fails h =
    elim (cases_Bool one) [
      | inl t ↦ absurd (let g = rw t at h in cc)
      | inr f ↦ rw (fails f) (rw f at h)
    ]

first_fails : (a b : Bool) → a ≡ false → (a && b) ≡ false
first_fails true b h = absurd (cc)
first_fails false b h = refl

second_fails : (a b : Bool) → b ≡ false → (a && b) ≡ false
second_fails true b h = h
second_fails false b h = refl

-- five tests of which one fails
module _ (a b c d e : Bool) where
  abbrev all_five : Bool
  all_five = a && (b && (c && (d && (e && true))))

  pub if_second : b ≡ false → all_five ≡ false
  if_second h = second_fails a _ (first_fails b _ h)

  pub if_third : c ≡ false → all_five ≡ false
  if_third h = second_fails a _ (second_fails b _ (first_fails c _ h))

  pub if_fourth : d ≡ false → all_five ≡ false
  if_fourth h = second_fails a _ (second_fails b _ (second_fails c _ (first_fails d _ h)))

  pub if_fifth : e ≡ false → all_five ≡ false
  if_fifth h = second_fails a _ (second_fails b _ (second_fails c _ (second_fails d _ (first_fails e _ h))))
