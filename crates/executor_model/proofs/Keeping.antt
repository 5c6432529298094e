-- Which answers leave a kept task kept.
use Rattle.std.proofs.Common.{◌≡◌, ℕ, ◌&&◌, ◌||◌, Bool, true, false, refl, ap, ◌∙◌}
use Rattle.std.specs.Prelude.{not}
use Rattle.executor_model.specs.declared.types.Answer.{Answer}
use Rattle.executor_model.specs.declared.types.Answer.TheVariants as a
use Rattle.executor_model.specs.View.{View, is_waiting}
use Rattle.executor_model.specs.Histories.{is_sweep, meets, is_cancel, kept_after}

kept_when : (sweep met cancels waits kept : Bool) → sweep ≡ false → met ≡ false → cancels ≡ false → (not sweep && ((kept && not met) || (cancels && waits))) ≡ kept
kept_when sweep met cancels waits kept s m c = (λ i. not (s i) && ((kept && not (m i)) || (c i && waits))) ∙ same kept
  where
    same : (b : Bool) → ((b && true) || false) ≡ b
    same true = refl
    same false = refl

-- an answer that is no sweep, meets no kept task and cancels none leaves task k kept or not
pub kept_stays : (v : View) (k : ℕ) (answer : Answer) → is_sweep v.shut answer ≡ false → meets v (v.fate k).due k answer ≡ false → is_cancel k answer ≡ false → kept_after v k answer ≡ (v.fate k).kept
kept_stays v k answer sweep met cancels = kept_when (is_sweep v.shut answer) (meets v (v.fate k).due k answer) (is_cancel k answer) (is_waiting (v.fate k) && not v.policies.removes) (v.fate k).kept sweep met cancels

-- after a sweep no task is kept
pub kept_swept : (v : View) (k : ℕ) (answer : Answer) → is_sweep v.shut answer ≡ true → kept_after v k answer ≡ false
kept_swept v k answer sweep = ap (λ b. not b && (((v.fate k).kept && not (meets v (v.fate k).due k answer)) || (is_cancel k answer && (is_waiting (v.fate k) && not v.policies.removes)))) sweep

-- nor after a purge
pub kept_purged : (v : View) (k : ℕ) → kept_after v k a.Purge ≡ false
kept_purged v k = none (v.fate k).kept
  where
    none : (b : Bool) → ((b && false) || false) ≡ false
    none true = refl
    none false = refl
