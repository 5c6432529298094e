-- Words that are not equal.
use Rattle.std.proofs.Common.{◌≡◌, ◌≢◌, ℕ, false, List, bytes_eq, inl, inr}
use Rattle.std.proofs.lemmas.Bool.{cases_Bool}
use Rattle.std.proofs.lemmas.Slice.Eq.{bytes_eq-Decides}

-- the test of two words that differ says so
pub differs : (v w : List ℕ) → v ≢ w → bytes_eq v w ≡ false
differs v w other = elim (cases_Bool (bytes_eq v w)) [ inl t ↦ absurd (other ((bytes_eq-Decides v w).0 t)) | inr f ↦ f ]
