-- Characters: an escaped text, character by character.
use Rattle.std.proofs.Common.{◌≡◌, ℕ, ◌+◌, ◌/◌, ◌≤◌, List, [], ◌∷◌, ◌++◌, Bool, true, false, cond, None, refl, sym, ap, ◌∙◌, append_assoc, append-nil, arith, inl, inr}
use Rattle.std.specs.Prelude.{unwrap_or}
use Rattle.std.proofs.lemmas.Bool.{cases_lt}
use Rattle.std.proofs.lemmas.Bool.Decides.{nat_tests}
use Rattle.std.proofs.lemmas.Grind.{flat_map-append}
use Rattle.std.proofs.lemmas.Str.{encode_ascii}
use lib.Utf8.{encode, next}
use Rattle.trace_svg.specs.elements.Escapes.{reference_of, escaped_byte, escaped}

-- what is not ASCII stays
pub no_reference : (b : ℕ) → 128 ≤ b → reference_of b ≡ None
no_reference b high = grind (arith, nat_tests)

high_byte : (b : ℕ) (rest : List ℕ) → 128 ≤ b → escaped (b ∷ rest) ≡ b ∷ escaped rest
high_byte b rest high = rw (no_reference b high) refl

-- bytes that stay, and one before them
before : (b : ℕ) (rest : List ℕ) → 128 ≤ b → escaped rest ≡ rest → escaped (b ∷ rest) ≡ b ∷ rest
before b rest high stays = high_byte b rest high ∙ ap (λ (l : List ℕ). b ∷ l) stays

either : (b : Bool) (x y : List ℕ) → escaped x ≡ x → escaped y ≡ y → escaped (cond b x y) ≡ cond b x y
either true x y ex ey = ex
either false x y ex ey = ey

encoded_high : (c : ℕ) → 128 ≤ c → escaped (encode c) ≡ encode c
unfolding encode
encoded_high c high =
    let low : (n : ℕ) → 128 ≤ next n = λ n. omega arith in
    either _ _ _ (before c [] high refl)
    (either _ _ _ (before (192 + c / 64) (next c ∷ []) (omega arith) (before (next c) [] (low c) refl))
    (either _ _ _ (before (224 + c / 4096) (next (c / 64) ∷ next c ∷ []) (omega arith) (before (next (c / 64)) (next c ∷ []) (low (c / 64)) (before (next c) [] (low c) refl)))
    (before (240 + c / 262144) (next (c / 4096) ∷ next (c / 64) ∷ next c ∷ []) (omega arith) (before (next (c / 4096)) (next (c / 64) ∷ next c ∷ []) (low (c / 4096)) (before (next (c / 64)) (next c ∷ []) (low (c / 64)) (before (next c) [] (low c) refl))))))

-- a character is escaped as a whole
escaped_char : (c : ℕ) → escaped (encode c) ≡ unwrap_or (reference_of c) (encode c)
escaped_char c =
    elim (cases_lt c 128) [
      | inl low ↦ rw (encode_ascii c low) (append-nil (escaped_byte c))
      | inr high ↦ rw (no_reference c high) (encoded_high c high)
    ]

-- a character was written behind what was written before
pub one_more : (c : ℕ) (all done rest left : List ℕ) → rest ≡ encode c ++ left → done ++ escaped rest ≡ escaped all
    → (done ++ unwrap_or (reference_of c) (encode c)) ++ escaped left ≡ escaped all
one_more c all done rest left cut kept =
    append_assoc done _ (escaped left)
    ∙ (ap (λ (l : List ℕ). done ++ (l ++ escaped left)) (sym (escaped_char c))
    ∙ (ap (λ (l : List ℕ). done ++ l) (sym (flat_map-append escaped_byte (encode c) left))
    ∙ (ap (λ (l : List ℕ). done ++ escaped l) (sym cut) ∙ kept)))
