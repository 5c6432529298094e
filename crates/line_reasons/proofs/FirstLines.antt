-- The line at the front of some bytes.
use Rattle.std.proofs.Common.{◌≢◌, ℕ, ◌+◌, ◌<◌, ◌≤◌, List, [], ◌∷◌, ◌++◌, take, drop, length, get_or, refl, sym, ap, ◌∙◌, subst, arith, inl, inr, append-nil}
use Rattle.std.proofs.lemmas.Bool.{eq-eqb, eqb-true}
use Rattle.std.proofs.lemmas.List.{get_or-take, length-take, take-append-drop, take_all, take_more}
use Rattle.std.proofs.lemmas.List.Elements.{All-from_get_or}
use Rattle.memchr.specs.Find.{Nowhere, Passes, is_byte}
use Rattle.trace_text.specs.Spelling.{IsLine}
use Rattle.line_reasons.specs.Texts.{IsFirstLine}

-- bytes before which no newline was found
line_before : (bytes : List ℕ) (n : ℕ) → n ≤ length bytes → Nowhere (Passes (is_byte 10) bytes) 0 n → IsLine (take n bytes)
line_before bytes n within none = All-from_get_or (λ b. b ≢ 10) (take n bytes) 0 (λ i below is.
    let small : i < n = omega (arith, below, length-take n bytes, within) in
    none i (omega arith) small (eq-eqb (get_or bytes i 0) 10 (sym (get_or-take n bytes i 0 small) ∙ is)))

-- where a newline was found, the line ends with it
pub ended_line : (bytes : List ℕ) (n : ℕ) → n < length bytes → Nowhere (Passes (is_byte 10) bytes) 0 n → Passes (is_byte 10) bytes n → IsFirstLine (take (n + 1) bytes) bytes
ended_line bytes n within none found = (
  drop (n + 1) bytes,
  sym (take-append-drop (n + 1) bytes),
  inl (take n bytes, line_before bytes n (omega (arith, within)) none, take_more bytes n 0 within ∙ ap (λ b. take n bytes ++ b ∷ []) (eqb-true (get_or bytes n 0) 10 found)),
)

-- where none was found, all bytes are the line
pub whole_line : (bytes : List ℕ) → Nowhere (Passes (is_byte 10) bytes) 0 (length bytes) → IsFirstLine bytes bytes
whole_line bytes none = ([], sym (append-nil bytes), inr (subst IsLine (take_all (length bytes) bytes (omega arith)) (line_before bytes (length bytes) (omega arith) none), refl))
