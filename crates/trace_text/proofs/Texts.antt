-- Texts: parts of lists of bytes, and lines in front of them.
use Rattle.std.proofs.Common.{◌≡◌, ◌≢◌, ℕ, ◌+◌, ◌<◌, List, [], ◌∷◌, ◌++◌, take, drop, length, get_or, ap, ◌∙◌, sym, arith, append_assoc, append-nil, length-append}
use Rattle.std.proofs.lemmas.List.{take-append-drop, take-take, drop-take}
use Rattle.std.proofs.lemmas.List.Elements.{All-head, All-tail}
use Rattle.trace_text.specs.Spelling.{IsLine}

-- m bytes, and then n bytes, are m + n bytes
pub take_add : (m n : ℕ) (xs : List ℕ) → take m xs ++ take n (drop m xs) ≡ take (m + n) xs
take_add m n xs =
    let front : take m xs ≡ take m (take (m + n) xs) = sym (take-take m (m + n) xs (omega arith)) in
    let rest : take n (drop m xs) ≡ drop m (take (m + n) xs) = sym (drop-take m n xs) in
    ap (λ l. l ++ take n (drop m xs)) front ∙ ap (λ l. take m (take (m + n) xs) ++ l) rest ∙ take-append-drop m (take (m + n) xs)

-- no newline stands within a line
pub no_end : (a b x y : List ℕ) → IsLine a → length b < length a → a ++ x ≡ b ++ 10 ∷ y → ⊥
no_end [] b x y p l e = absurd (omega arith)
no_end (c ∷ a) [] x y p l e = All-head (λ z. z ≢ 10) c a p (ap (λ l. get_or l 0 0) e)
no_end (c ∷ a) (d ∷ b) x y p l e = no_end a b x y (All-tail (λ z. z ≢ 10) c a p) (omega arith) (ap (drop 1) e)

-- a line with its newline, before more
pub with_end : (line rest : List ℕ) → (line ++ 10 ∷ []) ++ rest ≡ line ++ 10 ∷ rest
with_end line rest = append_assoc line (10 ∷ []) rest

-- bytes with no newline begin with no line
pub no_line : (all other tail : List ℕ) → IsLine all → all ≡ (other ++ 10 ∷ []) ++ tail → ⊥
no_line all other tail p same =
    let split : all ≡ other ++ 10 ∷ tail = same ∙ with_end other tail in
    no_end all other [] tail p (omega (arith, ap length split, length-append other (10 ∷ tail))) (append-nil all ∙ split)
