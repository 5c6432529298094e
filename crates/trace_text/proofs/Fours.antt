-- Fours: words whose first four bytes are compared at once, or their first and their last four.
use Rattle.std.proofs.Common.{◌≡◌, ℕ, ◌+◌, ◌-◌, ◌<◌, ◌≤◌, List, ◌++◌, take, drop, length, get_or, ap, ◌∙◌, sym, refl, arith, inl, inr, append_assoc, take-append-drop}
use Rattle.std.specs.Int.{w32, from_le_bytes, to_le_bytes}
use Rattle.std.proofs.lemmas.Nat.{le_bytes_4}
use Rattle.std.proofs.lemmas.Bool.{cases_lt}
use Rattle.std.proofs.lemmas.List.{get_or-take, get_or_past, get_or-drop, length-take, length-drop, take_all, take-take, drop-drop, drop-append-le}

-- bytes are below 256
abbrev pub AreBytes : List ℕ → Type 0
AreBytes bytes = (i : ℕ) → get_or bytes i 0 < 256

front_are_bytes : (bytes : List ℕ) → AreBytes bytes → AreBytes (take 4 bytes)
front_are_bytes bytes all i =
    elim (cases_lt i 4) [
      | inl less ↦ omega (arith, all i, get_or-take 4 bytes i 0 less)
      | inr past ↦ omega (arith, get_or_past (take 4 bytes) i 0 (omega (arith, past, length-take 4 bytes)))
    ]

-- so are those from a place on
pub back_are_bytes : (bytes : List ℕ) (k : ℕ) → AreBytes bytes → AreBytes (drop k bytes)
back_are_bytes bytes k all i = omega (arith, all (k + i), get_or-drop k bytes i 0)

-- four bytes that make the same number are the same
pub same_four : (xs ys : List ℕ) → 4 ≤ length xs → 4 ≤ length ys → AreBytes xs → AreBytes ys → from_le_bytes w32 (take 4 xs) ≡ from_le_bytes w32 (take 4 ys) → take 4 xs ≡ take 4 ys
same_four xs ys l m p q h =
    sym (le_bytes_4 (take 4 xs) (from_le_bytes w32 (take 4 xs)) (omega (arith, l, length-take 4 xs)) (front_are_bytes xs p) refl)
    ∙ (ap (to_le_bytes w32) h ∙ le_bytes_4 (take 4 ys) (from_le_bytes w32 (take 4 ys)) (omega (arith, m, length-take 4 ys)) (front_are_bytes ys q) refl)

-- a word whose first four bytes stand at the front of some bytes, and its others behind them, stands there
pub word_there : (bytes word rest : List ℕ) → take 4 bytes ≡ take 4 word → drop 4 bytes ≡ drop 4 word ++ rest → bytes ≡ word ++ rest
word_there bytes word rest first others =
    sym (take-append-drop 4 bytes)
    ∙ (ap (λ l. l ++ drop 4 bytes) first ∙ (ap (λ l. take 4 word ++ l) others ∙ (sym (append_assoc (take 4 word) (drop 4 word) rest) ∙ ap (λ l. l ++ rest) (take-append-drop 4 word))))

-- and its others stand behind them
pub others_there : (bytes word rest : List ℕ) → 4 ≤ length word → bytes ≡ word ++ rest → drop 4 bytes ≡ drop 4 word ++ rest
others_there bytes word rest long h = ap (drop 4) h ∙ drop-append-le 4 word rest long

-- a word of four to eight bytes, whose first four and last four stand where it has them, stands at the front
pub ends_there : (bytes word : List ℕ) (n : ℕ) → length word ≡ n → 4 ≤ n → n ≤ 8 → take 4 bytes ≡ take 4 word → take 4 (drop (n - 4) bytes) ≡ take 4 (drop (n - 4) word) → bytes ≡ word ++ drop n bytes
ends_there bytes word n size long short first last =
    let k = n - 4 in
    let front : take k bytes ≡ take k word = sym (take-take k 4 bytes (omega arith)) ∙ (ap (take k) first ∙ take-take k 4 word (omega arith)) in
    let back : take 4 (drop k bytes) ≡ drop k word = last ∙ take_all 4 (drop k word) (omega (arith, size, length-drop k word)) in
    let rest : drop 4 (drop k bytes) ≡ drop n bytes = drop-drop 4 k bytes ∙ ap (λ m. drop m bytes) {x = k + 4} {y = n} (omega (arith, long)) in
    sym (take-append-drop k bytes)
    ∙ (ap (λ l. l ++ drop k bytes) front
    ∙ (ap (λ l. take k word ++ l) (sym (take-append-drop 4 (drop k bytes)) ∙ (ap (λ l. l ++ drop 4 (drop k bytes)) back ∙ ap (λ l. drop k word ++ l) rest))
    ∙ (sym (append_assoc (take k word) (drop k word) (drop n bytes)) ∙ ap (λ l. l ++ drop n bytes) (take-append-drop k word))))
