-- Ranges: parts of a buffer, and a front in two parts.
use Rattle.std.proofs.Common.{◌≡◌, ℕ, ◌+◌, ◌-◌, ◌≤◌, List, ◌++◌, take, drop, length, ap, ◌∙◌, sym, arith, length-drop, take-add}
use lib.Seq.{paste}
use Rattle.std.proofs.Math.Seq.{take-append-add}
use Rattle.std.proofs.lemmas.List.{length-take-le, drop-take, drop-drop, take_rest, take-append-le}
use Rattle.std.proofs.lemmas.List.Edits.{take-paste}

-- a range without its first n bytes is the range that begins n bytes later
pub range_skip : (xs : List ℕ) (from to n : ℕ) → n ≤ to - from → take (to - (from + n)) (drop (from + n) xs) ≡ drop n (take (to - from) (drop from xs))
range_skip xs from to n within =
    let size : to - from ≡ n + (to - (from + n)) = omega arith in
    ap (take (to - (from + n))) (sym (drop-drop n from xs)) ∙ sym (drop-take n (to - (from + n)) (drop from xs)) ∙ ap (λ k. drop n (take k (drop from xs))) (sym size)

-- the same where the second part is taken of the slice that begins behind the first
pub take_next : (at n : ℕ) (xs : List ℕ) → take at xs ++ take n (take (length xs - at) (drop at xs)) ≡ take (at + n) xs
take_next at n xs = ap (λ l. take at xs ++ take n l) (take_rest xs at) ∙ sym (take-add at n xs)

-- a range was moved to the front of its buffer, and n bytes were read behind it
pub refill : (old moved read post : List ℕ) (from to n : ℕ) → from ≤ to → to ≤ length old → moved ≡ paste old 0 (drop from old) (to - from) → length moved ≡ length old → n ≤ length read
    → take (to - from + n) (take (to - from) moved ++ (read ++ post)) ≡ take (to - from) (drop from old) ++ take n read
refill old moved read post from to n low high is same within =
    let k = to - from in
    let zero_on : k ≡ 0 + k = omega arith in
    let front : take k moved ≡ take k (drop from old) =
    ap (take k) is ∙ ap (λ q. take q (paste old 0 (drop from old) k)) zero_on ∙ take-paste old 0 (drop from old) k (omega arith) (omega (arith, length-drop from old)) in
    let long : length (take k moved) ≡ k = length-take-le k moved (omega arith) in
    ap (λ q. take (q + n) (take k moved ++ (read ++ post))) (sym long) ∙ take-append-add (take k moved) (read ++ post) n
    ∙ ap (λ l. take k moved ++ l) (take-append-le n read post within) ∙ ap (λ l. l ++ take n read) front
