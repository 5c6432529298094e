-- Frames: their bytes are no zeros, and the first ones tell the length.
use Rattle.std.proofs.Common.{◌≡◌, ◌≢◌, ℕ, zero, suc, ◌+◌, ◌*◌, ◌/◌, ◌%◌, ◌<◌, ◌≤◌, List, [], ◌∷◌, ◌++◌, length, refl, ap, sym, ◌∙◌, subst, arith, length-append, append_assoc, take, ◌-◌}
use Rattle.std.specs.Prelude.{slice_index, slice_set}
use Rattle.std.proofs.lemmas.List.{take_more_set, length-set}
use Rattle.sqlite_disk.specs.Digest.{digest}
use Rattle.line_journal.specs.Groups.{sevens, frame, length_told, IsGroup}

pub length-sevens : (k n : ℕ) → length (sevens k n) ≡ k
length-sevens zero n = refl
length-sevens (suc k) n = ap suc (length-sevens k (n / 128))

pub length-frame : (group : List ℕ) → length (frame group) ≡ 13 + length group
length-frame group =
    let body : length (sevens 10 (digest 0 group) ++ group) ≡ 10 + length group = length-append (sevens 10 (digest 0 group)) group ∙ ap (λ (k : ℕ). k + length group) (length-sevens 10 (digest 0 group)) in
    let whole : length (frame group) ≡ 3 + length (sevens 10 (digest 0 group) ++ group) = length-append (sevens 3 (length group)) (sevens 10 (digest 0 group) ++ group) ∙ ap (λ (k : ℕ). k + length (sevens 10 (digest 0 group) ++ group)) (length-sevens 3 (length group)) in
    omega (arith, body, whole)

sevens_some : (k n i : ℕ) → i < k → slice_index (sevens k n) i ≢ 0
sevens_some zero n i low = absurd (omega (arith, low))
sevens_some (suc k) n zero low = λ (is : 128 + n % 128 ≡ 0). omega (arith, is)
sevens_some (suc k) n (suc i) low = sevens_some k (n / 128) i (omega (arith, low))

-- lists with no zero make one with none
append_some : (xs ys : List ℕ) → ((i : ℕ) → i < length xs → slice_index xs i ≢ 0) → ((i : ℕ) → i < length ys → slice_index ys i ≢ 0)
    → (i : ℕ) → i < length (xs ++ ys) → slice_index (xs ++ ys) i ≢ 0
append_some [] ys left right i low = right i low
append_some (x ∷ xs) ys left right zero low = left 0 (omega (arith, low))
append_some (x ∷ xs) ys left right (suc i) low = append_some xs ys (λ j less. left (suc j) (omega (arith, less))) right i (omega (arith, low))

pub frame_some : (group : List ℕ) → IsGroup group → (i : ℕ) → i < length (frame group) → slice_index (frame group) i ≢ 0
frame_some group is =
    append_some (sevens 3 (length group)) (sevens 10 (digest 0 group) ++ group) (λ i low. sevens_some 3 (length group) i (subst (λ (k : ℕ). i < k) (length-sevens 3 (length group)) low))
    (append_some (sevens 10 (digest 0 group)) group (λ i low. sevens_some 10 (digest 0 group) i (subst (λ (k : ℕ). i < k) (length-sevens 10 (digest 0 group)) low)) is.no_zero)

-- three bytes tell a number below 2 ^ 21
pub told_alike : (m n : ℕ) → m ≤ 65536 → n ≤ 65536 → 128 + m % 128 ≡ 128 + n % 128 → 128 + m / 128 % 128 ≡ 128 + n / 128 % 128 → 128 + m / 128 / 128 % 128 ≡ 128 + n / 128 / 128 % 128 → m ≡ n
told_alike m n few_m few_n first second third = omega (arith, first, second, third)

-- frames that begin alike are of groups of one length
pub same_length : (g h : List ℕ) → IsGroup g → IsGroup h → ((i : ℕ) → i < 3 → slice_index (frame g) i ≡ slice_index (frame h) i) → length g ≡ length h
same_length g h is_g is_h same = told_alike (length g) (length h) is_g.few is_h.few (same 0 (omega arith)) (same 1 (omega arith)) (same 2 (omega arith))

told : (a b c n : ℕ) → n ≤ 65536 → a ≡ 128 + n % 128 → b ≡ 128 + n / 128 % 128 → c ≡ 128 + n / 128 / 128 % 128 → a % 128 + b % 128 * 128 + c % 128 * 16384 ≡ n
told a b c n few first second third = omega (arith, few, first, second, third)

-- the first bytes of a frame tell its group's length
pub told_of : (g : List ℕ) (a b c : ℕ) → IsGroup g → a ≡ slice_index (frame g) 0 → b ≡ slice_index (frame g) 1 → c ≡ slice_index (frame g) 2 → length_told a b c ≡ length g
told_of g a b c is first second third = told a b c (length g) is.few first second third

pub more_than : (i n : ℕ) → i < 13 → i < 13 + n
more_than i n low = omega (arith, low)

-- one byte more of a number is written
pub sevens_on : (bytes : List ℕ) (i left number : ℕ) → i < length bytes → take i bytes ++ sevens (length bytes - i) left ≡ sevens (length bytes) number
    → take (i + 1) (slice_set bytes i (128 + left % 128)) ++ sevens (length (slice_set bytes i (128 + left % 128)) - (i + 1)) (left / 128) ≡ sevens (length (slice_set bytes i (128 + left % 128))) number
sevens_on bytes i left number low was =
    let long : length (slice_set bytes i (128 + left % 128)) ≡ length bytes = length-set bytes i (128 + left % 128) in
    let step : length bytes - i ≡ suc (length bytes - (i + 1)) = omega (arith, low) in
    let split : sevens (length bytes - i) left ≡ (128 + left % 128) ∷ sevens (length bytes - (i + 1)) (left / 128) = ap (λ (n : ℕ). sevens n left) step in
    let front : take (i + 1) (slice_set bytes i (128 + left % 128)) ≡ take i bytes ++ (128 + left % 128) ∷ [] = take_more_set bytes i (128 + left % 128) low in
    rw long (ap (λ (t : List ℕ). t ++ sevens (length bytes - (i + 1)) (left / 128)) front ∙ (append_assoc (take i bytes) ((128 + left % 128) ∷ []) (sevens (length bytes - (i + 1)) (left / 128)) ∙ (ap (λ (t : List ℕ). take i bytes ++ t) (sym split) ∙ was)))
