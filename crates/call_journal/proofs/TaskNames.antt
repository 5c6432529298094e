-- The names of tasks: each is a name, and no two are the same.
use Rattle.std.proofs.Common.{◌≡◌, ◌<◌, ◌≤◌, ◌+◌, ◌%◌, ◌^◌, ℕ, Bool, true, false, nat_le, List, [], ◌∷◌, ◌++◌, length, bytes_eq, refl, inl, inr, arith}
use Rattle.std.proofs.lemmas.Bool.{cases_Bool, and_parts}
use Rattle.std.proofs.lemmas.Bool.Decides.{nat_tests}
use Rattle.std.proofs.lemmas.Fmt.{decimal_by_steps, decimal_injective, length-decimal-le}
use Rattle.std.specs.Fmt.{decimal}
use Rattle.std.specs.List.{list_all}
use Rattle.plan_read.specs.task_names.Names.{is_name_byte, is_name}
use Rattle.plan_read.proofs.HeaderLaw.{test_from_le}
use Rattle.plan_read.proofs.MigratedLookups.{one_word}
use Rattle.call_journal.specs.Plans.{task_name}

-- ---- a name of a task is a name

above : (a b : ℕ) → b < a → nat_le a b ≡ false
above a b h = grind (arith, nat_tests)

digit_byte : (b : ℕ) → 48 ≤ b → b ≤ 57 → is_name_byte b ≡ true
digit_byte b low high =
    let letters : nat_le 97 b ≡ false = above 97 b (omega (arith, high)) in
    let capitals : nat_le 65 b ≡ false = above 65 b (omega (arith, high)) in
    let least : nat_le 48 b ≡ true = test_from_le 48 b low in
    let most : nat_le b 57 ≡ true = test_from_le b 57 high in
    rw (letters, capitals, least, most) refl

all_snoc : (f : ℕ → Bool) (xs : List ℕ) (x : ℕ) → list_all f xs ≡ true → f x ≡ true → list_all f (xs ++ x ∷ []) ≡ true
all_snoc f [] x all one = rw one refl
all_snoc f (y ∷ xs) x all one =
    let both = and_parts (f y) (list_all f xs) all in
    rw (both.0, all_snoc f xs x both.1 one) refl

number_bytes : (n : ℕ) → n < 2 ^ 64 → list_all is_name_byte (decimal n) ≡ true
number_bytes =
    decimal_by_steps (λ n ds. list_all is_name_byte ds ≡ true)
    (λ n small. all_snoc is_name_byte [] (48 + n) refl (digit_byte (48 + n) (omega arith) (omega (arith, small))))
    (λ n ds big so. all_snoc is_name_byte ds (48 + n % 10) so (digit_byte (48 + n % 10) (omega arith) (omega arith)))

-- the name of each task of a plan is a name
pub task_name-is : (n : ℕ) → n < 2 ^ 32 → is_name (task_name n) ≡ true
task_name-is n small =
    let short : length (decimal n) ≤ 10 = length-decimal-le 10 n (omega arith) (omega (arith, small)) (omega (arith, small)) in
    let least : nat_le 1 (length (task_name n)) ≡ true = test_from_le 1 (length (task_name n)) (omega arith) in
    let most : nat_le (length (task_name n)) 32 ≡ true = test_from_le (length (task_name n)) 32 (omega (arith, short)) in
    rw (least, most, number_bytes n (omega (arith, small))) refl

-- ---- different tasks have different names

behind : (a b : ℕ) (xs ys : List ℕ) → a ∷ xs ≡ b ∷ ys → xs ≡ ys
behind a b xs ys h = cc

-- names that are one are those of one task
pub task_name-one : (m n : ℕ) → m < 2 ^ 64 → n < 2 ^ 64 → bytes_eq (task_name m) (task_name n) ≡ true → m ≡ n
task_name-one m n small low h = decimal_injective m n small low (behind 116 116 (decimal m) (decimal n) (one_word (task_name m) (task_name n) h))

-- names of two tasks are apart
pub task_name-apart : (m n : ℕ) → m < 2 ^ 64 → n < 2 ^ 64 → (m ≡ n → ⊥) → bytes_eq (task_name m) (task_name n) ≡ false
task_name-apart m n small low apart =
    elim (cases_Bool (bytes_eq (task_name m) (task_name n))) [
      | inl t ↦ absurd (apart (task_name-one m n small low t))
      | inr f ↦ f
    ]
