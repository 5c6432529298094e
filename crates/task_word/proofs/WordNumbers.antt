-- Words as numbers, and the bit of a cancel.
use Rattle.std.proofs.Common.{◌≡◌, ℕ, ◌+◌, ◌*◌, ◌^◌, ◌/◌, ◌%◌, ◌<◌, Bool, true, false, inl, inr, nat_le, nat_eq, ap, sym, refl, ◌∙◌, subst, arith, bit_or}
use Rattle.std.specs.Int.Bits.{or_add_and}
use Rattle.std.proofs.lemmas.Nat.Bits.{and_pow}
use Rattle.std.proofs.lemmas.Bool.{eqb-true, eq-eqb}
use Rattle.std.proofs.lemmas.Bool.Decides.{nat_tests, eqb_tells}
use Rattle.task_word.specs.declared.phases.Phase.{Phase}
use Rattle.task_word.specs.declared.phases.Phase.TheVariants.{Vacant, New, Running, Done, Failed}
use Rattle.task_word.specs.Words.{Parts, IsWord, bit, bit_of, phase_number, value, marked}
use Rattle.task_word.specs.Numbers.{phase_of, word_of_value, mark_number, told_apart}
use Rattle.task_word.specs.own.Numbers.{IsNumberOfWord}
use Rattle.task_word.specs.Rule.{Matches}
use Rattle.task_word.specs.Views.{MeetsEntry}

small : (p : Phase) → phase_number p < 8
small Vacant = omega arith
small New = omega arith
small Running = omega arith
small Done = omega arith
small Failed = omega arith

phase_back : (p : Phase) → phase_of (phase_number p) ≡ p
phase_back Vacant = refl
phase_back New = refl
phase_back Running = refl
phase_back Done = refl
phase_back Failed = refl

phase_read : (r q : ℕ) (m : Bool) → q < 8 → (8 * r + q + bit_of m) % 8 ≡ q
phase_read r q true h = omega arith
phase_read r q false h = omega arith

run_read : (r q : ℕ) (m : Bool) → q < 8 → r < 2 ^ 32 → (8 * r + q + bit_of m) % bit / 8 ≡ r
run_read r q true h l = omega arith
run_read r q false h l = omega arith

mark_read : (r q : ℕ) (m : Bool) → q < 8 → r < 2 ^ 32 → nat_le bit (8 * r + q + bit_of m) ≡ m
mark_read r q true h l = grind (arith, nat_tests)
mark_read r q false h l = grind (arith, nat_tests)

-- a word is read back from its number
pub reads_back : (w : Parts) → IsWord w → word_of_value (value w) ≡ w
reads_back w is =
    let lt = small w.phase in
    let p : phase_of ((8 * w.run + phase_number w.phase + bit_of w.marked) % 8) ≡ w.phase = ap phase_of (phase_read w.run (phase_number w.phase) w.marked lt) ∙ phase_back w.phase in
    let r = run_read w.run (phase_number w.phase) w.marked lt is.run in
    let m = mark_read w.run (phase_number w.phase) w.marked lt is.run in
    λ i. record { phase = p i; run = r i; marked = m i }

-- a word with the bit is a word
pub marked_word : (w : Parts) → IsWord w → IsWord (marked w)
marked_word w is = record { vacant = is.vacant; run = is.run }

-- what a number that fits an entry says
pub meets : (n : ℕ) (e : Parts) → IsWord e → Matches n e → MeetsEntry e (word_of_value n)
meets n e is (inl same) = inl (ap word_of_value same ∙ reads_back e is)
meets n e is (inr cut) = inr (ap word_of_value cut ∙ reads_back (marked e) (marked_word e is))

-- a number that fits an entry is a word
pub reads_word : (n : ℕ) (e : Parts) → IsWord e → Matches n e → IsWord (word_of_value n)
reads_word n e is (inl same) = subst IsWord (sym (ap word_of_value same ∙ reads_back e is)) is
reads_word n e is (inr cut) = subst IsWord (sym (ap word_of_value cut ∙ reads_back (marked e) (marked_word e is))) (marked_word e is)

-- and the number of that word
pub reads_number : (n : ℕ) (e : Parts) → IsWord e → Matches n e → value (word_of_value n) ≡ n
reads_number n e is (inl same) = ap (λ x. value (word_of_value x)) same ∙ ap value (reads_back e is) ∙ sym same
reads_number n e is (inr cut) = ap (λ x. value (word_of_value x)) cut ∙ ap value (reads_back (marked e) (marked_word e is)) ∙ sym cut

or_clear : (n : ℕ) → n < bit → bit_or n bit ≡ n + bit
or_clear n h = omega (arith, or_add_and n (2 ^ 63), and_pow n 63)

or_set : (n : ℕ) → n < bit → bit_or (n + bit) bit ≡ n + bit
or_set n h = omega (arith, or_add_and (n + 2 ^ 63) (2 ^ 63), and_pow (n + 2 ^ 63) 63)

or_value : (r q : ℕ) (m : Bool) → q < 8 → r < 2 ^ 32 → bit_or (8 * r + q + bit_of m) bit ≡ 8 * r + q + bit
or_value r q true h l = or_set (8 * r + q) (omega arith)
or_value r q false h l = let e : 8 * r + q + 0 ≡ 8 * r + q = omega arith in ap (λ n. bit_or n bit) e ∙ or_clear (8 * r + q) (omega arith)

-- to set the bit of a number that fits an entry gives the entry with the bit
pub or_marks : (n : ℕ) (e : Parts) → IsWord e → Matches n e → bit_or n bit ≡ value (marked e)
or_marks n e is (inl same) = ap (λ x. bit_or x bit) same ∙ or_value e.run (phase_number e.phase) e.marked (small e.phase) is.run
or_marks n e is (inr cut) = ap (λ x. bit_or x bit) cut ∙ or_value e.run (phase_number e.phase) true (small e.phase) is.run

-- the number of a word is a number of a word
pub number_of : (w : Parts) → IsWord w → IsNumberOfWord (value w)
number_of w is = record { word = subst IsWord (sym (reads_back w is)) is; same = ap value (reads_back w is) }

-- to set the bit of a word's number gives the number of the word with the bit
pub marks : (n : ℕ) → IsNumberOfWord n → bit_or n bit ≡ value (marked (word_of_value n))
marks n is = or_marks n (word_of_value n) is.word (inl (sym is.same))

-- two numbers of words that say the same are the same
pub number_tells : (n m : ℕ) → IsNumberOfWord n → IsNumberOfWord m → word_of_value n ≡ word_of_value m → n ≡ m
number_tells n m a b e = sym a.same ∙ (ap value e ∙ b.same)

mark_back : (a b : Bool) → mark_number a ≡ mark_number b → a ≡ b
mark_back true true e = refl
mark_back true false e = absurd (omega (arith, e))
mark_back false true e = absurd (omega (arith, e))
mark_back false false e = refl

mark_small : (a : Bool) → mark_number a < 2
mark_small true = omega arith
mark_small false = omega arith

-- words that have the same number by which they are told apart are the same
pub told_same : (a b : Parts) → told_apart a ≡ told_apart b → a ≡ b
told_same a b e =
    let run : a.run ≡ b.run = omega (arith, e, small a.phase, small b.phase, mark_small a.marked, mark_small b.marked) in
    let phases : phase_number a.phase ≡ phase_number b.phase = omega (arith, e, small a.phase, small b.phase, mark_small a.marked, mark_small b.marked) in
    let marks : mark_number a.marked ≡ mark_number b.marked = omega (arith, e, small a.phase, small b.phase, mark_small a.marked, mark_small b.marked) in
    let phase : a.phase ≡ b.phase = sym (phase_back a.phase) ∙ (ap phase_of phases ∙ phase_back b.phase) in
    let mark = mark_back a.marked b.marked marks in
    λ i. record { phase = phase i; run = run i; marked = mark i }

-- and only those
pub told_tells : (a b : Parts) → (nat_eq (told_apart a) (told_apart b) ≡ true → a ≡ b) × (a ≡ b → nat_eq (told_apart a) (told_apart b) ≡ true)
told_tells a b = (λ e. told_same a b (eqb-true (told_apart a) (told_apart b) e), λ e. eq-eqb (told_apart a) (told_apart b) (ap told_apart e))

-- two numbers of words are equal where the words are
pub equal_numbers : (n m : ℕ) → IsNumberOfWord n → IsNumberOfWord m → nat_eq n m ≡ nat_eq (told_apart (word_of_value n)) (told_apart (word_of_value m))
equal_numbers n m a b =
    elim (eqb_tells n m) [
      | inl same ↦ same.0 ∙ sym (eq-eqb (told_apart (word_of_value n)) (told_apart (word_of_value m)) (ap (λ k. told_apart (word_of_value k)) same.1))
      | inr apart ↦
          elim (eqb_tells (told_apart (word_of_value n)) (told_apart (word_of_value m))) [
            | inl equal ↦ absurd (apart.1 (number_tells n m a b (told_same (word_of_value n) (word_of_value m) equal.1)))
            | inr other ↦ apart.0 ∙ sym other.0
          ]
    ]
