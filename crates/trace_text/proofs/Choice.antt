-- Numbers in front of words.
use Rattle.std.proofs.Common.{◌≡◌, ℕ, ◌^◌, ◌<◌, ◌≤◌, List, [], ◌∷◌, ◌++◌, length, sym, ◌∙◌, arith, append_assoc}
use Rattle.std.specs.Fmt.{decimal}
use Rattle.std.proofs.lemmas.List.{append_cancel_left}
use Rattle.trace_text.specs.Reading.{IsUnread, EndsNumber, number_then, Below}
use Rattle.trace_text.proofs.Digits.{one_number}

-- a number ends before a word that begins with no digit, whatever follows
pub ends_before_word : (word tail : List ℕ) → EndsNumber word → 0 < length word → EndsNumber (word ++ tail)
ends_before_word [] tail ends some = absurd (omega (arith, some))
ends_before_word (c ∷ word) tail ends some = ends

-- one number alone stands before a word at the front of a text, and one rest behind it
pub one_before : (word : List ℕ) (n m : ℕ) (x y : List ℕ) → n < 2 ^ 64 → m < 2 ^ 64 → EndsNumber word → 0 < length word → number_then word n ++ x ≡ number_then word m ++ y → (n ≡ m) × (x ≡ y)
one_before word n m x y a b ends some h =
    let both = one_number n m (word ++ x) (word ++ y) a b (ends_before_word word x ends some) (ends_before_word word y ends some) (sym (append_assoc (decimal n) word x) ∙ (h ∙ append_assoc (decimal m) word y)) in
    (both.0, append_cancel_left word x y both.1)

-- a number stands at the front, and the word is not behind it
pub unread_word : (text word rest : List ℕ) (n : ℕ) → n < 2 ^ 64 → EndsNumber rest → text ≡ decimal n ++ rest → EndsNumber word → 0 < length word → ((tail : List ℕ) → rest ≡ word ++ tail → ⊥) →
    IsUnread (number_then word) (Below (2 ^ 64)) text
unread_word text word rest n fits plain is ends some never = λ m tail small h.
    never tail (one_number n m rest (word ++ tail) fits small plain (ends_before_word word tail ends some) (sym is ∙ (h ∙ append_assoc (decimal m) word tail))).1

-- a number stands before the word, and is too great
pub unread_great : (limit : ℕ) (text word rest : List ℕ) (n : ℕ) → limit ≤ 2 ^ 64 → n < 2 ^ 64 → text ≡ number_then word n ++ rest → EndsNumber word → 0 < length word → limit ≤ n → IsUnread (number_then word) (Below limit) text
unread_great limit text word rest n low fits is ends some great = λ m tail small h.
    absurd (omega (arith, small, great, (one_before word n m rest tail fits (omega (arith, small, low)) ends some (sym is ∙ h)).0))
