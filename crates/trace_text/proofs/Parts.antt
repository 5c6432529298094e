-- Parts: texts that are read part by part, each part with a word behind it.
use Rattle.std.proofs.Common.{◌≡◌, ℕ, ◌^◌, ◌<◌, ◌≤◌, List, ◌++◌, length, ap, sym, ◌∙◌, arith, append_assoc}
use Rattle.std.specs.Fmt.{decimal}
use Rattle.trace_text.specs.Reading.{IsUnread, EndsNumber, Below, text_then}
use Rattle.trace_text.proofs.Choice.{one_before}

-- one value alone that fits is spelled at the front of some bytes, and one rest follows it
abbrev pub IsOnce : {V : Type 0} → (V → List ℕ) → (V → Type 0) → Type 0
IsOnce {V} spell fits = (v u : V) (s t : List ℕ) → fits v → fits u → spell v ++ s ≡ spell u ++ t → (v ≡ u) × (s ≡ t)

-- a part, a word, and what is spelled behind them
abbrev pub text_and : {A V : Type 0} → (A → List ℕ) → List ℕ → (V → List ℕ) → A × V → List ℕ
text_and part word spell v = part v.0 ++ (word ++ spell v.1)

abbrev pub BothFit : {A V : Type 0} → (A → Type 0) → (V → Type 0) → A × V → Type 0
BothFit one other v = one v.0 × other v.1

turned : (part word behind tail : List ℕ) → (part ++ (word ++ behind)) ++ tail ≡ (part ++ word) ++ (behind ++ tail)
turned part word behind tail = ap (λ l. l ++ tail) (sym (append_assoc part word behind)) ∙ append_assoc (part ++ word) behind tail

-- the first part is not there
pub first_part : {A V : Type 0} (part : A → List ℕ) (one : A → Type 0) (word : List ℕ) (spell : V → List ℕ) (fits : V → Type 0) (text : List ℕ) → IsUnread (text_then part word) one text
    → IsUnread (text_and part word spell) (BothFit one fits) text
first_part part one word spell fits text never = λ v tail f h. never v.0 (spell v.1 ++ tail) f.0 (h ∙ turned (part v.0) word (spell v.1) tail)

-- the first part is there, and what is to follow is not
pub then_part : {A V : Type 0} (part : A → List ℕ) (one : A → Type 0) (word : List ℕ) (spell : V → List ℕ) (fits : V → Type 0) (text rest : List ℕ) (a : A) → IsOnce (text_then part word) one → one a
    → text ≡ text_then part word a ++ rest → IsUnread spell fits rest → IsUnread (text_and part word spell) (BothFit one fits) text
then_part part one word spell fits text rest a once small is never = λ v tail f h.
    never v.1 tail f.1 (once a v.0 rest (spell v.1 ++ tail) small f.0 (sym is ∙ (h ∙ turned (part v.0) word (spell v.1) tail))).1

-- a part that is read once, before what is read once, is read once with it
pub once_part : {A V : Type 0} (part : A → List ℕ) (one : A → Type 0) (word : List ℕ) (spell : V → List ℕ) (fits : V → Type 0) → IsOnce (text_then part word) one → IsOnce spell fits
    → IsOnce (text_and part word spell) (BothFit one fits)
once_part part one word spell fits first behind = λ v u s t p q h.
    let front = first v.0 u.0 (spell v.1 ++ s) (spell u.1 ++ t) p.0 q.0 (sym (turned (part v.0) word (spell v.1) s) ∙ (h ∙ turned (part u.0) word (spell u.1) t)) in
    let rest = behind v.1 u.1 s t p.1 q.1 front.1 in
    (λ i. (front.0 i, rest.0 i), rest.1)

-- a number before a word that begins with no digit is read once
pub number_once : (limit : ℕ) (word : List ℕ) → limit ≤ 2 ^ 64 → EndsNumber word → 0 < length word → IsOnce (text_then decimal word) (Below limit)
number_once limit word low ends some = λ n m s t p q h. one_before word n m s t (omega (arith, p, low)) (omega (arith, q, low)) ends some h
