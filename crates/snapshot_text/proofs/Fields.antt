-- Fields: numbers and words, each read once.
use Rattle.std.proofs.Common.{◌≡◌, ℕ, ◌^◌, ◌<◌, ◌≤◌, List, ◌++◌, length, sym, subst, ◌∙◌, arith, append_assoc, codes}
use Rattle.std.specs.Fmt.{decimal}
use Rattle.std.proofs.lemmas.List.{append_cancel_left}
use Rattle.sched_time.specs.Policies.{truth_text}
use Rattle.trace_text.specs.Reading.{Any, Below, EndsNumber, IsRead, IsUnread, number_then, text_then}
use Rattle.trace_text.proofs.LineWords.{truth_once}
use Rattle.trace_text.proofs.Parts.{IsOnce, first_part, number_once, once_part, text_and, then_part}
use Rattle.snapshot_text.specs.Spelling.{FitTwo, flag_text, two_text}

-- ---- behind a word

-- what is to follow a word is not there
pub behind_word : {V : Type 0} (word : List ℕ) (spell : V → List ℕ) (fits : V → Type 0) (text rest : List ℕ) → text ≡ word ++ rest → IsUnread spell fits rest
    → IsUnread (λ v. word ++ spell v) fits text
behind_word word spell fits text rest is never v tail f h = never v tail f (append_cancel_left word rest (spell v ++ tail) (sym is ∙ (h ∙ append_assoc word (spell v) tail)))

-- what is read once is read once behind a word
pub once_behind : {V : Type 0} (word : List ℕ) (spell : V → List ℕ) (fits : V → Type 0) → IsOnce spell fits → IsOnce (λ v. word ++ spell v) fits
once_behind word spell fits once v u s t p q h =
    once v u s t p q (append_cancel_left word (spell v ++ s) (spell u ++ t) (sym (append_assoc word (spell v) s) ∙ (h ∙ append_assoc word (spell u) t)))

-- ---- fewer values

-- what is read once of many values is read once of fewer
pub once_within : {V : Type 0} (spell : V → List ℕ) (fits less : V → Type 0) → ((v : V) → less v → fits v) → IsOnce spell fits → IsOnce spell less
once_within spell fits less within once v u s t p q h = once v u s t (within v p) (within u q) h

-- a value stands there that is none of the fewer
pub none_within : {V : Type 0} (spell : V → List ℕ) (fits less : V → Type 0) → ((v : V) → less v → fits v) → IsOnce spell fits → (text rest : List ℕ) (v : V) → IsRead spell fits text v rest
    → (less v → ⊥) → IsUnread spell less text
none_within spell fits less within once text rest v read never u tail f h =
    never (subst less (sym (once v u rest tail read.0 (within u f) (sym read.1 ∙ h)).0) f)

-- ---- two numbers

-- the first number is not there
pub no_number : (one other last text rest : List ℕ) → text ≡ one ++ rest → IsUnread (number_then other) (Below (2 ^ 64)) rest
    → IsUnread (two_text one other last) (FitTwo (2 ^ 64) (2 ^ 64)) text
no_number one other last text rest is never =
    behind_word one (text_and decimal other (text_then decimal last)) (FitTwo (2 ^ 64) (2 ^ 64)) text rest is
    (first_part decimal (Below (2 ^ 64)) other (text_then decimal last) (Below (2 ^ 64)) rest never)

-- it is, and the second is not
pub no_second : (one other last text rest behind : List ℕ) (n : ℕ) → EndsNumber other → 0 < length other → text ≡ one ++ rest
    → IsRead (number_then other) (Below (2 ^ 64)) rest n behind → IsUnread (number_then last) (Below (2 ^ 64)) behind
    → IsUnread (two_text one other last) (FitTwo (2 ^ 64) (2 ^ 64)) text
no_second one other last text rest behind n ends some is read never =
    behind_word one (text_and decimal other (text_then decimal last)) (FitTwo (2 ^ 64) (2 ^ 64)) text rest is
    (then_part decimal (Below (2 ^ 64)) other (text_then decimal last) (Below (2 ^ 64)) rest behind n (number_once (2 ^ 64) other (omega arith) ends some) read.0 read.1 never)

-- two numbers are read once
pub two_once : (one other last : List ℕ) → EndsNumber other → 0 < length other → EndsNumber last → 0 < length last → IsOnce (two_text one other last) (FitTwo (2 ^ 64) (2 ^ 64))
two_once one other last ends some stops more =
    once_behind one (text_and decimal other (text_then decimal last)) (FitTwo (2 ^ 64) (2 ^ 64))
    (once_part decimal (Below (2 ^ 64)) other (text_then decimal last) (Below (2 ^ 64)) (number_once (2 ^ 64) other (omega arith) ends some) (number_once (2 ^ 64) last (omega arith) stops more))

-- numbers below such limits are below 2^64
pub fit_within : (one other : ℕ) → one ≤ 2 ^ 64 → other ≤ 2 ^ 64 → (v : ℕ × ℕ) → FitTwo one other v → FitTwo (2 ^ 64) (2 ^ 64) v
fit_within one other low lower v f = (omega (arith, f.0, low), omega (arith, f.1, lower))

-- ---- a flag

-- its value is not there
pub no_flag : (word text rest : List ℕ) → text ≡ word ++ rest → IsUnread (text_then truth_text (codes "\n")) Any rest → IsUnread (flag_text word) Any text
no_flag word text rest is never = behind_word word (text_then truth_text (codes "\n")) Any text rest is never

-- a flag is read once
pub flag_once : (word : List ℕ) → IsOnce (flag_text word) Any
flag_once word = once_behind word (text_then truth_text (codes "\n")) Any truth_once
