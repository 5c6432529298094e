-- Both: texts that are read one behind the other.
use Rattle.std.proofs.Common.{ℕ, List, ◌++◌, ap, sym, ◌∙◌, append_assoc}
use Rattle.trace_text.specs.Reading.{IsRead, IsUnread}
use Rattle.trace_text.proofs.Parts.{IsOnce}

-- one text, and another one behind it
abbrev pub both_text : {A V : Type 0} → (A → List ℕ) → (V → List ℕ) → A × V → List ℕ
both_text one other v = one v.0 ++ other v.1

abbrev pub BothFit : {A V : Type 0} → (A → Type 0) → (V → Type 0) → A × V → Type 0
BothFit fits suits v = fits v.0 × suits v.1

-- the first is not there
pub no_first : {A V : Type 0} (one : A → List ℕ) (fits : A → Type 0) (other : V → List ℕ) (suits : V → Type 0) (text : List ℕ)
    → IsUnread one fits text → IsUnread (both_text one other) (BothFit fits suits) text
no_first one fits other suits text never v tail f h = never v.0 (other v.1 ++ tail) f.0 (h ∙ append_assoc (one v.0) (other v.1) tail)

-- it is, and the other is not
pub no_other : {A V : Type 0} (one : A → List ℕ) (fits : A → Type 0) (other : V → List ℕ) (suits : V → Type 0) (text rest : List ℕ) (a : A)
    → IsOnce one fits → IsRead one fits text a rest → IsUnread other suits rest → IsUnread (both_text one other) (BothFit fits suits) text
no_other one fits other suits text rest a once read never v tail f h =
    never v.1 tail f.1 (once a v.0 rest (other v.1 ++ tail) read.0 f.0 (sym read.1 ∙ (h ∙ append_assoc (one v.0) (other v.1) tail))).1

-- both are
pub both_read : {A V : Type 0} (one : A → List ℕ) (fits : A → Type 0) (other : V → List ℕ) (suits : V → Type 0) (text rest tail : List ℕ) (a : A) (v : V)
    → IsRead one fits text a rest → IsRead other suits rest v tail → IsRead (both_text one other) (BothFit fits suits) text (a, v) tail
both_read one fits other suits text rest tail a v first second =
    ((first.0, second.0), first.1 ∙ (ap (λ l. one a ++ l) second.1 ∙ sym (append_assoc (one a) (other v) tail)))

-- both are read once
pub both_once : {A V : Type 0} (one : A → List ℕ) (fits : A → Type 0) (other : V → List ℕ) (suits : V → Type 0)
    → IsOnce one fits → IsOnce other suits → IsOnce (both_text one other) (BothFit fits suits)
both_once one fits other suits first second v u s t p q h =
    let front = first v.0 u.0 (other v.1 ++ s) (other u.1 ++ t) p.0 q.0 (sym (append_assoc (one v.0) (other v.1) s) ∙ (h ∙ append_assoc (one u.0) (other u.1) t)) in
    let rest = second v.1 u.1 s t p.1 q.1 front.1 in
    (λ i. (front.0 i, rest.0 i), rest.1)
