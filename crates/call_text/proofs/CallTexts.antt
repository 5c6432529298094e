-- CallTexts: one call alone has its line at the front of some bytes.
use Rattle.std.proofs.Common.{◌≡◌, ℕ, ◌^◌, ◌<◌, true, false, List, [], ◌++◌, length, ap, sym, ◌∙◌, subst, refl, arith, append-nil, codes, ◌==◌, ◌⊎◌, inl, inr}
use Rattle.std.specs.Prelude.{drop}
use Rattle.std.specs.Fmt.{decimal}
use Rattle.std.proofs.lemmas.Bool.{false≢true}
use Rattle.std.proofs.lemmas.List.{append_cancel_left}
use Rattle.sched_time.specs.Policies.{policy_text, truth_text}
use Rattle.trace_text.specs.Reading.{IsRead, IsUnread, EndsNumber, Any, text_then, number_then}
use Rattle.trace_text.proofs.Choice.{one_before}
use Rattle.trace_text.proofs.Clashes.{clash, clashes}
use Rattle.trace_text.proofs.Parts.{IsOnce, first_part, then_part, once_part}
use Rattle.trace_text.proofs.LineForms.{set_once}
use Rattle.trace_text.proofs.LineWords.{last_task_once}
use Rattle.call_text.specs.declared.call.CallLine.{CallLine}
use Rattle.call_text.specs.declared.call.CallLine.TheVariants.{Schedule, Execute, Rate, Fixed, Cancel, Policy, Shutdown, ShutdownNow, Ask}
use Rattle.call_text.specs.Spelling.{call_line, spans_text, set_text, FitsSpan, FitsPeriod, FitsSpans, FitsCall}
use Rattle.call_text.specs.Reading.{CallLinesAreOne}

-- ---- numbers

-- a span is below 2^64
pub span_small : (n : ℕ) → FitsSpan n → n < 2 ^ 64
span_small n h = omega (arith, h)

-- a number stands before the word, and does not fit
pub unread_other : (fits : ℕ → Type 0) → ((m : ℕ) → fits m → FitsSpan m) → (text word rest : List ℕ) (n : ℕ) → n < 2 ^ 64 → text ≡ number_then word n ++ rest → EndsNumber word → 0 < length word → (fits n → ⊥)
    → IsUnread (number_then word) fits text
unread_other fits low text word rest n small is ends some never m tail f h =
    never (subst fits (sym (one_before word n m rest tail small (span_small m (low m f)) ends some (sym is ∙ h)).0) f)

-- a span before a word that begins with no digit is read once
span_once : (word : List ℕ) → EndsNumber word → 0 < length word → IsOnce (text_then decimal word) FitsSpan
span_once word ends some n m s t p q h = one_before word n m s t (span_small n p) (span_small m q) ends some h

-- a span before a space
first_once : IsOnce (text_then decimal (codes " ")) FitsSpan
first_once = span_once (codes " ") (λ r. omega (arith, r)) (omega arith)

-- a span before the newline
last_once : IsOnce (text_then decimal (codes "\n")) FitsSpan
last_once = span_once (codes "\n") (λ r. omega (arith, r)) (omega arith)

-- a period before the newline
period_once : IsOnce (text_then decimal (codes "\n")) FitsPeriod
period_once n m s t p q h = last_once n m s t p.1 q.1 h

-- ---- two spans, and a policy with what it is set to

spans_once : IsOnce spans_text FitsSpans
spans_once = once_part decimal FitsSpan (codes " ") (text_then decimal (codes "\n")) FitsPeriod first_once period_once

-- the span to the first run is not there
pub no_first : (bytes : List ℕ) → IsUnread (number_then (codes " ")) FitsSpan bytes → IsUnread spans_text FitsSpans bytes
no_first bytes never = first_part decimal FitsSpan (codes " ") (text_then decimal (codes "\n")) FitsPeriod bytes never

-- it is, and the period is not
pub behind_first : (bytes rest : List ℕ) (n : ℕ) → IsRead (number_then (codes " ")) FitsSpan bytes n rest → IsUnread (number_then (codes "\n")) FitsPeriod rest → IsUnread spans_text FitsSpans bytes
behind_first bytes rest n front never = then_part decimal FitsSpan (codes " ") (text_then decimal (codes "\n")) FitsPeriod bytes rest n first_once front.0 front.1 never

sets_once : IsOnce set_text Any
sets_once v u s t p q h = set_once v u s t (tt, tt) (tt, tt) h

-- the policy is not there
pub no_policy : (bytes : List ℕ) → IsUnread (text_then policy_text (codes " ")) Any bytes → IsUnread set_text Any bytes
no_policy bytes never v tail f h = first_part policy_text Any (codes " ") (text_then truth_text (codes "\n")) Any bytes never v tail (tt, tt) h

-- ---- no call

-- a call's line begins with its first word
pub named : (c : CallLine) → call_line c ≡ codes "call " ++ drop 5 (call_line c)
named (Schedule d) = refl
named Execute = refl
named (Rate f p) = refl
named (Fixed f d) = refl
named (Cancel k) = refl
named (Policy which value) = refl
named Shutdown = refl
named ShutdownNow = refl
named Ask = refl

-- none of the second words
pub unread_words : (bytes : List ℕ)
    → ((t : List ℕ) → bytes ≡ codes "schedule " ++ t → ⊥)
    → ((t : List ℕ) → bytes ≡ codes "execute\n" ++ t → ⊥)
    → ((t : List ℕ) → bytes ≡ codes "rate " ++ t → ⊥)
    → ((t : List ℕ) → bytes ≡ codes "fixed " ++ t → ⊥)
    → ((t : List ℕ) → bytes ≡ codes "cancel " ++ t → ⊥)
    → ((t : List ℕ) → bytes ≡ codes "policy " ++ t → ⊥)
    → ((t : List ℕ) → bytes ≡ codes "shutdown\n" ++ t → ⊥)
    → ((t : List ℕ) → bytes ≡ codes "shutdown_now\n" ++ t → ⊥)
    → ((t : List ℕ) → bytes ≡ codes "ask\n" ++ t → ⊥)
    → IsUnread call_line FitsCall (codes "call " ++ bytes)
unread_words bytes schedule execute rate fixed cancel policy shut now ask (Schedule d) tail f h =
    let l = text_then decimal (codes "\n") d ++ tail in schedule l (append_cancel_left (codes "call ") bytes (codes "schedule " ++ l) h)
unread_words bytes schedule execute rate fixed cancel policy shut now ask Execute tail f h = execute tail (append_cancel_left (codes "call ") bytes (codes "execute\n" ++ tail) h)
unread_words bytes schedule execute rate fixed cancel policy shut now ask (Rate a p) tail f h = let l = spans_text (a, p) ++ tail in rate l (append_cancel_left (codes "call ") bytes (codes "rate " ++ l) h)
unread_words bytes schedule execute rate fixed cancel policy shut now ask (Fixed a d) tail f h = let l = spans_text (a, d) ++ tail in fixed l (append_cancel_left (codes "call ") bytes (codes "fixed " ++ l) h)
unread_words bytes schedule execute rate fixed cancel policy shut now ask (Cancel k) tail f h =
    let l = text_then decimal (codes "\n") k ++ tail in cancel l (append_cancel_left (codes "call ") bytes (codes "cancel " ++ l) h)
unread_words bytes schedule execute rate fixed cancel policy shut now ask (Policy which value) tail f h =
    let l = set_text (which, value) ++ tail in policy l (append_cancel_left (codes "call ") bytes (codes "policy " ++ l) h)
unread_words bytes schedule execute rate fixed cancel policy shut now ask Shutdown tail f h = shut tail (append_cancel_left (codes "call ") bytes (codes "shutdown\n" ++ tail) h)
unread_words bytes schedule execute rate fixed cancel policy shut now ask ShutdownNow tail f h = now tail (append_cancel_left (codes "call ") bytes (codes "shutdown_now\n" ++ tail) h)
unread_words bytes schedule execute rate fixed cancel policy shut now ask Ask tail f h = ask tail (append_cancel_left (codes "call ") bytes (codes "ask\n" ++ tail) h)

-- behind the first word and the second, what is to follow is not there
pub unread_rate : (bytes rest : List ℕ) → bytes ≡ codes "rate " ++ rest → IsUnread spans_text FitsSpans rest → IsUnread call_line FitsCall (codes "call " ++ bytes)
unread_rate bytes rest is never (Rate a p) tail f h = never (a, p) tail f (append_cancel_left (codes "call rate ") rest (spans_text (a, p) ++ tail) (sym (ap (λ l. codes "call " ++ l) is) ∙ h))
unread_rate bytes rest is never c tail f h = absurd (clashes (codes "call rate ") (call_line c) rest tail refl (sym (ap (λ l. codes "call " ++ l) is) ∙ h))

pub unread_fixed : (bytes rest : List ℕ) → bytes ≡ codes "fixed " ++ rest → IsUnread spans_text FitsSpans rest → IsUnread call_line FitsCall (codes "call " ++ bytes)
unread_fixed bytes rest is never (Fixed a d) tail f h = never (a, d) tail f (append_cancel_left (codes "call fixed ") rest (spans_text (a, d) ++ tail) (sym (ap (λ l. codes "call " ++ l) is) ∙ h))
unread_fixed bytes rest is never c tail f h = absurd (clashes (codes "call fixed ") (call_line c) rest tail refl (sym (ap (λ l. codes "call " ++ l) is) ∙ h))

pub unread_policy : (bytes rest : List ℕ) → bytes ≡ codes "policy " ++ rest → IsUnread set_text Any rest → IsUnread call_line FitsCall (codes "call " ++ bytes)
unread_policy bytes rest is never (Policy which value) tail f h =
    never (which, value) tail tt (append_cancel_left (codes "call policy ") rest (set_text (which, value) ++ tail) (sym (ap (λ l. codes "call " ++ l) is) ∙ h))
unread_policy bytes rest is never c tail f h = absurd (clashes (codes "call policy ") (call_line c) rest tail refl (sym (ap (λ l. codes "call " ++ l) is) ∙ h))

-- ---- one call

one_form : {V : Type 0} (word : List ℕ) (spell : V → List ℕ) (fits : V → Type 0) (call : V → CallLine) → IsOnce spell fits → (x y : V) (s t : List ℕ) → fits x → fits y
    → word ++ (spell x ++ s) ≡ word ++ (spell y ++ t) → (call x ≡ call y) × (s ≡ t)
one_form word spell fits call once x y s t p q h = let r = once x y s t p q (append_cancel_left word (spell x ++ s) (spell y ++ t) h) in (ap call r.0, r.1)

-- two lines that differ before their ends, or of one call
one_text : (a b : CallLine) (s t : List ℕ) → (clash (call_line a) (call_line b) ≡ true) ⊎ (a ≡ b) → call_line a ++ s ≡ call_line b ++ t → (a ≡ b) × (s ≡ t)
one_text a b s t (inl differ) h = absurd (clashes (call_line a) (call_line b) s t differ h)
one_text a b s t (inr same) h = (same, append_cancel_left (call_line a) s t (h ∙ ap (λ x. call_line x ++ t) (sym same)))

-- one text spells one call, and no call's line is the front of another's
pub first_call : CallLinesAreOne
first_call (Schedule d) (Schedule e) s t p q h = one_form (codes "call schedule ") (text_then decimal (codes "\n")) FitsSpan Schedule last_once d e s t p q h
first_call (Rate a b) (Rate c d) s t p q h = one_form (codes "call rate ") spans_text FitsSpans (λ v. Rate v.0 v.1) spans_once (a, b) (c, d) s t p q h
first_call (Fixed a b) (Fixed c d) s t p q h = one_form (codes "call fixed ") spans_text FitsSpans (λ v. Fixed v.0 v.1) spans_once (a, b) (c, d) s t p q h
first_call (Cancel k) (Cancel j) s t p q h = one_form (codes "call cancel ") (text_then decimal (codes "\n")) (λ k. k < 2 ^ 32) Cancel last_task_once k j s t p q h
first_call (Policy a b) (Policy c d) s t p q h = one_form (codes "call policy ") set_text Any (λ v. Policy v.0 v.1) sets_once (a, b) (c, d) s t tt tt h
first_call a Execute s t p q h = one_text a Execute s t (first_of (search inl, search inr)) h
first_call a b s t p q h = one_text a b s t (first_of (search inl, search inr)) h

-- bytes behind a call's line make a text that spells no call
pub nothing_behind_call : (bytes rest : List ℕ) (c : CallLine) → FitsCall c → bytes ≡ call_line c ++ rest → false ≡ (length rest == 0) → (other : CallLine) → FitsCall other → bytes ≡ call_line other → ⊥
nothing_behind_call bytes rest c p is some other q h =
    let none : rest ≡ [] = (first_call c other rest [] p q (sym is ∙ (h ∙ sym (append-nil (call_line other))))).1 in
    false≢true (some ∙ ap (λ l. length l == 0) none)
