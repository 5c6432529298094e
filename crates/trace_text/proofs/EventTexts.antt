-- EventTexts: one event alone has its line at the front of some bytes; an event's line has one newline, at its end.
use Rattle.std.proofs.Common.{◌≡◌, ◌≢◌, ℕ, ◌^◌, ◌<◌, List, [], ◌∷◌, ◌++◌, length, refl, ap, ◌∙◌, sym, arith, rules, append_assoc, append-nil, codes, false, ◌==◌}
use Rattle.std.proofs.lemmas.Bool.{false≢true}
use Rattle.std.specs.Fmt.{decimal}
use Rattle.std.proofs.lemmas.Fmt.{digits_decimal}
use Rattle.std.proofs.lemmas.Str.Parse.{digit_at}
use Rattle.std.proofs.lemmas.List.{append_cancel_left}
use Rattle.std.proofs.lemmas.List.Elements.{All-append, All-from_get_or}
use Rattle.sched_time.specs.declared.timing.Ending.{Ending}
use Rattle.sched_time.specs.declared.timing.Ending.TheVariants.{Value, Fault}
use Rattle.executor_model.specs.declared.Event.{Event}
use Rattle.executor_model.specs.declared.Event.TheVariants.{Clock, Start, Finish, Cancel}
use Rattle.trace_text.specs.Spelling.{IsLine, event_line, ending_line, FitsEvent, FitsEnding}
use Rattle.trace_text.specs.Reading.{IsUnread, EndsNumber, number_then}
use Rattle.trace_text.proofs.Digits.{one_number}
use Rattle.trace_text.proofs.Numbers.{numerals}
use Rattle.trace_text.proofs.Choice.{one_before}
use Rattle.trace_text.proofs.Clashes.{clashes}

-- ---- one event

-- the word that an ending begins with, and what follows it
abbrev ending_word : Ending → List ℕ
ending_word (Value v) = codes " ok "
ending_word (Fault c) = codes " fail "

abbrev after_ending_word : Ending → List ℕ
after_ending_word (Value v) = number_then (codes "\n") v
after_ending_word (Fault c) = number_then (codes "\n") c

-- the word that an event's line begins with, and what follows it
abbrev event_word : Event → List ℕ
event_word (Clock t) = codes "clock "
event_word (Start w) = codes "start "
event_word (Finish w e) = codes "finish "
event_word (Cancel k) = codes "cancel "

abbrev after_event_word : Event → List ℕ
after_event_word (Clock t) = number_then (codes "\n") t
after_event_word (Start w) = number_then (codes "\n") w
after_event_word (Finish w e) = decimal w ++ ending_line e
after_event_word (Cancel k) = number_then (codes "\n") k

-- a newline ends a number, and so does the word of an ending
newline_ends : EndsNumber (codes "\n")
newline_ends = λ r. omega (arith, r)

ending_ends : (e : Ending) (rest : List ℕ) → EndsNumber (ending_line e ++ rest)
ending_ends (Value v) rest = λ r. omega (arith, r)
ending_ends (Fault c) rest = λ r. omega (arith, r)

one_numbered : (n m : ℕ) (s t : List ℕ) → n < 2 ^ 64 → m < 2 ^ 64 → number_then (codes "\n") n ++ s ≡ number_then (codes "\n") m ++ t → (n ≡ m) × (s ≡ t)
one_numbered n m s t p q h = one_before (codes "\n") n m s t p q newline_ends (omega arith) h

-- where the lines of two endings stand at the front of some bytes, they are one, and the rests are one
pub one_ending : (e f : Ending) (s t : List ℕ) → FitsEnding e → FitsEnding f → ending_line e ++ s ≡ ending_line f ++ t → (e ≡ f) × (s ≡ t)
one_ending (Value v) (Value u) s t p q h =
    let r = one_numbered v u s t p q (append_cancel_left (codes " ok ") (number_then (codes "\n") v ++ s) (number_then (codes "\n") u ++ t) h) in (ap Value r.0, r.1)
one_ending (Fault c) (Fault d) s t p q h =
    let r = one_numbered c d s t (omega (arith, p)) (omega (arith, q)) (append_cancel_left (codes " fail ") (number_then (codes "\n") c ++ s) (number_then (codes "\n") d ++ t) h) in (ap Fault r.0, r.1)
one_ending (Value v) f s t p q h = absurd (clashes (codes " ok ") (ending_word f) (after_ending_word (Value v) ++ s) (after_ending_word f ++ t) refl h)
one_ending (Fault c) f s t p q h = absurd (clashes (codes " fail ") (ending_word f) (after_ending_word (Fault c) ++ s) (after_ending_word f ++ t) refl h)

one_finish : (w v : ℕ) (e f : Ending) (s t : List ℕ) → w < 2 ^ 8 → v < 2 ^ 8 → FitsEnding e → FitsEnding f → (decimal w ++ ending_line e) ++ s ≡ (decimal v ++ ending_line f) ++ t
    → (w ≡ v) × (e ≡ f) × (s ≡ t)
one_finish w v e f s t a b p q h =
    let both = one_number w v (ending_line e ++ s) (ending_line f ++ t) (omega (arith, a)) (omega (arith, b)) (ending_ends e s) (ending_ends f t)
    (sym (append_assoc (decimal w) (ending_line e) s) ∙ (h ∙ append_assoc (decimal v) (ending_line f) t)) in
    let rest = one_ending e f s t p q both.1 in
    (both.0, rest.0, rest.1)

-- where the lines of two events stand at the front of some bytes, they are one, and the rests are one: so one line spells
-- one event, and no event's line is the front of another's
pub first_event : (e f : Event) (s t : List ℕ) → FitsEvent e → FitsEvent f → event_line e ++ s ≡ event_line f ++ t → (e ≡ f) × (s ≡ t)
first_event (Clock n) (Clock m) s t p q h =
    let r = one_numbered n m s t p q (append_cancel_left (codes "clock ") (number_then (codes "\n") n ++ s) (number_then (codes "\n") m ++ t) h) in (ap Clock r.0, r.1)
first_event (Start w) (Start v) s t p q h =
    let r = one_numbered w v s t (omega (arith, p)) (omega (arith, q)) (append_cancel_left (codes "start ") (number_then (codes "\n") w ++ s) (number_then (codes "\n") v ++ t) h) in (ap Start r.0, r.1)
first_event (Cancel k) (Cancel j) s t p q h =
    let r = one_numbered k j s t (omega (arith, p)) (omega (arith, q)) (append_cancel_left (codes "cancel ") (number_then (codes "\n") k ++ s) (number_then (codes "\n") j ++ t) h) in (ap Cancel r.0, r.1)
first_event (Finish w e) (Finish v f) s t p q h =
    let r = one_finish w v e f s t p.0 q.0 p.1 q.1 (append_cancel_left (codes "finish ") ((decimal w ++ ending_line e) ++ s) ((decimal v ++ ending_line f) ++ t) h) in
    (λ i. Finish (r.0 i) (r.1 i), r.2)
first_event (Clock n) f s t p q h = absurd (clashes (codes "clock ") (event_word f) (after_event_word (Clock n) ++ s) (after_event_word f ++ t) refl h)
first_event (Start w) f s t p q h = absurd (clashes (codes "start ") (event_word f) (after_event_word (Start w) ++ s) (after_event_word f ++ t) refl h)
first_event (Cancel k) f s t p q h = absurd (clashes (codes "cancel ") (event_word f) (after_event_word (Cancel k) ++ s) (after_event_word f ++ t) refl h)
first_event (Finish w e) f s t p q h = absurd (clashes (codes "finish ") (event_word f) (after_event_word (Finish w e) ++ s) (after_event_word f ++ t) refl h)

-- bytes behind an event's line make a line that spells no event
pub nothing_behind : (line rest : List ℕ) (f : Event) → FitsEvent f → line ≡ event_line f ++ rest → false ≡ (length rest == 0) → (e : Event) → FitsEvent e → line ≡ event_line e → ⊥
nothing_behind line rest f p is some e q h =
    let none : rest ≡ [] = (first_event f e rest [] p q (sym is ∙ (h ∙ sym (append-nil (event_line e))))).1 in
    false≢true (some ∙ ap (λ l. length l == 0) none)

-- ---- no event

-- bytes of which no worker and ending stand behind `finish `
pub unread_finish : (bytes : List ℕ) → ((w : ℕ) (e : Ending) (tail : List ℕ) → w < 2 ^ 8 → FitsEnding e → bytes ≡ (decimal w ++ ending_line e) ++ tail → ⊥)
    → IsUnread event_line FitsEvent (codes "finish " ++ bytes)
unread_finish bytes none (Finish w e) tail fits h = none w e tail fits.0 fits.1 (append_cancel_left (codes "finish ") bytes ((decimal w ++ ending_line e) ++ tail) h)
unread_finish bytes none f tail fits h = absurd (clashes (codes "finish ") (event_word f) bytes (after_event_word f ++ tail) refl h)

-- the number that stands in front is the worker's, and what follows it is the ending
pub the_finish : (bytes rest : List ℕ) (n : ℕ) → bytes ≡ decimal n ++ rest → EndsNumber rest → n < 2 ^ 64 → (w : ℕ) (e : Ending) (tail : List ℕ) → w < 2 ^ 8 → FitsEnding e → bytes ≡ (decimal w ++ ending_line e) ++ tail
    → (n ≡ w) × (rest ≡ ending_line e ++ tail)
the_finish bytes rest n is ends fits w e tail small p h =
    one_number n w rest (ending_line e ++ tail) fits (omega (arith, small)) ends (ending_ends e tail) (sym is ∙ (h ∙ append_assoc (decimal w) (ending_line e) tail))

-- ---- the newline

-- bytes without a newline, and a newline behind them
pub record IsEnded (line : List ℕ) : Type 0 where
  pub front : List ℕ
  pub is : line ≡ front ++ 10 ∷ []
  pub plain : IsLine front

-- digits hold no newline
pub number_is_line : (n : ℕ) → n < 2 ^ 64 → IsLine (decimal n)
number_is_line n h = All-from_get_or (λ b. b ≢ 10) (decimal n) 0 (λ i l e. let r = digit_at (decimal n) i (digits_decimal numerals n h) l in absurd (omega (arith, r, e)))

-- a number and a newline
pub ended_number : (n : ℕ) → n < 2 ^ 64 → IsEnded (decimal n ++ codes "\n")
ended_number n fits = record { front = decimal n; is = refl; plain = number_is_line n fits }

-- a word with no newline, before what has one at its end
pub ended_behind : (word line : List ℕ) → IsLine word → IsEnded line → IsEnded (word ++ line)
ended_behind word line plain end = record {
  front = word ++ end.front;
  is = ap (λ l. word ++ l) end.is ∙ sym (append_assoc word end.front (10 ∷ []));
  plain = All-append (λ b. b ≢ 10) word end.front plain end.plain;
}

ok_line : IsLine (codes " ok ")
ok_line = search rules

fail_line : IsLine (codes " fail ")
fail_line = search rules

clock_line : IsLine (codes "clock ")
clock_line = search rules

start_line : IsLine (codes "start ")
start_line = search rules

finish_line : IsLine (codes "finish ")
finish_line = search rules

cancel_line : IsLine (codes "cancel ")
cancel_line = search rules

ending_ended : (e : Ending) → FitsEnding e → IsEnded (ending_line e)
ending_ended (Value v) h = ended_behind (codes " ok ") (decimal v ++ codes "\n") ok_line (ended_number v h)
ending_ended (Fault c) h = ended_behind (codes " fail ") (decimal c ++ codes "\n") fail_line (ended_number c (omega (arith, h)))

-- an event's line has one newline, at its end
pub event_ended : (e : Event) → FitsEvent e → IsEnded (event_line e)
event_ended (Clock t) h = ended_behind (codes "clock ") (decimal t ++ codes "\n") clock_line (ended_number t h)
event_ended (Start w) h = ended_behind (codes "start ") (decimal w ++ codes "\n") start_line (ended_number w (omega (arith, h)))
event_ended (Cancel k) h = ended_behind (codes "cancel ") (decimal k ++ codes "\n") cancel_line (ended_number k (omega (arith, h)))
event_ended (Finish w e) h =
    ended_behind (codes "finish ") (decimal w ++ ending_line e) finish_line
    (ended_behind (decimal w) (ending_line e) (number_is_line w (omega (arith, h.0))) (ending_ended e h.1))
