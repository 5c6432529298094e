-- Fronts: what stands at the front of some bytes is one thing, and stays whatever follows.
use Rattle.std.proofs.Common.{◌≡◌, ◌≢◌, ℕ, ◌<◌, ◌≤◌, List, [], ◌∷◌, ◌++◌, take, drop, length, ap, ◌∙◌, sym, subst, refl, arith, inl, inr, append_assoc, length-append, length-drop}
use Rattle.std.proofs.Math.Seq.{take-append_seam}
use Rattle.std.proofs.lemmas.Bool.{cases_lt}
use Rattle.std.proofs.lemmas.List.{take-append-le, take-append-drop, drop-append-le}
use Rattle.std.proofs.lemmas.List.Elements.{All-take, All-nil}
use Rattle.executor_model.specs.declared.Event.{Event}
use Rattle.trace_text.specs.declared.front.Front.TheVariants as front
use Rattle.trace_text.specs.Spelling.{IsLine, event_line, FitsEvent}
use Rattle.trace_text.specs.Reading.{IsUnread, IsPart, FrontsAreOne, FrontsStay}
use Rattle.trace_text.proofs.EventTexts.{event_ended, first_event}
use Rattle.trace_text.proofs.Counts.{event_short}
use Rattle.trace_text.proofs.Texts.{no_line}

-- bytes that are not a part of a line are some
pub some_bytes : (bytes : List ℕ) → (IsPart bytes → ⊥) → 0 < length bytes
some_bytes [] whole = absurd (whole (All-nil (λ b. b ≢ 10), omega arith))
some_bytes (b ∷ bytes) whole = omega arith

-- the front of an event's line that lacks its newline is a line
front_is_line : (bytes more tail : List ℕ) (e : Event) → FitsEvent e → bytes ++ more ≡ event_line e ++ tail → length bytes < length (event_line e) → IsLine bytes
front_is_line bytes more tail e fits h short =
    let end = event_ended e fits in
    let few : length bytes ≤ length end.front = omega (arith, short, ap length end.is, length-append end.front (10 ∷ [])) in
    let same : take (length bytes) end.front ≡ bytes =
    sym (take-append-le (length bytes) end.front (10 ∷ [] ++ tail) few)
    ∙ (ap (take (length bytes)) (sym (append_assoc end.front (10 ∷ []) tail) ∙ (ap (λ l. l ++ tail) (sym end.is) ∙ sym h)) ∙ take-append_seam bytes more) in
    subst IsLine same (All-take (λ b. b ≢ 10) (length bytes) end.front end.plain)

-- an event's line that the bytes are long enough for stands at their front
whole_line : (bytes more tail : List ℕ) (e : Event) → bytes ++ more ≡ event_line e ++ tail → length (event_line e) ≤ length bytes → bytes ≡ event_line e ++ drop (length (event_line e)) bytes
whole_line bytes more tail e h long =
    let n = length (event_line e) in
    let front : take n bytes ≡ event_line e = sym (take-append-le n bytes more long) ∙ (ap (take n) h ∙ take-append_seam (event_line e) tail) in
    sym (take-append-drop n bytes) ∙ ap (λ l. l ++ drop n bytes) front

-- bytes that do not begin with an event's line, and are not a part of one, do not begin with one whatever follows
pub unread_whatever_follows : (bytes : List ℕ) → IsUnread event_line FitsEvent bytes → (IsPart bytes → ⊥) → (more : List ℕ) → IsUnread event_line FitsEvent (bytes ++ more)
unread_whatever_follows bytes unread whole more e tail fits h =
    elim (cases_lt (length bytes) (length (event_line e))) [
      | inl short ↦ whole (front_is_line bytes more tail e fits h short, omega (arith, short, event_short e fits))
      | inr long ↦ unread e (drop (length (event_line e)) bytes) fits (whole_line bytes more tail e h long)
    ]

-- bytes without a newline do not begin with an event's line
pub unread_part : (bytes : List ℕ) → IsLine bytes → IsUnread event_line FitsEvent bytes
unread_part bytes plain e tail fits h =
    let end = event_ended e fits in
    no_line bytes end.front tail plain (h ∙ ap (λ l. l ++ tail) end.is)

-- the line that stands in front has as many bytes as are left behind it
line_size : (bytes : List ℕ) (e : Event) (n : ℕ) → bytes ≡ event_line e ++ drop n bytes → n ≤ length bytes → n ≡ length (event_line e)
line_size bytes e n is within = omega (arith, within, ap length is, length-append (event_line e) (drop n bytes), length-drop n bytes)

-- of some bytes one front is so
pub one_of_fronts : FrontsAreOne
one_of_fronts (front.Event e n) (front.Event f m) bytes p q =
    let one : e ≡ f = (first_event e f (drop n bytes) (drop m bytes) p.0.0 q.0.0 (sym p.0.1 ∙ q.0.1)).0 in
    let size : n ≡ m = line_size bytes e n p.0.1 p.2 ∙ (ap (λ e. length (event_line e)) one ∙ sym (line_size bytes f m q.0.1 q.2)) in
    λ i. front.Event (one i) (size i)
one_of_fronts (front.Event e n) front.Part bytes p q = absurd (unread_part bytes q.0 e (drop n bytes) p.0.0 p.0.1)
one_of_fronts (front.Event e n) front.Refused bytes p q = absurd (q.0 e (drop n bytes) p.0.0 p.0.1)
one_of_fronts front.Part (front.Event f m) bytes p q = absurd (unread_part bytes p.0 f (drop m bytes) q.0.0 q.0.1)
one_of_fronts front.Part front.Part bytes p q = refl
one_of_fronts front.Part front.Refused bytes p q = absurd (q.1 p)
one_of_fronts front.Refused (front.Event f m) bytes p q = absurd (p.0 f (drop m bytes) q.0.0 q.0.1)
one_of_fronts front.Refused front.Part bytes p q = absurd (p.1 q)
one_of_fronts front.Refused front.Refused bytes p q = refl

-- the front of a part is a part
part_before : (bytes more : List ℕ) → IsPart (bytes ++ more) → IsPart bytes
part_before bytes more part =
    (subst IsLine (take-append_seam bytes more) (All-take (λ b. b ≢ 10) (length bytes) (bytes ++ more) part.0), omega (arith, part.1, length-append bytes more))

-- an event's line stays, and so does what is refused
pub front_stays : FrontsStay
front_stays (front.Event e n) bytes more whole p =
    let behind : drop n bytes ++ more ≡ drop n (bytes ++ more) = sym (drop-append-le n bytes more p.2) in
    let all : bytes ++ more ≡ event_line e ++ drop n (bytes ++ more) = ap (λ l. l ++ more) p.0.1 ∙ (append_assoc (event_line e) (drop n bytes) more ∙ ap (λ l. event_line e ++ l) behind) in
    ((p.0.0, all), p.1, omega (arith, p.2, length-append bytes more))
front_stays front.Part bytes more whole p = absurd (whole refl)
front_stays front.Refused bytes more whole p = (unread_whatever_follows bytes p.0 p.1 more, λ part. p.1 (part_before bytes more part))
