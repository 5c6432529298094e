-- LiveFronts: what stands at the front of some bytes, of events' lines and calls' lines, is one thing, and stays whatever follows.
use Rattle.std.proofs.Common.{◌≡◌, ◌≢◌, ℕ, ◌<◌, ◌≤◌, List, [], ◌∷◌, ◌++◌, take, drop, length, ap, ◌∙◌, sym, subst, refl, arith, inl, inr, append_assoc, length-append, length-drop, codes}
use Rattle.std.specs.Fmt.{decimal}
use Rattle.std.proofs.Math.Seq.{take-append_seam}
use Rattle.std.proofs.lemmas.Bool.{cases_lt}
use Rattle.std.proofs.lemmas.List.{take-append-le, take-append-drop, drop-append-le}
use Rattle.std.proofs.lemmas.List.Elements.{All-take}
use Rattle.executor_model.specs.declared.Event.{Event}
use Rattle.executor_model.specs.declared.Event.TheVariants as event
use Rattle.trace_text.specs.Spelling.{IsLine, event_line, ending_line}
use Rattle.trace_text.specs.Reading.{IsUnread, IsPart, number_then}
use Rattle.trace_text.proofs.Clashes.{clashes}
use Rattle.trace_text.proofs.EventTexts.{IsEnded, first_event}
use Rattle.trace_text.proofs.Fronts.{unread_part, unread_whatever_follows}
use Rattle.trace_text.proofs.Texts.{no_line}
use Rattle.call_text.specs.declared.call.CallLine.{CallLine}
use Rattle.call_text.specs.declared.live.LiveFront.TheVariants as live
use Rattle.call_text.specs.Spelling.{call_line, FitsCall}
use Rattle.call_text.specs.Reading.{LiveFrontsAreOne, LiveFrontsStay}
use Rattle.call_text.proofs.CallTexts.{named, first_call}
use Rattle.call_text.proofs.CallEnds.{call_ended, call_short}

-- the front of a text that lacks its newline is a line
front_is_line : (bytes more tail text : List ℕ) → IsEnded text → bytes ++ more ≡ text ++ tail → length bytes < length text → IsLine bytes
front_is_line bytes more tail text end h short =
    let few : length bytes ≤ length end.front = omega (arith, short, ap length end.is, length-append end.front (10 ∷ [])) in
    let same : take (length bytes) end.front ≡ bytes =
    sym (take-append-le (length bytes) end.front (10 ∷ [] ++ tail) few)
    ∙ (ap (take (length bytes)) (sym (append_assoc end.front (10 ∷ []) tail) ∙ (ap (λ l. l ++ tail) (sym end.is) ∙ sym h)) ∙ take-append_seam bytes more) in
    subst IsLine same (All-take (λ b. b ≢ 10) (length bytes) end.front end.plain)

-- a text that the bytes are long enough for stands at their front
whole_text : (bytes more tail text : List ℕ) → bytes ++ more ≡ text ++ tail → length text ≤ length bytes → bytes ≡ text ++ drop (length text) bytes
whole_text bytes more tail text h long =
    let n = length text in
    let front : take n bytes ≡ text = sym (take-append-le n bytes more long) ∙ (ap (take n) h ∙ take-append_seam text tail) in
    sym (take-append-drop n bytes) ∙ ap (λ l. l ++ drop n bytes) front

-- bytes that do not begin with a call's line, and are not a part of one, do not begin with one whatever follows
pub no_call_follows : (bytes : List ℕ) → IsUnread call_line FitsCall bytes → (IsPart bytes → ⊥) → (more : List ℕ) → IsUnread call_line FitsCall (bytes ++ more)
no_call_follows bytes unread whole more c tail fits h =
    elim (cases_lt (length bytes) (length (call_line c))) [
      | inl short ↦ whole (front_is_line bytes more tail (call_line c) (call_ended c fits) h short, omega (arith, short, call_short c fits))
      | inr long ↦ unread c (drop (length (call_line c)) bytes) fits (whole_text bytes more tail (call_line c) h long)
    ]

-- bytes without a newline do not begin with a call's line
pub no_call_in_part : (bytes : List ℕ) → IsLine bytes → IsUnread call_line FitsCall bytes
no_call_in_part bytes plain c tail fits h =
    let end = call_ended c fits in
    no_line bytes end.front tail plain (h ∙ ap (λ l. l ++ tail) end.is)

-- an event's line does not begin as a call's
no_event_calls : (e : Event) (rest tail : List ℕ) → event_line e ++ rest ≡ codes "call " ++ tail → ⊥
no_event_calls (event.Clock t) rest tail h = clashes (codes "clock ") (codes "call ") (number_then (codes "\n") t ++ rest) tail refl h
no_event_calls (event.Start w) rest tail h = clashes (codes "start ") (codes "call ") (number_then (codes "\n") w ++ rest) tail refl h
no_event_calls (event.Finish w e) rest tail h = clashes (codes "finish ") (codes "call ") ((decimal w ++ ending_line e) ++ rest) tail refl h
no_event_calls (event.Cancel k) rest tail h = clashes (codes "cancel ") (codes "call ") (number_then (codes "\n") k ++ rest) tail refl h

-- an event's line and a call's do not stand at the front of the same bytes
pub not_both : (bytes rest tail : List ℕ) (e : Event) (c : CallLine) → bytes ≡ event_line e ++ rest → bytes ≡ call_line c ++ tail → ⊥
not_both bytes rest tail e c p q = no_event_calls e rest (drop 5 (call_line c) ++ tail) (sym p ∙ (q ∙ ap (λ l. l ++ tail) (named c)))

-- the line that stands in front has as many bytes as are left behind it
text_size : (bytes line : List ℕ) (n : ℕ) → bytes ≡ line ++ drop n bytes → n ≤ length bytes → n ≡ length line
text_size bytes line n is within = omega (arith, within, ap length is, length-append line (drop n bytes), length-drop n bytes)

-- of some bytes one front is so
pub one_of_live_fronts : LiveFrontsAreOne
one_of_live_fronts (live.Event e n) (live.Event f m) bytes p q =
    let one : e ≡ f = (first_event e f (drop n bytes) (drop m bytes) p.0.0 q.0.0 (sym p.0.1 ∙ q.0.1)).0 in
    let size : n ≡ m = text_size bytes (event_line e) n p.0.1 p.2 ∙ (ap (λ e. length (event_line e)) one ∙ sym (text_size bytes (event_line f) m q.0.1 q.2)) in
    λ i. live.Event (one i) (size i)
one_of_live_fronts (live.Event e n) (live.Call c m) bytes p q = absurd (not_both bytes (drop n bytes) (drop m bytes) e c p.0.1 q.0.1)
one_of_live_fronts (live.Event e n) live.Part bytes p q = absurd (unread_part bytes q.0 e (drop n bytes) p.0.0 p.0.1)
one_of_live_fronts (live.Event e n) live.Refused bytes p q = absurd (q.0 e (drop n bytes) p.0.0 p.0.1)
one_of_live_fronts (live.Call c n) (live.Event f m) bytes p q = absurd (not_both bytes (drop m bytes) (drop n bytes) f c q.0.1 p.0.1)
one_of_live_fronts (live.Call c n) (live.Call d m) bytes p q =
    let one : c ≡ d = (first_call c d (drop n bytes) (drop m bytes) p.0.0 q.0.0 (sym p.0.1 ∙ q.0.1)).0 in
    let size : n ≡ m = text_size bytes (call_line c) n p.0.1 p.2 ∙ (ap (λ c. length (call_line c)) one ∙ sym (text_size bytes (call_line d) m q.0.1 q.2)) in
    λ i. live.Call (one i) (size i)
one_of_live_fronts (live.Call c n) live.Part bytes p q = absurd (no_call_in_part bytes q.0 c (drop n bytes) p.0.0 p.0.1)
one_of_live_fronts (live.Call c n) live.Refused bytes p q = absurd (q.1 c (drop n bytes) p.0.0 p.0.1)
one_of_live_fronts live.Part (live.Event f m) bytes p q = absurd (unread_part bytes p.0 f (drop m bytes) q.0.0 q.0.1)
one_of_live_fronts live.Part (live.Call d m) bytes p q = absurd (no_call_in_part bytes p.0 d (drop m bytes) q.0.0 q.0.1)
one_of_live_fronts live.Part live.Part bytes p q = refl
one_of_live_fronts live.Part live.Refused bytes p q = absurd (q.2 p)
one_of_live_fronts live.Refused (live.Event f m) bytes p q = absurd (p.0 f (drop m bytes) q.0.0 q.0.1)
one_of_live_fronts live.Refused (live.Call d m) bytes p q = absurd (p.1 d (drop m bytes) q.0.0 q.0.1)
one_of_live_fronts live.Refused live.Part bytes p q = absurd (p.2 q)
one_of_live_fronts live.Refused live.Refused bytes p q = refl

-- a line stays in front
line_stays : (line bytes more : List ℕ) (n : ℕ) → bytes ≡ line ++ drop n bytes → n ≤ length bytes → bytes ++ more ≡ line ++ drop n (bytes ++ more)
line_stays line bytes more n is within =
    ap (λ l. l ++ more) is ∙ (append_assoc line (drop n bytes) more ∙ ap (λ l. line ++ l) (sym (drop-append-le n bytes more within)))

-- the front of a part is a part
part_before : (bytes more : List ℕ) → IsPart (bytes ++ more) → IsPart bytes
part_before bytes more part =
    (subst IsLine (take-append_seam bytes more) (All-take (λ b. b ≢ 10) (length bytes) (bytes ++ more) part.0), omega (arith, part.1, length-append bytes more))

-- a line stays, and so does what is refused
pub live_front_stays : LiveFrontsStay
live_front_stays (live.Event e n) bytes more whole p = ((p.0.0, line_stays (event_line e) bytes more n p.0.1 p.2), p.1, omega (arith, p.2, length-append bytes more))
live_front_stays (live.Call c n) bytes more whole p = ((p.0.0, line_stays (call_line c) bytes more n p.0.1 p.2), p.1, omega (arith, p.2, length-append bytes more))
live_front_stays live.Part bytes more whole p = absurd (whole refl)
live_front_stays live.Refused bytes more whole p = (unread_whatever_follows bytes p.0 p.2 more, no_call_follows bytes p.1 p.2 more, λ part. p.2 (part_before bytes more part))
