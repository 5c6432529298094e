-- OneText: a text is the lines of one list of events.
use Rattle.std.proofs.Common.{subst, ◌≡◌, ℕ, List, [], ◌∷◌, ◌++◌, reverse, refl, ap, ◌∙◌, sym, arith, append_assoc, append-nil}
use Rattle.std.specs.Prelude.{flat_map}
use Rattle.std.proofs.lemmas.List.{reverse-append}
use Rattle.std.proofs.lemmas.List.Concat.{flat_map-append}
use Rattle.std.proofs.lemmas.List.Elements.{All-append, All-cons, All-nil, All-head, All-tail}
use Rattle.executor_model.specs.declared.Event.{Event}
use Rattle.trace_text.specs.Spelling.{FitsEvent, event_line}
use Rattle.sched_engine.specs.Inputs.{input_of, AreEvents, IsRefused, FrontIsOne, EventsAreOne}
use Rattle.trace_text.proofs.EventTexts.{first_event}
use Rattle.trace_text.proofs.Fronts.{unread_part}

one_line : (e : Event) → flat_map event_line (e ∷ []) ≡ event_line e
one_line e = append-nil (event_line e)

oldest_first : (events : List Event) → input_of events ≡ flat_map event_line (reverse events)
oldest_first [] = refl
oldest_first (e ∷ before) =
    ap (λ l. l ++ event_line e) (oldest_first before)
    ∙ (ap (λ l. flat_map event_line (reverse before) ++ l) (sym (one_line e))
    ∙ (sym (flat_map-append event_line (reverse before) (e ∷ [])) ∙ ap (flat_map event_line) (sym (reverse-append (e ∷ []) before))))

all_reversed : (events : List Event) → AreEvents events → AreEvents (reverse events)
all_reversed [] fit = fit
all_reversed (e ∷ before) fit =
    let back : reverse (e ∷ before) ≡ reverse before ++ e ∷ [] = reverse-append (e ∷ []) before in
    subst AreEvents (sym back) (All-append FitsEvent (reverse before) (e ∷ []) (all_reversed before (All-tail FitsEvent e before fit)) (All-cons FitsEvent e [] (All-head FitsEvent e before fit) (All-nil FitsEvent)))

one_front : (es fs : List Event) (rest tail : List ℕ) → AreEvents es → AreEvents fs → IsRefused rest → IsRefused tail
    → flat_map event_line es ++ rest ≡ flat_map event_line fs ++ tail → (es ≡ fs) × (rest ≡ tail)
one_front [] [] rest tail p q r t h = (refl, h)
one_front [] (f ∷ fs) rest tail p q r t h =
    absurd (r f (flat_map event_line fs ++ tail) (All-head FitsEvent f fs q) (h ∙ append_assoc (event_line f) (flat_map event_line fs) tail))
one_front (e ∷ es) [] rest tail p q r t h =
    absurd (t e (flat_map event_line es ++ rest) (All-head FitsEvent e es p) (sym h ∙ append_assoc (event_line e) (flat_map event_line es) rest))
one_front (e ∷ es) (f ∷ fs) rest tail p q r t h =
    let first = first_event e f (flat_map event_line es ++ rest) (flat_map event_line fs ++ tail) (All-head FitsEvent e es p) (All-head FitsEvent f fs q)
    (sym (append_assoc (event_line e) (flat_map event_line es) rest) ∙ (h ∙ append_assoc (event_line f) (flat_map event_line fs) tail)) in
    let more = one_front es fs rest tail (All-tail FitsEvent e es p) (All-tail FitsEvent f fs q) r t first.1 in
    let same : e ≡ f = first.0 in
    let others : es ≡ fs = more.0 in
    let whole : e ∷ es ≡ f ∷ fs = cc in
    (whole, more.1)

twice : (events : List Event) → reverse (reverse events) ≡ events
twice [] = refl
twice (e ∷ before) = ap reverse (reverse-append (e ∷ []) before) ∙ (reverse-append (reverse before) (e ∷ []) ∙ ap (λ l. e ∷ l) (twice before))

nothing_refused : IsRefused []
nothing_refused = unread_part [] (λ k d low. absurd (omega (arith, low)))

-- bytes are in one way the lines of events and a rest that begins with none
pub front_is_one : FrontIsOne
front_is_one events other rest tail fit fits r t same =
    let both = one_front (reverse events) (reverse other) rest tail (all_reversed events fit) (all_reversed other fits) r t
    (ap (λ l. l ++ rest) (sym (oldest_first events)) ∙ (same ∙ ap (λ l. l ++ tail) (oldest_first other))) in
    (sym (twice events) ∙ (ap reverse both.0 ∙ twice other), both.1)

-- a text is the lines of one list of events
pub events_are_one : EventsAreOne
events_are_one events other fit fits same =
    (front_is_one events other [] [] fit fits nothing_refused nothing_refused (append-nil (input_of events) ∙ (same ∙ sym (append-nil (input_of other))))).0
