-- An event's part comes one happening after the other: the calls that it reaches, and then the event itself.
use Rattle.std.proofs.Common.{◌≡◌, ℕ, ◌+◌, ◌<◌, ◌≤◌, nat_le, zero, suc, max, Bool, true, false, cond, List, [], ◌∷◌, ◌++◌, ◌&&◌, append-nil, append_assoc, Option, Some, None, refl, sym, ap, ◌∙◌, arith, subst}
use Rattle.std.specs.Prelude.{slice_get, replicate, IsTrue}
use Rattle.std.specs.Option.{option_map_or}
use Rattle.std.proofs.lemmas.Bool.{false≢true, le-leb, leb-true}
use Rattle.std.proofs.lemmas.Bool.Decides.{nat_tests}
use Rattle.std.proofs.lemmas.Option.{slice_get_within}
use Rattle.sched_time.specs.Times.{longest}
use Rattle.queue_code.specs.Calls.{Planned, IsOrderly}
use Rattle.executor_model.specs.declared.types.Event.{Event}
use Rattle.executor_model.specs.declared.types.Event.TheVariants as v
use Rattle.executor_model.specs.declared.types.Happening.{Happening}
use Rattle.executor_model.specs.declared.types.Happening.TheVariants as h
use Rattle.executor_model.specs.declared.types.Line.{Line}
use Rattle.executor_model.specs.Answers.{is_accepted, moment_after}
use Rattle.executor_model.specs.Histories.{AreMade, MayFrom, made_after}
use Rattle.executor_model.specs.Flows.{ReachesNext, happening_of, reached, calls_before, part_of, CallComes, EventComes}
use Rattle.executor_core.specs.CoreView.{CoreView, Counts, Steps}
use Rattle.executor_model.proofs.Flowing.{all_reached}
use Rattle.executor_core.proofs.Needing.{all_made}
use Rattle.executor_core.proofs.Opens.{end_reached, tells_next, tells_none}

-- ---- whether a call is reached

-- where each call with a moment of at most a clock's was made, none is reached
none_reached : (calls : List Planned) (n t : ℕ) → IsOrderly calls → AreMade calls n t → reached calls n t ≡ 0
none_reached calls n t o made = by (slice_get calls n) refl
  where
    by : (next : Option Planned) → slice_get calls n ≡ next → reached calls n t ≡ 0
    by None is = end_reached calls n t is
    by (Some p) is = test (nat_le p.0 t) refl
      where
        test : (b : Bool) → nat_le p.0 t ≡ b → reached calls n t ≡ 0
        test true low = let clash : n < n = made n p is (leb-true p.0 t low) in absurd (omega (arith, clash))
        test false low = tells_none calls n t p o is low

-- where none is reached, each was made
pub none_made : (calls : List Planned) (n t : ℕ) → IsOrderly calls → reached calls n t ≡ 0 → AreMade calls n t
none_made calls n t o none i p is low = omega (arith, none, all_reached 0 0 t calls n i p o is low)

-- where the next call is reached, it was not made
pub next_left : (calls : List Planned) (n t : ℕ) → IsOrderly calls → ReachesNext calls n t → AreMade calls n t → ⊥
next_left calls n t o next made = omega (arith, next.1, none_reached calls n t o made)

-- where no call is left, each one was made
past_last : (calls : List Planned) (n t : ℕ) → slice_get calls n ≡ None → AreMade calls n t
past_last calls n t none i p is low = below calls n i none is
  where
    below : (cs : List Planned) (n i : ℕ) → slice_get cs n ≡ None → slice_get cs i ≡ Some p → i < n
    below [] n i none is = absurd cc
    below (x ∷ cs) zero i none is = absurd cc
    below (x ∷ cs) (suc n) zero none is = omega arith
    below (x ∷ cs) (suc n) (suc i) none is = omega (arith, below cs n i none is)

-- a clock from which a call is left reaches the next one
some_reached : (calls : List Planned) (n t : ℕ) → IsOrderly calls → (AreMade calls n t → ⊥) → (p : Planned) × (slice_get calls n ≡ Some p) × (p.0 ≤ t)
some_reached calls n t o left = by (slice_get calls n) refl
  where
    by : (next : Option Planned) → slice_get calls n ≡ next → (p : Planned) × (slice_get calls n ≡ Some p) × (p.0 ≤ t)
    by None is = absurd (left (past_last calls n t is))
    by (Some p) is = test (nat_le p.0 t) refl
      where
        test : (b : Bool) → nat_le p.0 t ≡ b → (p : Planned) × (slice_get calls n ≡ Some p) × (p.0 ≤ t)
        test true low = (p, is, leb-true p.0 t low)
        test false low = let later : t < p.0 = grind (arith, nat_tests, low) in absurd (left (all_made calls n t p o is later))

-- ---- an event that may come is what is left of it

-- no call is made before a clock that finds each call made which it reaches
none_before : (calls : List Planned) (n now t : ℕ) → IsOrderly calls → (is_accepted now t ≡ true → AreMade calls n t) → calls_before calls n now (v.Clock t) ≡ 0
none_before calls n now t o made = by (is_accepted now t) refl
  where
    by : (b : Bool) → is_accepted now t ≡ b → cond b (reached calls n t) 0 ≡ 0
    by true is = none_reached calls n t o (made is)
    by false is = refl

-- an event that may come stands next, and nothing behind it
pub event_next : (calls : List Planned) (made now : ℕ) (event : Event) → IsOrderly calls → MayFrom calls made now (happening_of event) → EventComes calls made now event
event_next calls made now (v.Clock t) o may = record { may = may; alone = ap (λ n. h.Clock t ∷ replicate n h.Call) (none_before calls made now t o may) }
event_next calls made now (v.Start w) o may = record { may = may; alone = refl }
event_next calls made now (v.Finish w ending) o may = record { may = may; alone = refl }
event_next calls made now (v.Cancel k) o may = record { may = may; alone = refl }

-- ---- else the next call is

-- one call in front of some is one behind them
call_behind : (n : ℕ) → replicate (suc n) h.Call ≡ replicate n h.Call ++ h.Call ∷ []
call_behind zero = refl
call_behind (suc n) = ap (λ l. h.Call ∷ l) (call_behind n)

-- a clock is accepted still after a call that it reaches
accepted_still : (now at t : ℕ) → is_accepted now t ≡ true → at ≤ t → is_accepted (max now at) t ≡ true
accepted_still now at t is low = grind (arith, nat_tests, is, low)

-- the calls that an accepted clock reaches are the next one and those behind it
calls_next : (calls : List Planned) (made now t : ℕ) (p : Planned) → IsOrderly calls → is_accepted now t ≡ true → slice_get calls made ≡ Some p → p.0 ≤ t →
    calls_before calls made now (v.Clock t) ≡ suc (calls_before calls (1 + made) (moment_after now (slice_get calls made) h.Call) (v.Clock t))
calls_next calls made now t p o is at low =
    let next = tells_next calls made t p o at (le-leb p.0 t low) in
    let moment : moment_after now (slice_get calls made) h.Call ≡ max now p.0 = ap (λ c. option_map_or (λ q. max now q.0) c now) at in
    let still : is_accepted (moment_after now (slice_get calls made) h.Call) t ≡ true = ap (λ n. is_accepted n t) moment ∙ accepted_still now p.0 t is low in
    let same : made + 1 ≡ 1 + made = omega arith in
    let rest : reached calls made t ≡ suc (reached calls (1 + made) t) = omega (arith, next.1, ap (λ n. reached calls n t) same) in
    ap (λ b. cond b (reached calls made t) 0) is ∙ (rest ∙ ap (λ b. suc (cond b (reached calls (1 + made) t) 0)) (sym still))

-- before an event that may not come the next call stands, and the event is left
pub call_next : (calls : List Planned) (made now : ℕ) (event : Event) → IsOrderly calls → (MayFrom calls made now (happening_of event) → ⊥) → CallComes calls made now event
call_next calls made now (v.Clock t) o not = by (is_accepted now t) refl
  where
    by : (b : Bool) → is_accepted now t ≡ b → CallComes calls made now (v.Clock t)
    by false is = absurd (not (λ q. absurd (false≢true (sym is ∙ q))))
    by true is =
        let p = some_reached calls made t o (λ all. not (λ q. all)) in
        let rest = calls_before calls (1 + made) (moment_after now (slice_get calls made) h.Call) (v.Clock t) in
        record {
          left = slice_get_within calls made p.0 p.1;
          rest = ap (λ l. h.Clock t ∷ l) (ap (λ n. replicate n h.Call) (calls_next calls made now t p.0 o is p.1 p.2) ∙ call_behind rest);
        }
call_next calls made now (v.Start w) o not = absurd (not tt)
call_next calls made now (v.Finish w ending) o not = absurd (not tt)
call_next calls made now (v.Cancel k) o not = absurd (not tt)

-- ---- how the code tells whether a call comes before an event

-- what is told of an event: whether it may come, and then which happening comes next
pub record Told (calls : List Planned) (made now : ℕ) (event : Event) (reaches : Bool) : Type 0 where
  pub comes : (reaches ≡ false → MayFrom calls made now (happening_of event)) × (MayFrom calls made now (happening_of event) → reaches ≡ false)
  pub call : IsTrue reaches → CallComes calls made now event
  pub alone : reaches ≡ false → EventComes calls made now event

-- of an event that may come
told_next : (calls : List Planned) (made now : ℕ) (event : Event) → IsOrderly calls → MayFrom calls made now (happening_of event) → Told calls made now event false
told_next calls made now event o may = record { comes = (λ q. may, λ q. refl); call = λ q. absurd cc; alone = λ q. event_next calls made now event o may }

far_refused : (now t : ℕ) → longest < t → is_accepted now t ≡ true → ⊥
far_refused now t far q = let clash : t ≤ longest = grind (arith, nat_tests, q) in omega (arith, far, clash)

near_accepted : (now t : ℕ) → now ≤ t → t ≤ longest → is_accepted now t ≡ true
near_accepted now t later near = grind (arith, nat_tests, later, near)

-- of a clock that is past the limit
told_far : (calls : List Planned) (made now t : ℕ) → IsOrderly calls → longest < t → Told calls made now (v.Clock t) false
told_far calls made now t o far = told_next calls made now (v.Clock t) o (λ q. absurd (far_refused now t far q))

-- of a clock that reaches no call
pub told_unreached : (calls : List Planned) (made now t : ℕ) → IsOrderly calls → reached calls made t ≡ 0 → Told calls made now (v.Clock t) false
told_unreached calls made now t o none = told_next calls made now (v.Clock t) o (λ q. none_made calls made t o none)

-- of a clock within the limit that reaches the next call, which is not before now
told_reached : (calls : List Planned) (made now t : ℕ) (p : Planned) → IsOrderly calls → now ≤ p.0 → p.0 ≤ t → t ≤ longest → ReachesNext calls made t → Told calls made now (v.Clock t) true
told_reached calls made now t p o ahead within near next =
    let not : MayFrom calls made now (h.Clock t) → ⊥ = λ may. next_left calls made t o next (may (near_accepted now t (omega (arith, ahead, within)) near)) in
    record { comes = (λ q. absurd cc, λ may. absurd (not may)); call = λ q. call_next calls made now (v.Clock t) o not; alone = λ q. absurd cc }

-- of a clock, by the test of the next call, which is not before now
pub told_by : (calls : List Planned) (made now t : ℕ) (p : Planned) (reaches : Bool) → IsOrderly calls → slice_get calls made ≡ Some p → now ≤ p.0 → reaches ≡ (nat_le t longest && nat_le p.0 t) → Told calls made now (v.Clock t) reaches
told_by calls made now t p reaches o is ahead test = subst (Told calls made now (v.Clock t)) (sym test) (by (nat_le t longest) (nat_le p.0 t) refl refl)
  where
    by : (a b : Bool) → nat_le t longest ≡ a → nat_le p.0 t ≡ b → Told calls made now (v.Clock t) (a && b)
    by true true near within = told_reached calls made now t p o ahead (grind (arith, nat_tests, within)) (grind (arith, nat_tests, near)) (tells_next calls made t p o is within)
    by true false near beyond = told_unreached calls made now t o (tells_none calls made t p o is beyond)
    by false b far q = told_far calls made now t o (grind (arith, nat_tests, far))

-- ---- what a core has made happen of an event, and what is left of it

-- what is left of an event's part
abbrev pub part_from : CoreView → Event → List Happening
part_from m event = part_of m.calls m.made m.moment event

-- nothing has happened yet
pub none_happened : (old counted : CoreView) (event : Event) → Counts old counted → part_from old event ≡ part_from counted event ++ []
none_happened old counted event one = sym (append-nil (part_from old event)) ∙ ap (λ (m : CoreView). part_from m event ++ []) (sym one)

-- what is left after a call, by the core after it
left_moved : (old new : CoreView) (before lines : List Line) (event : Event) → Steps old new before lines (h.Call ∷ []) →
    part_from new event ≡ part_of old.calls (made_after old.made h.Call) (moment_after old.moment (slice_get old.calls old.made) h.Call) event
left_moved old new before lines event steps = λ i. part_of (steps.calls i) (steps.state i).made (steps.state i).moment event

-- one call more
pub left_after : (old new : CoreView) (before lines : List Line) (event : Event) (part hs : List Happening) → part ≡ part_from old event ++ hs →
    CallComes old.calls old.made old.moment event → Steps old new before lines (h.Call ∷ []) → part ≡ part_from new event ++ h.Call ∷ hs
left_after old new before lines event part hs is next steps =
    let there = left_moved old new before lines event steps in
    is ∙ (ap (λ l. l ++ hs) (next.rest ∙ ap (λ l. l ++ h.Call ∷ []) (sym there)) ∙ append_assoc (part_from new event) (h.Call ∷ []) hs)

-- and at last the event itself
pub all_happened : (m : CoreView) (event : Event) (part hs : List Happening) → part ≡ part_from m event ++ hs → EventComes m.calls m.made m.moment event → part ≡ happening_of event ∷ hs
all_happened m event part hs is next = is ∙ ap (λ l. l ++ hs) next.alone
