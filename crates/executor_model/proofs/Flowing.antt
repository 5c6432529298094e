-- The happenings of events have one history that means the calls, and steps from a state give its lines.
use Rattle.std.proofs.Common.{◌≡◌, ℕ, ◌+◌, ◌<◌, ◌≤◌, nat_le, zero, suc, Bool, true, false, cond, List, [], ◌∷◌, ◌++◌, length, drop, take, get_or, Some, refl, sym, ap, ◌∙◌, arith, subst, append_assoc, append-nil, length-drop}
use Rattle.std.specs.Prelude.{slice_get, replicate}
use Rattle.std.proofs.lemmas.Bool.{false≢true, le-leb}
use Rattle.std.proofs.lemmas.List.{take_more}
use Rattle.std.proofs.lemmas.Option.{none-some, same_Some}
use Rattle.executor_model.specs.declared.types.Event.{Event}
use Rattle.executor_model.specs.declared.types.Event.TheVariants as v
use Rattle.executor_model.specs.declared.types.Happening.{Happening}
use Rattle.executor_model.specs.declared.types.Happening.TheVariants as h
use Rattle.executor_model.specs.declared.types.Line.{Line}
use Rattle.queue_code.specs.Calls.{Planned, how_many, IsOrderly, IsOrderlyFrom, count_after}
use Rattle.executor_model.specs.Answers.{reply, is_accepted, moment_after}
use Rattle.executor_model.specs.Histories.{HistoryEntry, entry_of, happenings, made, now_of, is_call, answer, IsHistoryOf, MayCome}
use Rattle.executor_model.specs.State.{State, next, reply_of, after_from}
use Rattle.executor_model.specs.Flows.{reached, part_of, flow, history_from, history_of, lines_at, lines_of, lines_from, reply_in}
use Rattle.executor_model.proofs.Agree.{Agrees, next_agrees}

-- ---- one list of happenings after another

-- the happenings of a longer history are those that were added and those before
pub happenings_from : (calls : List Planned) (workers : ℕ) (past : List HistoryEntry) (hs : List Happening) → happenings (history_from calls workers past hs) ≡ hs ++ happenings past
happenings_from calls workers past [] = refl
happenings_from calls workers past (x ∷ hs) = ap (λ l. x ∷ l) (happenings_from calls workers past hs)

-- where steps lead after others
pub after_from-append : (calls : List Planned) (workers : ℕ) (s : State) (gs hs : List Happening) → after_from calls workers s (gs ++ hs) ≡ after_from calls workers (after_from calls workers s hs) gs
after_from-append calls workers s [] hs = refl
after_from-append calls workers s (x ∷ gs) hs = ap (λ z. next calls workers z x) (after_from-append calls workers s gs hs)

-- the lines of steps after others
pub lines_from-append : (calls : List Planned) (workers : ℕ) (s : State) (gs hs : List Happening) →
    lines_from calls workers s (gs ++ hs) ≡ lines_from calls workers s hs ++ lines_from calls workers (after_from calls workers s hs) gs
lines_from-append calls workers s [] hs = sym (append-nil (lines_from calls workers s hs))
lines_from-append calls workers s (x ∷ gs) hs =
    let last : State → List Line = λ z. lines_at (next calls workers z x).moment (reply_of calls workers z x) in
    let mid = after_from calls workers s hs in
    ap (λ l. l ++ last (after_from calls workers s (gs ++ hs))) (lines_from-append calls workers s gs hs)
    ∙ (ap (λ z. (lines_from calls workers s hs ++ lines_from calls workers mid gs) ++ last z) (after_from-append calls workers s gs hs)
    ∙ append_assoc (lines_from calls workers s hs) (lines_from calls workers mid gs) (last (after_from calls workers mid gs)))

-- a count over two lists
pub how_many-append : {X : Type 0} (test : X → Bool) (xs ys : List X) → how_many test (xs ++ ys) ≡ how_many test xs + how_many test ys
how_many-append test [] ys = omega arith
how_many-append test (x ∷ xs) ys =
    let pick : (b : Bool) → cond b (1 + how_many test (xs ++ ys)) (how_many test (xs ++ ys)) ≡ cond b (1 + how_many test xs) (how_many test xs) + how_many test ys =
    elim [ true ↦ omega (arith, how_many-append test xs ys) | false ↦ how_many-append test xs ys ]
    in
    pick (test x)

-- a count of one item more
pub how_many-more : {X : Type 0} (test : X → Bool) (xs : List X) (i : ℕ) (d : X) → i < length xs → how_many test (take (i + 1) xs) ≡ how_many test (take i xs) + cond (test (get_or xs i d)) 1 0
how_many-more test xs i d l =
    ap (how_many test) (take_more xs i d l) ∙ (how_many-append test (take i xs) (get_or xs i d ∷ []) ∙ ap (λ n. how_many test (take i xs) + n) (one (test (get_or xs i d))))
  where
    one : (b : Bool) → cond b (1 + 0) 0 ≡ cond b 1 0
    one true = refl
    one false = refl

-- a count is at most the length of the list
pub how_many-le : {X : Type 0} (test : X → Bool) (xs : List X) → how_many test xs ≤ length xs
how_many-le test [] = omega arith
how_many-le test (x ∷ xs) =
    let pick : (b : Bool) → cond b (1 + how_many test xs) (how_many test xs) ≤ length (x ∷ xs) =
    elim [ true ↦ omega (arith, how_many-le test xs) | false ↦ omega (arith, how_many-le test xs) ]
    in
    pick (test x)

made_calls : (n : ℕ) → made (replicate n h.Call) ≡ n
made_calls zero = refl
made_calls (suc n) = omega (arith, made_calls n)

-- n calls in front add n to the number of calls made
pub made-calls : (n : ℕ) (hs : List Happening) → made (replicate n h.Call ++ hs) ≡ n + made hs
made-calls n hs = how_many-append is_call (replicate n h.Call) hs ∙ ap (λ m. m + made hs) (made_calls n)

-- ---- calls in their order

abbrev is_reached : ℕ → Planned → Bool
is_reached t p = nat_le p.0 t

orderly_le : (count moment : ℕ) (calls : List Planned) (n : ℕ) (p : Planned) → IsOrderlyFrom count moment calls → slice_get calls n ≡ Some p → moment ≤ p.0
orderly_le count moment [] n p o q = absurd (none-some p q)
orderly_le count moment (x ∷ calls) zero p o q = omega (arith, o.0, ap (λ (y : Planned). y.0) (same_Some x p q))
orderly_le count moment (x ∷ calls) (suc n) p o q = omega (arith, o.0, orderly_le (count_after count x.1) x.0 calls n p o.3 q)

-- a call that is reached stands in the front that is reached
front_reached : (count moment t : ℕ) (calls : List Planned) (n : ℕ) (p : Planned) → IsOrderlyFrom count moment calls → slice_get calls n ≡ Some p → p.0 ≤ t → n < how_many (is_reached t) calls
front_reached count moment t [] n p o q l = absurd (none-some p q)
front_reached count moment t (x ∷ calls) zero p o q l =
    let yes : is_reached t x ≡ true = le-leb x.0 t (omega (arith, l, ap (λ (y : Planned). y.0) (same_Some x p q))) in
    subst (λ b. 0 < cond b (1 + how_many (is_reached t) calls) (how_many (is_reached t) calls)) (sym yes) (omega arith)
front_reached count moment t (x ∷ calls) (suc n) p o q l =
    let yes : is_reached t x ≡ true = le-leb x.0 t (omega (arith, l, orderly_le (count_after count x.1) x.0 calls n p o.3 q)) in
    subst (λ b. suc n < cond b (1 + how_many (is_reached t) calls) (how_many (is_reached t) calls)) (sym yes) (omega (arith, front_reached (count_after count x.1) x.0 t calls n p o.3 q l))

-- each call whose moment is at most that of a clock is reached by it
pub all_reached : (count moment t : ℕ) (calls : List Planned) (a n : ℕ) (p : Planned) → IsOrderlyFrom count moment calls → slice_get calls n ≡ Some p → p.0 ≤ t → n < reached calls a t + a
all_reached count moment t [] a n p o q l = absurd (none-some p q)
all_reached count moment t (x ∷ calls) zero n p o q l = omega (arith, front_reached count moment t (x ∷ calls) n p o q l)
all_reached count moment t (x ∷ calls) (suc a) zero p o q l = omega arith
all_reached count moment t (x ∷ calls) (suc a) (suc n) p o q l = omega (arith, all_reached (count_after count x.1) x.0 t calls a n p o.3 q l)

-- no more calls are reached than are left
pub reached_within : (calls : List Planned) (a t : ℕ) → a ≤ length calls → reached calls a t + a ≤ length calls
reached_within calls a t l = omega (arith, how_many-le (is_reached t) (drop a calls), length-drop a calls)

-- ---- the part of a flow that an event makes may come

-- a history makes no more calls than there are
pub made_past : (calls : List Planned) (workers : ℕ) (past : List HistoryEntry) → IsHistoryOf calls workers past → made (happenings past) ≤ length calls
made_past calls workers [] m = omega arith
made_past calls workers (e ∷ past) m =
    let rest = made_past calls workers past m.0 in
    let one : (x : Happening) → MayCome calls (happenings past) x → made (x ∷ happenings past) ≤ length calls =
    elim [ h.Call ↦ λ may. omega (arith, may) | h.Clock t ↦ λ may. rest | h.Start w ↦ λ may. rest | h.Finish w ending ↦ λ may. rest | h.Cancel k ↦ λ may. rest | h.Purge ↦ λ may. rest ]
    in
    one e.happening m.1

calls_mean : (calls : List Planned) (workers : ℕ) (past : List HistoryEntry) (n : ℕ) → IsHistoryOf calls workers past → n + made (happenings past) ≤ length calls → IsHistoryOf calls workers (history_from calls workers past (replicate n h.Call))
calls_mean calls workers past zero m l = m
calls_mean calls workers past (suc n) m l =
    let before = replicate n h.Call in
    let same : made (happenings (history_from calls workers past before)) ≡ n + made (happenings past) = ap made (happenings_from calls workers past before) ∙ made-calls n (happenings past) in
    (calls_mean calls workers past n m (omega (arith, l)), omega (arith, l, same), refl, refl)

clock_comes : (calls : List Planned) (workers : ℕ) (past : List HistoryEntry) (t : ℕ) (b : Bool) → IsOrderly calls → is_accepted (now_of calls (happenings past)) t ≡ b →
    MayCome calls (happenings (history_from calls workers past (replicate (cond b (reached calls (made (happenings past)) t) 0) h.Call))) (h.Clock t)
clock_comes calls workers past t true o q =
    let n = reached calls (made (happenings past)) t in
    λ accepted m p is l.
    let there : made (happenings (history_from calls workers past (replicate n h.Call))) ≡ n + made (happenings past) =
    ap made (happenings_from calls workers past (replicate n h.Call)) ∙ made-calls n (happenings past) in
    omega (arith, there, all_reached 0 0 t calls (made (happenings past)) m p o is l)
clock_comes calls workers past t false o q = λ accepted m p is l. absurd (false≢true (sym q ∙ accepted))

pub part_means : (calls : List Planned) (workers : ℕ) (past : List HistoryEntry) (event : Event) → IsOrderly calls → IsHistoryOf calls workers past →
    IsHistoryOf calls workers (history_from calls workers past (part_of calls (made (happenings past)) (now_of calls (happenings past)) event))
part_means calls workers past (v.Clock t) o m =
    let now = now_of calls (happenings past) in
    let n = reached calls (made (happenings past)) t in
    let within = made_past calls workers past m in
    let front : (b : Bool) → IsHistoryOf calls workers (history_from calls workers past (replicate (cond b n 0) h.Call)) =
    elim [ true ↦ calls_mean calls workers past n m (reached_within calls (made (happenings past)) t within) | false ↦ m ]
    in
    (front (is_accepted now t), clock_comes calls workers past t (is_accepted now t) o refl, refl, refl)
part_means calls workers past (v.Start w) o m = (m, tt, refl, refl)
part_means calls workers past (v.Finish w ending) o m = (m, tt, refl, refl)
part_means calls workers past (v.Cancel k) o m = (m, tt, refl, refl)

history_from-append : (calls : List Planned) (workers : ℕ) (past : List HistoryEntry) (gs hs : List Happening) → history_from calls workers past (gs ++ hs) ≡ history_from calls workers (history_from calls workers past hs) gs
history_from-append calls workers past [] hs = refl
history_from-append calls workers past (x ∷ gs) hs = ap (λ p. entry_of x (answer calls workers p x) ∷ p) (history_from-append calls workers past gs hs)

-- the history of some events has the happenings of their flow
pub flow_happens : (calls : List Planned) (workers : ℕ) (events : List Event) → happenings (history_of calls workers events) ≡ flow calls events
flow_happens calls workers events = happenings_from calls workers [] (flow calls events) ∙ append-nil (flow calls events)

-- one event more
pub history_more : (calls : List Planned) (workers : ℕ) (events : List Event) (event : Event) →
    history_of calls workers (event ∷ events)
    ≡ history_from calls workers (history_of calls workers events) (part_of calls (made (happenings (history_of calls workers events))) (now_of calls (happenings (history_of calls workers events))) event)
history_more calls workers events event =
    history_from-append calls workers [] (part_of calls (made (flow calls events)) (now_of calls (flow calls events)) event) (flow calls events)
    ∙ ap (λ hs. history_from calls workers (history_of calls workers events) (part_of calls (made hs) (now_of calls hs) event)) (sym (flow_happens calls workers events))

-- the history of some events is one of the calls
pub flow_means : (calls : List Planned) (workers : ℕ) (events : List Event) → IsOrderly calls → IsHistoryOf calls workers (history_of calls workers events)
flow_means calls workers [] o = tt
flow_means calls workers (event ∷ events) o =
    subst (IsHistoryOf calls workers) (sym (history_more calls workers events event)) (part_means calls workers (history_of calls workers events) event o (flow_means calls workers events o))

-- two histories of the same happenings are one
pub one_answer : (calls : List Planned) (workers : ℕ) (past other : List HistoryEntry) → IsHistoryOf calls workers past → IsHistoryOf calls workers other → happenings past ≡ happenings other → past ≡ other
one_answer calls workers [] [] m n q = refl
one_answer calls workers [] (f ∷ other) m n q = absurd cc
one_answer calls workers (e ∷ past) [] m n q = absurd cc
one_answer calls workers (e ∷ past) (f ∷ other) m n q =
    let head : e.happening ≡ f.happening = cc in
    let rest : happenings past ≡ happenings other = cc in
    let tail : past ≡ other = one_answer calls workers past other m.0 n.0 rest in
    let same : answer calls workers past e.happening ≡ answer calls workers other f.happening = ap (λ p. answer calls workers p e.happening) tail ∙ ap (answer calls workers other) head in
    let answers : e.answer ≡ f.answer = m.2 ∙ (ap (λ r. r.answer) same ∙ sym n.2) in
    let ends : e.ends ≡ f.ends = m.3 ∙ (ap (λ r. r.ends) same ∙ sym n.3) in
    λ i. record { happening = head i; answer = answers i; ends = ends i } ∷ tail i

-- ---- happenings of which each may come where it stands

-- happenings of which each may come have a history
pub may_mean : (calls : List Planned) (workers : ℕ) (hs : List Happening) → ((later past : List Happening) (y : Happening) → hs ≡ later ++ y ∷ past → MayCome calls past y) →
    IsHistoryOf calls workers (history_from calls workers [] hs)
may_mean calls workers [] may = tt
may_mean calls workers (y ∷ before) may =
    let same : before ≡ happenings (history_from calls workers [] before) = sym (append-nil before) ∙ sym (happenings_from calls workers [] before) in
    (may_mean calls workers before (λ later past z e. may (y ∷ later) past z (ap (λ l. y ∷ l) e)), subst (λ past. MayCome calls past y) same (may [] before y refl), refl, refl)

-- ---- steps of a state give the lines of the history

from_agrees : (calls : List Planned) (workers : ℕ) (s : State) (past : List HistoryEntry) (hs : List Happening) → Agrees calls s past → Agrees calls (after_from calls workers s hs) (history_from calls workers past hs)
from_agrees calls workers s past [] a = a
from_agrees calls workers s past (x ∷ hs) a = next_agrees calls workers (after_from calls workers s hs) (history_from calls workers past hs) x (from_agrees calls workers s past hs a)

lines_alike : (calls : List Planned) (workers : ℕ) (s : State) (past : List HistoryEntry) (x : Happening) → Agrees calls s past →
    lines_at (now_of calls (happenings (entry_of x (answer calls workers past x) ∷ past))) (reply_in (entry_of x (answer calls workers past x))) ≡ lines_at (next calls workers s x).moment (reply_of calls workers s x)
lines_alike calls workers s past x a =
    ap (λ w. lines_at (moment_after w.moment (slice_get calls w.made) x) (reply calls workers w x)) (sym a.view)

-- the lines of steps are those that a history gets longer by
pub lines_follow : (calls : List Planned) (workers : ℕ) (s : State) (past : List HistoryEntry) (hs : List Happening) → Agrees calls s past →
    lines_of calls (history_from calls workers past hs) ≡ lines_of calls past ++ lines_from calls workers s hs
lines_follow calls workers s past [] a = sym (append-nil (lines_of calls past))
lines_follow calls workers s past (x ∷ hs) a =
    let mid = after_from calls workers s hs in
    let before = history_from calls workers past hs in
    let last = lines_at (next calls workers mid x).moment (reply_of calls workers mid x) in
    ap (λ l. lines_of calls before ++ l) (lines_alike calls workers mid before x (from_agrees calls workers s past hs a))
    ∙ (ap (λ l. l ++ last) (lines_follow calls workers s past hs a) ∙ append_assoc (lines_of calls past) (lines_from calls workers s hs) last)
