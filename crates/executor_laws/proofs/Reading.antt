-- The calls of a plan, and the flow of events, read by position.
use Rattle.std.proofs.Common.{◌≡◌, ℕ, ◌+◌, ◌<◌, ◌≤◌, ◌==◌, nat_le, zero, suc, Bool, true, false, cond, List, [], ◌∷◌, ◌++◌, length, map, take, Some, refl, sym, ap, ◌∙◌, arith, subst}
use Rattle.std.specs.Prelude.{slice_get, replicate, ◌^◌, ◌↔◌}
use Rattle.std.specs.List.{filter}
use Rattle.std.proofs.lemmas.Bool.{false≢true, and_parts, leb-true, leb-false, eqb-true, eqb-false}
use Rattle.std.proofs.lemmas.Bool.Decides.{nat_tests}
use Rattle.std.proofs.lemmas.Option.{none-some, same_Some}
use Rattle.queue_code.specs.declared.call.CodeCall.{CodeCall}
use Rattle.queue_code.specs.declared.call.CodeCall.TheVariants as c
use Rattle.executor_model.specs.declared.types.Event.{Event}
use Rattle.executor_model.specs.declared.types.Event.TheVariants as v
use Rattle.executor_model.specs.declared.types.Happening.{Happening}
use Rattle.executor_model.specs.declared.types.Happening.TheVariants as h
use Rattle.queue_code.specs.Calls.{Planned, how_many, task_count, submits_task, count_after, IsOrderlyCall, IsOrderlyFrom, IsOrderly}
use Rattle.executor_model.specs.Answers.{is_accepted}
use Rattle.executor_model.specs.Histories.{HistoryEntry, IsHistoryOf, MayCome, happenings, made, now_of}
use Rattle.executor_model.specs.Flows.{reached, flow, happening_of, calls_before, history_of}
use Rattle.executor_laws.specs.Positions.{ReachedIsAFront, IsSubmissionOf, TasksAreSubmitted, TermsAreItsOwn, is_event, FlowKeepsTheEvents, IsAcceptedClock, IsMadeBefore, FlowMakesWhatIsReached, FlowMayCome}
use Rattle.executor_model.proofs.Flowing.{all_reached, reached_within, made_past}
use Rattle.executor_laws.proofs.Flows.{one_history}
use Rattle.executor_model.proofs.Tables.{submission}

-- ---- the calls that a clock reaches

abbrev is_reached : ℕ → Planned → Bool
is_reached t p = nat_le p.0 t

-- where the calls begin above a moment, a clock of that moment reaches none
none_reached : (count moment t : ℕ) (calls : List Planned) → IsOrderlyFrom count moment calls → t < moment → how_many (is_reached t) calls ≡ 0
none_reached count moment t [] o l = refl
none_reached count moment t (x ∷ calls) o l =
    let pick : (b : Bool) → is_reached t x ≡ b → cond b (1 + how_many (is_reached t) calls) (how_many (is_reached t) calls) ≡ 0 =
    elim [
      | true ↦ λ q. absurd (omega (arith, l, o.0, leb-true x.0 t q))
      | false ↦ λ q. none_reached (count_after count x.1) x.0 t calls o.3 (omega (arith, l, o.0))
    ]
    in
    pick (is_reached t x) refl

-- a call in the front that is reached has a moment of at most the clock's
reached_below : (count moment t : ℕ) (calls : List Planned) (n : ℕ) (p : Planned) → IsOrderlyFrom count moment calls → slice_get calls n ≡ Some p → n < how_many (is_reached t) calls → p.0 ≤ t
reached_below count moment t [] n p o q l = absurd (none-some p q)
reached_below count moment t (x ∷ calls) n p o q l =
    let beyond : is_reached t x ≡ false → n < how_many (is_reached t) calls → p.0 ≤ t =
    λ e l. absurd (omega (arith, l, none_reached (count_after count x.1) x.0 t calls o.3 (leb-false x.0 t e)))
    in
    let within : (i : ℕ) → is_reached t x ≡ true → slice_get (x ∷ calls) i ≡ Some p → i < 1 + how_many (is_reached t) calls → p.0 ≤ t =
    elim [
      | zero ↦ λ e q l. omega (arith, leb-true x.0 t e, ap (λ (y : Planned). y.0) (same_Some x p q))
      | suc i ↦ λ e q l. reached_below (count_after count x.1) x.0 t calls i p o.3 q (omega (arith, l))
    ]
    in
    let pick : (b : Bool) → is_reached t x ≡ b → n < cond b (1 + how_many (is_reached t) calls) (how_many (is_reached t) calls) → p.0 ≤ t =
    elim [ true ↦ λ e l. within n e q l | false ↦ λ e l. beyond e l ]
    in
    pick (is_reached t x) refl l

-- the same of the calls from the a-th on
left_below : (count moment t : ℕ) (calls : List Planned) (a n : ℕ) (p : Planned) → IsOrderlyFrom count moment calls → slice_get calls n ≡ Some p → a ≤ n → n < a + reached calls a t → p.0 ≤ t
left_below count moment t [] a n p o q m l = absurd (none-some p q)
left_below count moment t (x ∷ calls) zero n p o q m l = reached_below count moment t (x ∷ calls) n p o q (omega (arith, l))
left_below count moment t (x ∷ calls) (suc a) zero p o q m l = absurd (omega (arith, m))
left_below count moment t (x ∷ calls) (suc a) (suc n) p o q m l = left_below (count_after count x.1) x.0 t calls a n p o.3 q (omega (arith, m)) (omega (arith, l))

-- the law that the calls that a clock reaches are a front of those left
pub reached_is_a_front : ReachedIsAFront
reached_is_a_front calls first t o = (
  λ n p m q. (λ l. left_below 0 0 t calls first n p o q m l, λ l. omega (arith, all_reached 0 0 t calls first n p o q l)),
  λ l. omega (arith, reached_within calls first t l),
)

-- ---- the submissions

-- the number of submissions that a call makes, one or none
abbrev submitted : CodeCall → ℕ
submitted call = cond (submits_task call) 1 0

after_call : (count : ℕ) (call : CodeCall) → count_after count call ≡ count + submitted call
after_call count (c.Submit task timing delay) = refl
after_call count (c.Illegal task) = refl
after_call count call = omega arith

one_task : (call : CodeCall) (n : ℕ) → cond (submits_task call) (1 + n) n ≡ submitted call + n
one_task (c.Submit task timing delay) n = refl
one_task (c.Illegal task) n = refl
one_task call n = omega arith

its_number : (count k : ℕ) (call : CodeCall) → IsOrderlyCall count call → IsSubmissionOf k call → (k ≡ count) × (submitted call ≡ 1)
its_number count k (c.Submit task timing delay) o s = (sym s ∙ o.0, refl)
its_number count k (c.Illegal task) o s = (sym s ∙ o, refl)
its_number count k call o s = absurd s

next_number : (count : ℕ) (call : CodeCall) → IsOrderlyCall count call → submitted call ≡ 1 → IsSubmissionOf count call
next_number count (c.Submit task timing delay) o one = o.0
next_number count (c.Illegal task) o one = o
next_number count call o one = absurd (omega (arith, one))

-- a submission has the number of the submissions before it
numbered : (count moment : ℕ) (calls : List Planned) (n k : ℕ) (p : Planned) → IsOrderlyFrom count moment calls → slice_get calls n ≡ Some p → IsSubmissionOf k p.1 →
    (k ≡ count + task_count (take n calls)) × (k < count + task_count calls)
numbered count moment [] n k p o q s = absurd (none-some p q)
numbered count moment (x ∷ calls) zero k p o q s =
    let own = its_number count k x.1 o.2 (subst (λ (y : Planned). IsSubmissionOf k y.1) (sym (same_Some x p q)) s) in
    (omega (arith, own.0), omega (arith, own.0, own.1, one_task x.1 (task_count calls)))
numbered count moment (x ∷ calls) (suc n) k p o q s =
    let rest = numbered (count_after count x.1) x.0 calls n k p o.3 q s in
    let more = after_call count x.1 in
    (omega (arith, rest.0, more, one_task x.1 (task_count (take n calls))), omega (arith, rest.1, more, one_task x.1 (task_count calls)))

-- two submissions of one number are one
only_one : (count moment : ℕ) (calls : List Planned) (n m k : ℕ) (p r : Planned) → IsOrderlyFrom count moment calls →
    slice_get calls n ≡ Some p → IsSubmissionOf k p.1 → slice_get calls m ≡ Some r → IsSubmissionOf k r.1 → n ≡ m
only_one count moment [] n m k p r o q s u w = absurd (none-some p q)
only_one count moment (x ∷ calls) zero zero k p r o q s u w = refl
only_one count moment (x ∷ calls) zero (suc m) k p r o q s u w =
    let own = its_number count k x.1 o.2 (subst (λ (y : Planned). IsSubmissionOf k y.1) (sym (same_Some x p q)) s) in
    absurd (omega (arith, own.0, own.1, after_call count x.1, (numbered (count_after count x.1) x.0 calls m k r o.3 u w).0))
only_one count moment (x ∷ calls) (suc n) zero k p r o q s u w =
    let own = its_number count k x.1 o.2 (subst (λ (y : Planned). IsSubmissionOf k y.1) (sym (same_Some x r u)) w) in
    absurd (omega (arith, own.0, own.1, after_call count x.1, (numbered (count_after count x.1) x.0 calls n k p o.3 q s).0))
only_one count moment (x ∷ calls) (suc n) (suc m) k p r o q s u w = ap suc (only_one (count_after count x.1) x.0 calls n m k p r o.3 q s u w)

-- a call is the submission of a number
record Submitted (calls : List Planned) (k : ℕ) : Type 0 where
  place : ℕ
  call : Planned
  there : slice_get calls place ≡ Some call
  submits : IsSubmissionOf k call.1

submitted_later : (x : Planned) (calls : List Planned) (k : ℕ) → Submitted calls k → Submitted (x ∷ calls) k
submitted_later x calls k s = record { place = suc s.place; call = s.call; there = s.there; submits = s.submits }

-- each number of a task has its submission
submitted_at : (count moment : ℕ) (calls : List Planned) (k : ℕ) → IsOrderlyFrom count moment calls → count ≤ k → k < count + task_count calls → Submitted calls k
submitted_at count moment [] k o l m = absurd (omega (arith, l, m))
submitted_at count moment (x ∷ calls) k o l m =
    let total = one_task x.1 (task_count calls) in
    let more = after_call count x.1 in
    let later : count + submitted x.1 ≤ k → Submitted (x ∷ calls) k =
    λ above. submitted_later x calls k (submitted_at (count_after count x.1) x.0 calls k o.3 (omega (arith, above, more)) (omega (arith, m, total, more)))
    in
    let pick : (b : Bool) → submits_task x.1 ≡ b → Submitted (x ∷ calls) k =
    elim [
      | true ↦ λ q.
          let by : (b : Bool) → (count == k) ≡ b → Submitted (x ∷ calls) k =
          elim [
            | true ↦ λ same. record { place = 0; call = x; there = refl; submits = subst (λ j. IsSubmissionOf j x.1) (eqb-true count k same) (next_number count x.1 o.2 (ap (λ b. cond b 1 0) q)) }
            | false ↦ λ apart. later (let ne = eqb-false count k apart in let one : submitted x.1 ≡ 1 = ap (λ b. cond b 1 0) q in omega (arith, l, one, ne))
          ]
          in
          by (count == k) refl
      | false ↦ λ q. later (let none : submitted x.1 ≡ 0 = ap (λ b. cond b 1 0) q in omega (arith, l, none))
    ]
    in
    pick (submits_task x.1) refl

-- the law that each task is submitted by one call
pub tasks_are_submitted : TasksAreSubmitted
tasks_are_submitted calls k o = (
  λ l.
      let s = submitted_at 0 0 calls k o (omega arith) (omega (arith, l)) in
      record {
        place = s.place;
        call = s.call;
        there = s.there;
        submits = s.submits;
        number = omega (arith, (numbered 0 0 calls s.place k s.call o s.there s.submits).0);
        only = λ n p q w. only_one 0 0 calls n s.place k p s.call o q w s.there s.submits;
      },
  λ n p q s. omega (arith, (numbered 0 0 calls n k p o q s).1),
)

-- the law that the terms of a task are those of its submission
pub terms_are_its_own : TermsAreItsOwn
terms_are_its_own calls n moment k timing delay o q = (submission calls 0 0 n moment k timing delay o q).terms

-- ---- the flow of events

no_calls_kept : (n : ℕ) (past : List Happening) → filter is_event (replicate n h.Call ++ past) ≡ filter is_event past
no_calls_kept zero past = refl
no_calls_kept (suc n) past = no_calls_kept n past

-- the law that the events of a flow are those given
pub flow_keeps_the_events : FlowKeepsTheEvents
flow_keeps_the_events calls [] = refl
flow_keeps_the_events calls (event ∷ before) =
    let past = flow calls before in
    let rest : (n : ℕ) → filter is_event (replicate n h.Call ++ past) ≡ map happening_of before = λ n. no_calls_kept n past ∙ flow_keeps_the_events calls before in
    let go : (y : Event) (n : ℕ) → filter is_event (happening_of y ∷ (replicate n h.Call ++ past)) ≡ happening_of y ∷ map happening_of before =
    elim [
      | v.Clock t ↦ λ n. ap (λ l. h.Clock t ∷ l) (rest n)
      | v.Start w ↦ λ n. ap (λ l. h.Start w ∷ l) (rest n)
      | v.Finish w ending ↦ λ n. ap (λ l. h.Finish w ending ∷ l) (rest n)
      | v.Cancel k ↦ λ n. ap (λ l. h.Cancel k ∷ l) (rest n)
    ]
    in
    go event (calls_before calls (made past) (now_of calls past) event)

-- a flow makes no more calls than there are
made_flow : (calls : List Planned) (events : List Event) → IsOrderly calls → made (flow calls events) ≤ length calls
made_flow calls events o =
    let history = one_history calls 0 events o in
    subst (λ l. made l ≤ length calls) history.1 (made_past calls 0 (history_of calls 0 events) history.0)

accepts : (now t : ℕ) → now ≤ t → t ≤ 2 ^ 62 → is_accepted now t ≡ true
accepts now t l m = grind (arith, nat_tests)

accepted : (now t : ℕ) → is_accepted now t ≡ true → (now ≤ t) × (t ≤ 2 ^ 62)
accepted now t q = let parts = and_parts (nat_le now t) (nat_le t (2 ^ 62)) q in (leb-true now t parts.0, leb-true t (2 ^ 62) parts.1)

-- the calls before an event that is no accepted clock
made_before_other : (calls : List Planned) (past : List Happening) (event : Event) → made past ≤ length calls → ((t : ℕ) → IsAcceptedClock calls past event t → ⊥) → IsMadeBefore calls past event 0
made_before_other calls past event l never = record { within = omega (arith, l); clock = λ t n p is m q. absurd (never t is); other = λ none. refl }

-- the calls before a clock, by whether it is accepted
made_before_clock : (calls : List Planned) (past : List Happening) (u : ℕ) (b : Bool) → IsOrderly calls → made past ≤ length calls → is_accepted (now_of calls past) u ≡ b →
    IsMadeBefore calls past (v.Clock u) (cond b (reached calls (made past) u) 0)
made_before_clock calls past u true o l q =
    let is = accepted (now_of calls past) u q in
    record {
      within = (reached_is_a_front calls (made past) u o).1 l;
      clock = λ t n p has m there.
          let same : u ≡ t = cc in
          subst (λ i. (n < made past + reached calls (made past) u) ↔ (p.0 ≤ i)) same ((reached_is_a_front calls (made past) u o).0 n p m there);
      other = λ never. absurd (never u (refl, is.0, is.1));
    }
made_before_clock calls past u false o l q =
    made_before_other calls past (v.Clock u) l (λ t has. let same : u ≡ t = cc in false≢true (sym q ∙ (ap (is_accepted (now_of calls past)) same ∙ accepts (now_of calls past) t has.1 has.2)))

made_before : (calls : List Planned) (past : List Happening) (event : Event) → IsOrderly calls → made past ≤ length calls → IsMadeBefore calls past event (calls_before calls (made past) (now_of calls past) event)
made_before calls past (v.Clock u) o l = made_before_clock calls past u (is_accepted (now_of calls past) u) o l refl
made_before calls past (v.Start w) o l = made_before_other calls past (v.Start w) l (λ t has. let other : v.Start w ≡ v.Clock t = has.0 in absurd cc)
made_before calls past (v.Finish w ending) o l = made_before_other calls past (v.Finish w ending) l (λ t has. let other : v.Finish w ending ≡ v.Clock t = has.0 in absurd cc)
made_before calls past (v.Cancel k) o l = made_before_other calls past (v.Cancel k) l (λ t has. let other : v.Cancel k ≡ v.Clock t = has.0 in absurd cc)

-- the law that a flow makes the calls that accepted clocks reach
pub flow_makes_what_is_reached : FlowMakesWhatIsReached
flow_makes_what_is_reached calls before event o =
    let past = flow calls before in
    (calls_before calls (made past) (now_of calls past) event, made_before calls past event o (made_flow calls before o), refl)

may_come_at : (calls : List Planned) (workers : ℕ) (history : List HistoryEntry) (later past : List Happening) (happening : Happening) → IsHistoryOf calls workers history →
    happenings history ≡ later ++ happening ∷ past → MayCome calls past happening
may_come_at calls workers [] [] past happening m q = absurd cc
may_come_at calls workers [] (x ∷ later) past happening m q = absurd cc
may_come_at calls workers (e ∷ history) [] past happening m q =
    let head : e.happening ≡ happening = cc in
    let rest : happenings history ≡ past = cc in
    subst (λ l. MayCome calls l happening) rest (subst (MayCome calls (happenings history)) head m.1)
may_come_at calls workers (e ∷ history) (x ∷ later) past happening m q =
    let rest : happenings history ≡ later ++ happening ∷ past = cc in
    may_come_at calls workers history later past happening m.0 rest

-- the law that each happening of a flow may come
pub flow_may_come : FlowMayCome
flow_may_come calls events later past happening o q =
    let history = one_history calls 0 events o in
    may_come_at calls 0 (history_of calls 0 events) later past happening history.0 (history.1 ∙ q)
