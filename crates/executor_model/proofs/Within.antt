-- The due moments that a history shows are within twice the limit of a moment.
use Rattle.std.proofs.Common.{◌≡◌, ℕ, ◌+◌, ◌≤◌, ◌==◌, nat_le, Bool, true, false, cond, List, [], ◌∷◌, Option, Some, None, refl, sym, arith, subst}
use Rattle.std.specs.Prelude.{slice_get, ◌^◌}
use Rattle.std.proofs.lemmas.Bool.{false≢true, eqb-true, and_parts, leb-true}
use Rattle.std.proofs.lemmas.Bool.Decides.{nat_tests}
use Rattle.sched_time.specs.declared.timing.Timing.{Timing}
use Rattle.sched_time.specs.declared.timing.Timing.TheVariants as t
use Rattle.queue_code.specs.declared.call.CodeCall.{CodeCall}
use Rattle.queue_code.specs.declared.call.CodeCall.TheVariants as c
use Rattle.executor_model.specs.declared.types.Happening.{Happening}
use Rattle.executor_model.specs.declared.types.Happening.TheVariants as h
use Rattle.executor_model.specs.declared.types.Answer.{Answer}
use Rattle.executor_model.specs.declared.types.Answer.TheVariants as a
use Rattle.queue_code.specs.Calls.{Planned, Terms, IsOrderly, IsOrderlyCall, IsOrderlyFrom, IsTimed, count_after, numbers, terms_of, terms_in, due_at}
use Rattle.executor_model.specs.View.{View, is_waiting}
use Rattle.executor_model.specs.Answers.{reply, moment_after, is_accepted}
use Rattle.executor_model.specs.Histories.{HistoryEntry, IsHistoryOf, view_of_history, happenings, made, now_of, is_start, is_finish, starts, last_finish, due_of}
use Rattle.executor_model.specs.State.{due_ahead}
use Rattle.executor_model.specs.Flows.{history_from}
use Rattle.executor_model.specs.Within.{IsAnsweredByTable}
use Rattle.executor_model.specs.own.Within.{IsWithin}
use Rattle.executor_model.proofs.Tables.{call_moment}
use Rattle.executor_model.proofs.Moves.{due_landed, due_after}
use Rattle.executor_model.proofs.Views.{due_moves}
use Rattle.executor_model.proofs.Sound.{first_is_enabled}
use Rattle.executor_model.proofs.Starting.{start_says}

-- ---- the terms of a task

call_due : (count k moment : ℕ) (call : CodeCall) (rest : Terms) → IsOrderlyCall count call → moment ≤ 2 ^ 62 → rest.first ≤ 2 ^ 63 → (terms_in k moment call rest).first ≤ 2 ^ 63
call_due count k moment (c.Submit task timing delay) rest o l m =
    let pick : (b : Bool) → (cond b (record { timing = timing; first = moment + delay }) rest).first ≤ 2 ^ 63 = elim [ true ↦ omega (arith, o.1, l) | false ↦ m ] in
    pick (task == k)
call_due count k moment call rest o l m = m

-- the first run of each task is due in time
pub first_within : (count moment : ℕ) (calls : List Planned) (k : ℕ) → IsOrderlyFrom count moment calls → (terms_of calls k).first ≤ 2 ^ 63
first_within count moment [] k o = omega arith
first_within count moment (x ∷ calls) k o = call_due count k x.0 x.1 (terms_of calls k) o.2 o.1 (first_within (count_after count x.1) x.0 calls k o.3)

call_timed : (count k moment : ℕ) (call : CodeCall) (rest : Terms) → IsOrderlyCall count call → IsTimed rest.timing → IsTimed (terms_in k moment call rest).timing
call_timed count k moment (c.Submit task timing delay) rest o l =
    let pick : (b : Bool) → IsTimed (cond b (record { timing = timing; first = moment + delay }) rest).timing = elim [ true ↦ o.2 | false ↦ l ] in
    pick (task == k)
call_timed count k moment call rest o l = l

-- the period, or the fixed delay, of each task is within the limit
pub timed_within : (count moment : ℕ) (calls : List Planned) (k : ℕ) → IsOrderlyFrom count moment calls → IsTimed (terms_of calls k).timing
timed_within count moment [] k o = tt
timed_within count moment (x ∷ calls) k o = call_timed count k x.0 x.1 (terms_of calls k) o.2 (timed_within (count_after count x.1) x.0 calls k o.3)

-- ---- now

moment_within : (calls : List Planned) (n now : ℕ) (y : Happening) → IsOrderly calls → now ≤ 2 ^ 62 → moment_after now (slice_get calls n) y ≤ 2 ^ 62
moment_within calls n now h.Call o l =
    let pick : (q : Option Planned) → slice_get calls n ≡ q → moment_after now q h.Call ≤ 2 ^ 62 =
    elim [ None ↦ λ is. l | Some p ↦ λ is. grind (arith, nat_tests, l, call_moment calls 0 0 n p.0 p.1 o is) ]
    in
    pick (slice_get calls n) refl
moment_within calls n now (h.Clock t) o l =
    let pick : (b : Bool) → is_accepted now t ≡ b → cond b t now ≤ 2 ^ 62 =
    elim [ true ↦ λ is. leb-true t (2 ^ 62) (and_parts (nat_le now t) (nat_le t (2 ^ 62)) is).1 | false ↦ λ is. l ]
    in
    pick (is_accepted now t) refl
moment_within calls n now (h.Start w) o l = l
moment_within calls n now (h.Finish w ending) o l = l
moment_within calls n now (h.Cancel k) o l = l
moment_within calls n now h.Purge o l = l

-- it never passes the limit of a moment
pub now_within : (calls : List Planned) (past : List Happening) → IsOrderly calls → now_of calls past ≤ 2 ^ 62
now_within calls [] o = omega arith
now_within calls (y ∷ past) o = moment_within calls (made past) (now_of calls past) y o (now_within calls past o)

-- a task that starts was due
start_was_due : (calls : List Planned) (workers : ℕ) (v : View) (y : Happening) (k : ℕ) (answer : Answer) → answer ≡ (reply calls workers v y).answer → is_start k answer ≡ true → (v.fate k).due ≤ v.moment
start_was_due calls workers v y k (a.Start w j n d) is q =
    let said = start_says calls workers v y w j n d (sym is) in
    let parts = and_parts (is_waiting (v.fate j)) (nat_le (v.fate j).due v.moment) (first_is_enabled v (numbers calls) j said.first) in
    subst (λ i. (v.fate i).due ≤ v.moment) (eqb-true j k q) (leb-true (v.fate j).due v.moment parts.1)
start_was_due calls workers v y k answer is q = absurd (false≢true q)

-- ---- the due moments

ahead_within : (timing : Timing) (due now : ℕ) → IsTimed timing → due ≤ now → now ≤ 2 ^ 62 → due_ahead timing due ≤ 2 ^ 63
ahead_within t.Once due now o l m = omega arith
ahead_within (t.Rate period) due now o l m = omega (arith, o, l, m)
ahead_within (t.Fixed delay) due now o l m = omega arith

landed_within : (timing : Timing) (due now : ℕ) → IsTimed timing → due ≤ 2 ^ 63 → now ≤ 2 ^ 62 → due_landed timing due now ≤ 2 ^ 63
landed_within t.Once due now o l m = l
landed_within (t.Rate period) due now o l m = l
landed_within (t.Fixed delay) due now o l m = omega (arith, o, m)

after_within : (timing : Timing) (due now : ℕ) (b c : Bool) → IsTimed timing → due ≤ 2 ^ 63 → now ≤ 2 ^ 62 → (b ≡ true → due ≤ now) → due_after timing due now b c ≤ 2 ^ 63
after_within timing due now true true o l m reached = landed_within timing (due_ahead timing due) now o (ahead_within timing due now o (reached refl) m) m
after_within timing due now true false o l m reached = ahead_within timing due now o (reached refl) m
after_within timing due now false true o l m reached = landed_within timing due now o l m
after_within timing due now false false o l m reached = l

first_due : (terms : Terms) → terms.first ≤ 2 ^ 63 → due_at terms 0 None ≤ 2 ^ 63
first_due terms l = by terms.timing
  where
    by : (timing : Timing) → due_at (record { timing = timing; first = terms.first }) 0 None ≤ 2 ^ 63
    by t.Once = l
    by (t.Rate period) = omega (arith, l)
    by (t.Fixed delay) = l

-- each due moment that a history shows is at most 2^63
pub answered_within : (calls : List Planned) (workers : ℕ) (past : List HistoryEntry) → IsOrderly calls → IsAnsweredByTable calls workers past → IsWithin calls past
answered_within calls workers [] o m k = first_due (terms_of calls k) (first_within 0 0 calls k o)
answered_within calls workers (e ∷ past) o m k =
    let terms = terms_of calls k in
    let now = now_of calls (happenings past) in
    let b = is_start k e.answer in
    let c = is_finish k e.answer in
    let moved = due_moves terms (starts k past) now (last_finish calls k past) b c in
    subst (λ d. d ≤ 2 ^ 63) moved
    (after_within terms.timing (due_of calls past k) now b c (timed_within 0 0 calls k o) (answered_within calls workers past o m.0 k) (now_within calls (happenings past) o)
    (λ q. start_was_due calls workers (view_of_history calls past) e.happening k e.answer m.1 q))

-- as in a history that means the calls
pub means_answered : (calls : List Planned) (workers : ℕ) (past : List HistoryEntry) → IsHistoryOf calls workers past → IsAnsweredByTable calls workers past
means_answered calls workers [] m = tt
means_answered calls workers (e ∷ past) m = (means_answered calls workers past m.0, m.2, m.3)

-- each due moment that a history shows is at most 2^63
pub dues_within : (calls : List Planned) (workers : ℕ) (past : List HistoryEntry) → IsOrderly calls → IsHistoryOf calls workers past → IsWithin calls past
dues_within calls workers past o m = answered_within calls workers past o (means_answered calls workers past m)

-- a history that is made longer by answers of the table is answered so
pub answered_from : (calls : List Planned) (workers : ℕ) (past : List HistoryEntry) (more : List Happening) → IsAnsweredByTable calls workers past → IsAnsweredByTable calls workers (history_from calls workers past more)
answered_from calls workers past [] m = m
answered_from calls workers past (y ∷ more) m = (answered_from calls workers past more m, refl, refl)

-- the due moment after a finish now
pub next_within : (calls : List Planned) (past : List HistoryEntry) (k : ℕ) → IsOrderly calls → IsWithin calls past → due_at (terms_of calls k) (starts k past) (Some (now_of calls (happenings past))) ≤ 2 ^ 63
next_within calls past k o within =
    let terms = terms_of calls k in
    let now = now_of calls (happenings past) in
    subst (λ d. d ≤ 2 ^ 63) (due_moves terms (starts k past) now (last_finish calls k past) false true)
    (after_within terms.timing (due_of calls past k) now false true (timed_within 0 0 calls k o) (within k) (now_within calls (happenings past) o) (λ q. absurd (false≢true q)))

-- the first due moment of each task is at most 2^63
pub none_within : (calls : List Planned) (k : ℕ) → IsOrderly calls → due_at (terms_of calls k) 0 None ≤ 2 ^ 63
none_within calls k o = first_due (terms_of calls k) (first_within 0 0 calls k o)
