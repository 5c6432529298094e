-- What the next call of a history submits comes later than all that was submitted before: it is due at its moment at the
-- earliest, which is not before now, and has a greater number.
use Rattle.std.proofs.Common.{◌≡◌, ℕ, ◌+◌, ◌<◌, ◌≤◌, zero, suc, Bool, true, false, cond, List, [], ◌∷◌, take, get_or, Option, Some, None, refl, sym, ap, ◌∙◌, arith, subst}
use Rattle.std.specs.Prelude.{slice_get, max, nat_le}
use Rattle.std.specs.Option.{option_map_or}
use Rattle.std.proofs.lemmas.Bool.{eq-eqb, leb-true}
use Rattle.std.proofs.lemmas.Bool.Decides.{nat_tests}
use Rattle.std.proofs.lemmas.Option.{none-some, same_Some, slice_get-get_or}
use Rattle.sched_time.specs.Dues.{due_of_run}
use Rattle.sched_time.specs.declared.timing.Timing.{Timing}
use Rattle.sched_time.specs.declared.timing.Timing.TheVariants as t
use Rattle.queue_code.specs.declared.call.CodeCall.{CodeCall}
use Rattle.queue_code.specs.declared.call.CodeCall.TheVariants as c
use Rattle.executor_model.specs.declared.types.Happening.{Happening}
use Rattle.executor_model.specs.declared.types.Happening.TheVariants as h
use Rattle.executor_model.specs.declared.types.Kind.{Kind}
use Rattle.executor_model.specs.declared.types.Refusal.TheVariants as refusal
use Rattle.executor_model.specs.declared.types.Answer.{Answer}
use Rattle.executor_model.specs.declared.types.Answer.TheVariants as a
use Rattle.queue_code.specs.Calls.{Planned, IsOrderly, task_count, submits_task, Terms, terms_of, due_at}
use Rattle.executor_model.specs.View.{View, is_waiting}
use Rattle.executor_model.specs.Answers.{bare, reply, called, kind_of, is_accepted, moment_after, swept}
use Rattle.executor_model.specs.Histories.{HistoryEntry, IsHistoryOf, MayFrom, happenings, made, made_after, now_of, view_of_history, is_submit}
use Rattle.executor_model.proofs.Tables.{next_later}
use Rattle.executor_laws.specs.Positions.{IsSubmissionOf}
use Rattle.executor_laws.proofs.Reading.{tasks_are_submitted, terms_are_its_own}
use Rattle.executor_laws.proofs.Waiting.{submit_says, waiting_is_a_task}

-- ---- its moment

-- a happening leaves now at or before the next call, where it was so before it
now_stays : (calls : List Planned) (n now : ℕ) (y : Happening) (q : Planned) → IsOrderly calls → MayFrom calls n now y → ((p : Planned) → slice_get calls n ≡ Some p → now ≤ p.0) →
    slice_get calls (made_after n y) ≡ Some q → moment_after now (slice_get calls n) y ≤ q.0
now_stays calls n now h.Call q o may before next = by (slice_get calls n) refl
  where
    by : (x : Option Planned) → slice_get calls n ≡ x → option_map_or (λ (p : Planned). max now p.0) x now ≤ q.0
    by None is = absurd (none-some (get_or calls n q) (sym is ∙ slice_get-get_or calls n q may))
    by (Some p) is =
        let low : now ≤ p.0 = before p is in
        let shift : suc n ≡ 1 + n = omega arith in
        let rise : p.0 ≤ q.0 = next_later calls 0 0 n p q o is (ap (slice_get calls) shift ∙ next) in
        grind (arith, nat_tests, low, rise)
now_stays calls n now (h.Clock moment) q o may before next = by (is_accepted now moment) refl
  where
    reached : (b : Bool) → nat_le q.0 moment ≡ b → is_accepted now moment ≡ true → moment ≤ q.0
    reached true le is = let below = may is n q next (leb-true q.0 moment le) in absurd (omega (arith, below))
    reached false gt is = grind (arith, nat_tests, gt)

    by : (b : Bool) → is_accepted now moment ≡ b → cond b moment now ≤ q.0
    by false is = before q next
    by true is = reached (nat_le q.0 moment) refl is
now_stays calls n now (h.Start w) q o may before next = before q next
now_stays calls n now (h.Finish w ending) q o may before next = before q next
now_stays calls n now (h.Cancel k) q o may before next = before q next
now_stays calls n now h.Purge q o may before next = before q next

made_next : (y : Happening) (past : List Happening) → made (y ∷ past) ≡ made_after (made past) y
made_next h.Call past = refl
made_next (h.Clock moment) past = refl
made_next (h.Start w) past = refl
made_next (h.Finish w ending) past = refl
made_next (h.Cancel k) past = refl
made_next h.Purge past = refl

-- the next call of a history is not before now
pub next_not_before : (calls : List Planned) (workers : ℕ) (past : List HistoryEntry) (p : Planned) → IsOrderly calls → IsHistoryOf calls workers past →
    slice_get calls (made (happenings past)) ≡ Some p → now_of calls (happenings past) ≤ p.0
next_not_before calls workers [] p o m q = omega arith
next_not_before calls workers (e ∷ past) p o m q =
    now_stays calls (made (happenings past)) (now_of calls (happenings past)) e.happening p o m.1
    (λ r at. next_not_before calls workers past r o m.0 at)
    (ap (slice_get calls) (sym (made_next e.happening (happenings past))) ∙ q)

-- ---- its number

submits : (k : ℕ) (call : CodeCall) → IsSubmissionOf k call → submits_task call ≡ true
submits k (c.Submit task timing delay) s = refl
submits k (c.Illegal task) s = refl
submits k call s = absurd s

-- a longer front of the calls has more submissions where one stands between
more_submissions : (calls : List Planned) (n m : ℕ) (p : Planned) → slice_get calls n ≡ Some p → submits_task p.1 ≡ true → n < m → task_count (take n calls) < task_count (take m calls)
more_submissions [] n m p is s l = absurd (none-some p is)
more_submissions (x ∷ calls) zero zero p is s l = absurd (omega (arith, l))
more_submissions (x ∷ calls) zero (suc m) p is s l =
    let counted : submits_task x.1 ≡ true = ap (λ (y : Planned). submits_task y.1) (same_Some x p is) ∙ s in
    let rest = task_count (take m calls) in
    let one : task_count (take (suc m) (x ∷ calls)) ≡ 1 + rest = ap (λ b. cond b (1 + rest) rest) counted in
    omega (arith, one)
more_submissions (x ∷ calls) (suc n) zero p is s l = absurd (omega (arith, l))
more_submissions (x ∷ calls) (suc n) (suc m) p is s l = by (submits_task x.1) (more_submissions calls n m p is s (omega (arith, l)))
  where
    by : (b : Bool) → task_count (take n calls) < task_count (take m calls) →
        cond b (1 + task_count (take n calls)) (task_count (take n calls)) < cond b (1 + task_count (take m calls)) (task_count (take m calls))
    by true rest = omega (arith, rest)
    by false rest = rest

-- of two submissions the later one has the greater number
pub numbers_rise : (calls : List Planned) (n m k j : ℕ) (p q : Planned) → IsOrderly calls → slice_get calls n ≡ Some p → IsSubmissionOf k p.1 → slice_get calls m ≡ Some q → IsSubmissionOf j q.1 → n < m → k < j
numbers_rise calls n m k j p q o at_n k_is at_m j_is l =
    let first = (tasks_are_submitted calls k o).0 ((tasks_are_submitted calls k o).1 n p at_n k_is) in
    let second = (tasks_are_submitted calls j o).0 ((tasks_are_submitted calls j o).1 m q at_m j_is) in
    let here : k ≡ task_count (take n calls) = subst (λ i. k ≡ task_count (take i calls)) (sym (first.only n p at_n k_is)) first.number in
    let there : j ≡ task_count (take m calls) = subst (λ i. j ≡ task_count (take i calls)) (sym (second.only m q at_m j_is)) second.number in
    let more = more_submissions calls n m p at_n (submits k p.1 k_is) l in
    omega (arith, here, there, more)

-- ---- its answer

-- a call whose answer accepts a task is its submission
record IsSubmit (call : CodeCall) (k : ℕ) : Type 0 where
  timing : Timing
  delay : ℕ
  is : call ≡ c.Submit k timing delay

called_submits : (calls : List Planned) (v : View) (call : CodeCall) (k : ℕ) (kind : Kind) (at : ℕ) → (called calls v call).answer ≡ a.Submit k kind at → IsSubmit call k
called_submits calls v (c.Submit task timing delay) k kind at q = by v.shut q
  where
    by : (b : Bool) → cond b (a.Refuse task refusal.Rejected) (a.Submit task (kind_of timing) (due_at (terms_of calls task) 0 None)) ≡ a.Submit k kind at → IsSubmit (c.Submit task timing delay) k
    by true q = absurd cc
    by false q = let same : task ≡ k = cc in record { timing = timing; delay = delay; is = ap (λ n. c.Submit n timing delay) same }
called_submits calls v (c.Illegal task) k kind at q = absurd cc
called_submits calls v (c.Cancel task) k kind at q = absurd cc
called_submits calls v (c.SetPolicy which value) k kind at q = absurd cc
called_submits calls v c.Shutdown k kind at q = by v.shut q
  where
    by : (b : Bool) → (cond b (bare a.ShutdownAgain) (record { answer = a.Shutdown; ends = swept calls v v.policies })).answer ≡ a.Submit k kind at → IsSubmit c.Shutdown k
    by true q = absurd cc
    by false q = absurd cc
called_submits calls v c.ShutdownNow k kind at q = absurd cc
called_submits calls v c.Ask k kind at q = absurd cc

first_due : (timing : Timing) (first : ℕ) → due_of_run timing first 0 None ≡ first
first_due t.Once first = refl
first_due (t.Rate period) first = omega arith
first_due (t.Fixed delay) first = refl

-- what is so of the answer to the next call is so of the answer to this one, where it is the next
by_call : (calls : List Planned) (v : View) (next : Option Planned) (p : Planned) → next ≡ Some p → (P : Answer → Type 0) →
    P (option_map_or (λ (p : Planned). called calls (record v { moment = max v.moment p.0 }) p.1) next (bare a.Clock)).answer → P (called calls (record v { moment = max v.moment p.0 }) p.1).answer
by_call calls v next p is P here = subst (λ (x : Option Planned). P (option_map_or (λ (p : Planned). called calls (record v { moment = max v.moment p.0 }) p.1) x (bare a.Clock)).answer) is here

-- an accepted task is due at now or later, and has a greater number than each task that waits
pub accepted_behind : (calls : List Planned) (workers : ℕ) (past : List HistoryEntry) (y : Happening) (j k at : ℕ) (kind : Kind) → IsOrderly calls → IsHistoryOf calls workers past →
    (reply calls workers (view_of_history calls past) y).answer ≡ a.Submit j kind at → at ≡ due_at (terms_of calls j) 0 None → is_waiting ((view_of_history calls past).fate k) ≡ true →
    (now_of calls (happenings past) ≤ at) × (k < j)
accepted_behind calls workers past y j k at kind o m said due waits =
    let v = view_of_history calls past in
    let says = submit_says calls workers v y j (ap (is_submit j) said ∙ eq-eqb j j refl) in
    let p = says.call in
    let here : (reply calls workers v h.Call).answer ≡ a.Submit j kind at = sym (ap (λ z. (reply calls workers v z).answer) says.is) ∙ said in
    let made_it : (called calls (record v { moment = max v.moment p.0 }) p.1).answer ≡ a.Submit j kind at =
    by_call calls v (slice_get calls v.made) p says.there (λ answer. answer ≡ a.Submit j kind at) here
    in
    let call = called_submits calls (record v { moment = max v.moment p.0 }) p.1 j kind at made_it in
    let there : slice_get calls (made (happenings past)) ≡ Some (p.0, c.Submit j call.timing call.delay) = says.there ∙ ap (λ (x : CodeCall). Some (p.0, x)) call.is in
    let terms : terms_of calls j ≡ record { timing = call.timing; first = p.0 + call.delay } = terms_are_its_own calls (made (happenings past)) p.0 j call.timing call.delay o there in
    let is : at ≡ p.0 + call.delay = due ∙ (ap (λ (x : Terms). due_at x 0 None) terms ∙ first_due call.timing (p.0 + call.delay)) in
    let low : now_of calls (happenings past) ≤ p.0 = next_not_before calls workers past p o m says.there in
    let was = (waiting_is_a_task calls workers past k o m waits).1 in
    (omega (arith, is, low), numbers_rise calls was.place (made (happenings past)) k j was.call p o was.there was.submits says.there says.submits was.before)
