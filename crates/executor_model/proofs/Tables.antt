-- Tables of tasks and workers as lists, and the numbers of submissions.
use Rattle.std.proofs.Common.{◌≡◌, ℕ, ◌+◌, ◌^◌, ◌<◌, ◌≤◌, ◌==◌, zero, suc, Bool, true, false, cond, List, [], ◌∷◌, length, take, Option, Some, None, refl, sym, ap, ◌∙◌, arith, subst}
use Rattle.std.specs.Prelude.{slice_get, slice_index_or, replicate, is_some, not}
use Rattle.std.proofs.Math.ListN.{set}
use Rattle.std.proofs.lemmas.Bool.{false≢true, eqb-true, eqb-false, eq-eqb, false_from_ne_true}
use Rattle.std.proofs.lemmas.Option.{none-some, same_Some}
use Rattle.std.proofs.lemmas.List.{get_or-set_same, get_or-set_other}
use Rattle.queue_code.specs.declared.call.CodeCall.{CodeCall}
use Rattle.queue_code.specs.declared.call.CodeCall.TheVariants as c
use Rattle.sched_time.specs.declared.timing.Timing.{Timing}
use Rattle.executor_model.specs.declared.task.Task.{Task}
use Rattle.executor_model.specs.State.{vacant}
use Rattle.executor_model.specs.Tasks.{uncancelled_in}
use Rattle.queue_code.specs.Calls.{Planned, IsOrderlyFrom, IsOrderlyCall, count_after, submits_task, task_count, terms_of}

-- a table after a write
pub at_set : {X : Type 0} (xs : List X) (k j : ℕ) (x d : X) → k < length xs → slice_index_or (set xs k x) j d ≡ cond (k == j) x (slice_index_or xs j d)
at_set xs k j x d low =
    let pick : (b : Bool) → (k == j) ≡ b → slice_index_or (set xs k x) j d ≡ cond b x (slice_index_or xs j d) =
    elim [
      | true ↦ λ same. ap (λ i. slice_index_or (set xs k x) i d) (sym (eqb-true k j same)) ∙ get_or-set_same xs k x d low
      | false ↦ λ apart. get_or-set_other xs k j x d (λ e. eqb-false k j apart (sym e))
    ]
    in
    pick (k == j) refl

-- a table of one item, past its end too
pub at_replicate : {X : Type 0} (n j : ℕ) (x : X) → slice_index_or (replicate n x) j x ≡ x
at_replicate zero j x = refl
at_replicate (suc n) zero x = refl
at_replicate (suc n) (suc j) x = at_replicate n j x

-- submissions have their numbers

-- what a submission says, where this many submissions stand before the calls
pub record Submission (calls : List Planned) (count n at task : ℕ) (timing : Timing) (delay : ℕ) : Type 0 where
  pub terms : terms_of calls task ≡ record { timing = timing; first = at + delay }
  pub number : task ≡ count + task_count (take n calls)
  pub more : count + task_count (take (suc n) calls) ≡ task + 1
  pub below : task < count + task_count calls
  pub moment : at ≤ 2 ^ 62
  pub within : delay ≤ 2 ^ 62

-- where the calls after the first one have it
later_submission : (calls : List Planned) (first count n at task : ℕ) (call : CodeCall) (timing : Timing) (delay : ℕ) → IsOrderlyCall count call →
    Submission calls (count_after count call) n at task timing delay → Submission ((first, call) ∷ calls) count (suc n) at task timing delay
later_submission calls first count n at task (c.Submit j how d) timing delay o rest =
    let apart : (j == task) ≡ false = false_from_ne_true (j == task) (λ e. absurd (omega (arith, rest.number, o.0, eqb-true j task e))) in
    record {
      terms = ap (λ b. cond b (record { timing = how; first = first + d }) (terms_of calls task)) apart ∙ rest.terms;
      number = omega (arith, rest.number);
      more = omega (arith, rest.more);
      below = omega (arith, rest.below);
      moment = rest.moment;
      within = rest.within;
    }
later_submission calls first count n at task (c.Illegal j) timing delay o rest = record {
  terms = rest.terms;
  number = omega (arith, rest.number);
  more = omega (arith, rest.more);
  below = omega (arith, rest.below);
  moment = rest.moment;
  within = rest.within;
}
later_submission calls first count n at task call timing delay o rest = record { terms = rest.terms; number = rest.number; more = rest.more; below = rest.below; moment = rest.moment; within = rest.within }

-- where the first call is it
first_submission : (calls : List Planned) (count at task : ℕ) (timing : Timing) (delay : ℕ) → at ≤ 2 ^ 62 → IsOrderlyCall count (c.Submit task timing delay) → Submission ((at, c.Submit task timing delay) ∷ calls) count zero at task timing delay
first_submission calls count at task timing delay near o = record {
  terms = ap (λ b. cond b (record { timing = timing; first = at + delay }) (terms_of calls task)) (eq-eqb task task refl);
  number = omega (arith, o.0);
  more = omega (arith, o.0);
  below = omega (arith, o.0);
  moment = near;
  within = omega (arith, o.1);
}

-- what the submission at a place of the calls says
pub submission : (calls : List Planned) (count moment n at task : ℕ) (timing : Timing) (delay : ℕ) → IsOrderlyFrom count moment calls → slice_get calls n ≡ Some (at, c.Submit task timing delay) →
    Submission calls count n at task timing delay
submission [] count moment n at task timing delay o q = absurd (none-some _ q)
submission (p ∷ calls) count moment zero at task timing delay o q =
    let same : p ≡ (at, c.Submit task timing delay) = same_Some p (at, c.Submit task timing delay) q in
    let near : at ≤ 2 ^ 62 = omega (arith, o.1, ap (λ (x : Planned). x.0) same) in
    subst (λ x. Submission (x ∷ calls) count zero at task timing delay) (sym same)
    (first_submission calls count at task timing delay near (subst (λ (x : Planned). IsOrderlyCall count x.1) same o.2))
submission (p ∷ calls) count moment (suc n) at task timing delay o q =
    later_submission calls p.0 count n at task p.1 timing delay o.2 (submission calls (count_after count p.1) p.0 n at task timing delay o.3 q)

-- each call has a moment within the limit, and stands where it does
pub call_moment : (calls : List Planned) (count moment n at : ℕ) (call : CodeCall) → IsOrderlyFrom count moment calls → slice_get calls n ≡ Some (at, call) → at ≤ 2 ^ 62
call_moment [] count moment n at call o q = absurd (none-some _ q)
call_moment (p ∷ calls) count moment zero at call o q = omega (arith, o.1, ap (λ (x : Planned). x.0) (same_Some p (at, call) q))
call_moment (p ∷ calls) count moment (suc n) at call o q = call_moment calls (count_after count p.1) p.0 n at call o.3 q

-- a call is not before the moment that calls in order begin with
call_later : (calls : List Planned) (count moment n : ℕ) (p : Planned) → IsOrderlyFrom count moment calls → slice_get calls n ≡ Some p → moment ≤ p.0
call_later [] count moment n p o q = absurd (none-some _ q)
call_later (x ∷ calls) count moment zero p o q = omega (arith, o.0, ap (λ (y : Planned). y.0) (same_Some x p q))
call_later (x ∷ calls) count moment (suc n) p o q = omega (arith, o.0, call_later calls (count_after count x.1) x.0 n p o.3 q)

-- the call behind another one is not before it
pub next_later : (calls : List Planned) (count moment n : ℕ) (p q : Planned) → IsOrderlyFrom count moment calls → slice_get calls n ≡ Some p → slice_get calls (suc n) ≡ Some q → p.0 ≤ q.0
next_later [] count moment n p q o is next = absurd (none-some _ is)
next_later (x ∷ calls) count moment zero p q o is next = omega (arith, ap (λ (y : Planned). y.0) (same_Some x p is), call_later calls (count_after count x.1) x.0 0 q o.3 next)
next_later (x ∷ calls) count moment (suc n) p q o is next = next_later calls (count_after count x.1) x.0 n p q o.3 is next

-- a front of the calls has no more submissions than a longer one
pub count_grows : (calls : List Planned) (n : ℕ) → task_count (take n calls) ≤ task_count (take (suc n) calls)
count_grows [] zero = omega arith
count_grows [] (suc n) = omega arith
count_grows (p ∷ calls) zero = omega arith
count_grows (p ∷ calls) (suc n) =
    let rest = count_grows calls n in
    let pick : (b : Bool) → cond b (1 + task_count (take n calls)) (task_count (take n calls)) ≤ cond b (1 + task_count (take (suc n) calls)) (task_count (take (suc n) calls)) =
    elim [ true ↦ omega (arith, rest) | false ↦ rest ]
    in
    pick (submits_task p.1)

-- an option without a value is none
pub none_of : {X : Type 0} (o : Option X) → false ≡ is_some o → o ≡ None
none_of None q = refl
none_of (Some x) q = absurd (false≢true q)

-- no more tasks are not cancelled, where one is written that is cancelled or stands for one that was not
pub uncancelled_set : (tasks : List Task) (k : ℕ) (task : Task) → k < length tasks → (task.cancelled ≡ false → (slice_index_or tasks k vacant).cancelled ≡ false) → uncancelled_in (set tasks k task) ≤ uncancelled_in tasks
uncancelled_set [] k task low same = absurd (omega (arith, low))
uncancelled_set (x ∷ tasks) zero task low same =
    let pick : (b c : Bool) → (b ≡ false → c ≡ false) → cond (not b) (1 + uncancelled_in tasks) (uncancelled_in tasks) ≤ cond (not c) (1 + uncancelled_in tasks) (uncancelled_in tasks) =
    elim [ true ↦ elim [ true ↦ λ q. omega arith | false ↦ λ q. omega arith ] | false ↦ elim [ true ↦ λ q. absurd (false≢true (sym (q refl))) | false ↦ λ q. omega arith ] ]
    in
    pick task.cancelled x.cancelled same
uncancelled_set (x ∷ tasks) (suc k) task low same =
    let rest = uncancelled_set tasks k task (omega (arith, low)) same in
    let pick : (b : Bool) → cond b (1 + uncancelled_in (set tasks k task)) (uncancelled_in (set tasks k task)) ≤ cond b (1 + uncancelled_in tasks) (uncancelled_in tasks) =
    elim [ true ↦ omega (arith, rest) | false ↦ rest ]
    in
    pick (not x.cancelled)
