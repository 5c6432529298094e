-- The submission of a task that is accepted: its slot is empty, and it is placed there.
use Rattle.std.proofs.Common.{zero, suc, ◌≡◌, ℕ, ◌+◌, ◌^◌, ◌<◌, ◌≤◌, ◌==◌, Bool, true, List, [], ◌∷◌, length, Option, Some, None, refl, sym, ap, ◌∙◌, arith, subst}
use Rattle.std.specs.Prelude.{slice_get}
use Rattle.std.proofs.lemmas.Bool.{eq-eqb}
use Rattle.std.proofs.lemmas.List.{length-set}
use Rattle.std.proofs.lemmas.Option.{none-some, same_Some}
use Rattle.sched_time.specs.declared.timing.Timing.{Timing}
use Rattle.queue_code.specs.declared.call.CodeCall.TheVariants as c
use Rattle.queue_code.specs.Calls.{Planned, IsTimed, IsOrderlyFrom, IsOrderlyCall, count_after}
use Rattle.executor_model.specs.declared.types.Happening.TheVariants as h
use Rattle.executor_model.specs.declared.types.Answer.{Answer}
use Rattle.executor_model.specs.declared.types.Answer.TheVariants as a
use Rattle.executor_model.specs.declared.types.Refusal.TheVariants as refusal
use Rattle.executor_model.specs.Answers.{bare, kind_of}
use Rattle.executor_model.specs.declared.task.Stage.TheVariants as ph
use Rattle.executor_model.specs.declared.task.Task.{Task}
use Rattle.executor_model.specs.Tasks.{uncancelled_in}
use Rattle.executor_model.proofs.Tables.{submission}
use Rattle.task_table.specs.declared.seat.Seat.{Seat}
use Rattle.task_table.specs.Seats.{slot_of, IsNew}
use Rattle.task_table.specs.Tables.{TableView, CallSteps}
use Rattle.task_table.specs.Changes.{submitted, admitted, at_moment}
use Rattle.task_table.proofs.Vacancy.{IsOther}
use Rattle.executor_core.specs.plan_table.Numbered.{task_at, tasks_at}
use Rattle.executor_core.specs.own.Invariants.{core_of, ArePlaced, IsCore}
use Rattle.executor_core.specs.own.OwnSteps.{Takes}
use Rattle.executor_core.proofs.Reaching.{count_tasks, read_task, core_known, there_said}
use Rattle.executor_core.proofs.Placing.{put_placed, put_empty, put_uncancelled}
use Rattle.executor_core.proofs.Landing.{refused_gone}
use Rattle.executor_core.proofs.NextCalls.{NextCall, call_gone, call_takes, call_stays}

-- what a submission that is next finds
pub record Submits (t : TableView) (task delay : ℕ) (timing : Timing) : Type 0 where
  pub low : task < length t.slots
  pub empty : slot_of t.slots task ≡ None
  pub new : IsNew t.slots task
  pub span : delay ≤ 2 ^ 62
  pub timed : IsTimed timing
  pub own : (task == task) ≡ true

-- how a submission of the calls is timed
timed_there : (calls : List Planned) (count moment n at task delay : ℕ) (timing : Timing) → IsOrderlyFrom count moment calls → slice_get calls n ≡ Some (at, c.Submit task timing delay) → IsTimed timing
timed_there [] count moment n at task delay timing o q = absurd (none-some _ q)
timed_there (p ∷ calls) count moment zero at task delay timing o q = let call : IsOrderlyCall count (c.Submit task timing delay) = subst (λ (x : Planned). IsOrderlyCall count x.1) (same_Some p (at, c.Submit task timing delay) q) o.2 in call.2
timed_there (p ∷ calls) count moment (suc n) at task delay timing o q = timed_there calls (count_after count p.1) p.0 n at task delay timing o.3 q

-- a task in a slot was submitted
not_vacant : (o : Option Seat) → (task_at o).phase ≡ ph.Vacant → ((x : Seat) → o ≡ Some x → x.phase ≡ ph.Vacant → ⊥) → o ≡ None
not_vacant None phase used = refl
not_vacant (Some x) phase used = absurd (used x refl phase)

pub submits : (calls : List Planned) (limit taken count : ℕ) (t : TableView) (sought : Bool) (at task delay : ℕ) (timing : Timing) (f : IsCore (core_of calls limit taken count t) t sought) → slice_get calls count ≡ Some (at, c.Submit task timing delay) → Submits t task delay timing
submits calls limit taken count t sought at task delay timing f is =
    let sub = submission calls 0 0 count at task timing delay f.orderly.1 is in
    let vacant_there = (core_known calls limit taken count t f.past f.reached f.placed).fresh task (omega (arith, sub.number)) in
    let phase : (task_at (slot_of t.slots task)).phase ≡ ph.Vacant = ap (λ (x : Task). x.phase) (sym (read_task t.slots task) ∙ vacant_there) in
    let empty : slot_of t.slots task ≡ None = not_vacant (slot_of t.slots task) phase (λ x q. (f.placed task x q).submitted) in
    record {
      low = omega (arith, sub.below, f.count, count_tasks t.slots);
      empty = empty;
      new = λ i x q e. none-some x (sym empty ∙ (ap (slot_of t.slots) (sym e ∙ (f.placed i x q).named) ∙ q));
      span = sub.within;
      timed = timed_there calls 0 0 count at task delay timing f.orderly.1 is;
      own = eq-eqb task task refl;
    }

-- it is placed in its slot
pub submitted_placed : (taken : ℕ) (t : TableView) (task at delay : ℕ) (timing : Timing) → Submits t task delay timing → ArePlaced taken t.slots → ArePlaced taken (admitted t task task at timing delay).slots
submitted_placed taken t task at delay timing s placed =
    put_placed taken t.slots task (submitted task timing (at + delay)) s.low placed (record { named = refl; submitted = λ e. cc; below = omega arith; begun = λ e. absurd cc })

same_task : (task task' delay delay' : ℕ) (timing timing' : Timing) → c.Submit task timing delay ≡ c.Submit task' timing' delay' → task ≡ task'
same_task task task' delay delay' timing timing' e = cc

-- a slot that is empty after it was so before, and is that of another task
pub submitted_empty : (t : TableView) (task at delay : ℕ) (timing : Timing) → Submits t task delay timing → (i : ℕ) → slot_of (admitted t task task at timing delay).slots i ≡ None → (slot_of t.slots i ≡ None) × IsOther i (c.Submit task timing delay)
submitted_empty t task at delay timing s i q =
    let e = put_empty t.slots task i (submitted task timing (at + delay)) s.low q in
    (e.1, λ other how far same. ap (λ k. k == i) (sym (same_task task other delay far timing how same)) ∙ e.0)

-- no more tasks are not cancelled
pub submitted_uncancelled : (t : TableView) (task at delay : ℕ) (timing : Timing) → Submits t task delay timing → uncancelled_in (tasks_at (admitted t task task at timing delay).slots) ≤ uncancelled_in (tasks_at t.slots)
submitted_uncancelled t task at delay timing s = put_uncancelled t.slots task (submitted task timing (at + delay)) s.low (λ q. ap (λ o. (task_at o).cancelled) s.empty)

-- ---- the steps

-- the step of a submission, and what stays true of the core
pub record Submitted (calls : List Planned) (limit taken count : ℕ) (t u : TableView) (sought : Bool) (answer : Answer) : Type 0 where
  pub takes : Takes (core_of calls limit taken count t) (core_of calls limit taken (count + 1) u) h.Call answer
  pub core : IsCore (core_of calls limit taken (count + 1) u) u sought
  pub fewer : uncancelled_in (tasks_at u.slots) ≤ uncancelled_in (tasks_at t.slots)

-- a task is accepted
pub accepts : (calls : List Planned) (limit taken count : ℕ) (t u : TableView) (sought : Bool) (at task delay due : ℕ) (timing : Timing) (f : IsCore (core_of calls limit taken count t) t sought) → NextCall calls count t.moment at (c.Submit task timing delay) f.past → Submits t task delay timing →
    u ≡ admitted t task task at timing delay → CallSteps t u (at, c.Submit task timing delay) (bare (a.Submit task (kind_of timing) due)) → Submitted calls limit taken count t u sought (a.Submit task (kind_of timing) due)
accepts calls limit taken count t u sought at task delay due timing f n s is steps =
    let v = admitted t task task at timing delay in
    let answer = a.Submit task (kind_of timing) due in
    let goes : CallSteps t v (at, c.Submit task timing delay) (bare answer) = subst (λ x. CallSteps t x (at, c.Submit task timing delay) (bare answer)) is steps in
    let placed = submitted_placed taken t task at delay timing s f.placed in
    let gone = call_gone calls count at (c.Submit task timing delay) t v f.past f.reached n.next (submitted_empty t task at delay timing s) in
    let size : length v.slots ≡ length t.slots = length-set t.slots task (Some (submitted task timing (at + delay))) in
    subst (λ x. Submitted calls limit taken count t x sought answer) (sym is) (record {
      takes = call_takes calls limit taken count t v sought at (c.Submit task timing delay) answer f n refl goes gone placed;
      core = call_stays calls limit taken count t v sought at (c.Submit task timing delay) answer f n refl goes gone placed size refl;
      fewer = submitted_uncancelled t task at delay timing s;
    })

-- a task is refused, since the executor is shut
pub refuses : (calls : List Planned) (limit taken count : ℕ) (t u : TableView) (sought : Bool) (at task delay : ℕ) (timing : Timing) (f : IsCore (core_of calls limit taken count t) t sought) → NextCall calls count t.moment at (c.Submit task timing delay) f.past →
    u ≡ at_moment t at → ((number : ℕ) (how : Timing) (span : ℕ) → CallSteps t u (at, c.Submit number how span) (bare (a.Refuse number refusal.Rejected))) → Submitted calls limit taken count t u sought (a.Refuse task refusal.Rejected)
refuses calls limit taken count t u sought at task delay timing f n is steps =
    let v = at_moment t at in
    let answer = a.Refuse task refusal.Rejected in
    let call = c.Submit task timing delay in
    let goes : CallSteps t v (at, call) (bare answer) = subst (λ x. CallSteps t x (at, call) (bare answer)) is (steps task timing delay) in
    let takes = goes calls f.past f.reached.stands n.next in
    let said = there_said calls count t v f.past h.Call (bare answer) f.reached refl takes in
    let gone = refused_gone calls count task refusal.Rejected t v f.past f.reached refl said in
    subst (λ x. Submitted calls limit taken count t x sought answer) (sym is) (record {
      takes = call_takes calls limit taken count t v sought at call answer f n refl goes gone f.placed;
      core = call_stays calls limit taken count t v sought at call answer f n refl goes gone f.placed refl refl;
      fewer = omega arith;
    })
