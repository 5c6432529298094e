-- A purge: the kept tasks are dropped.
use Rattle.std.proofs.Common.{◌≡◌, ℕ, Bool, List, length, Option, refl, sym, ◌∙◌, subst}
use Rattle.queue_code.specs.Calls.{Planned}
use Rattle.executor_model.specs.declared.types.Happening.TheVariants as h
use Rattle.executor_model.specs.declared.types.Answer.TheVariants as a
use Rattle.executor_model.specs.Answers.{bare}
use Rattle.task_table.specs.declared.seat.Seat.{Seat}
use Rattle.task_table.specs.Tables.{TableView, EventStepsBefore, Takes as TableTakes}
use Rattle.task_table.proofs.Starts.{stands_before}
use Rattle.executor_core.specs.plan_table.Numbered.{tasks_at}
use Rattle.executor_core.specs.own.Invariants.{core_of, IsCore}
use Rattle.executor_core.specs.own.OwnSteps.{Takes, AreUnkept}
use Rattle.executor_core.proofs.Placing.{unkept_placed, unkept_empty}
use Rattle.executor_core.proofs.Reaching.{count_tasks}
use Rattle.executor_core.proofs.Starting.{with_slots}
use Rattle.executor_core.proofs.Landing.{StaysGone, stays_gone, lands, stays}

-- what a purge leaves: a core that took its step
pub record Purged (calls : List Planned) (limit taken count : ℕ) (t u : TableView) (sought : Bool) : Type 0 where
  pub takes : Takes (core_of calls limit taken count t) (core_of calls limit taken count u) h.Purge a.Purge
  pub core : IsCore (core_of calls limit taken count u) u sought

purges_in : (calls : List Planned) (limit taken count : ℕ) (t : TableView) (sought : Bool) (slots : List (Option Seat)) (f : IsCore (core_of calls limit taken count t) t sought) → AreUnkept t (with_slots t slots) →
    TableTakes (with_slots t slots) calls f.past h.Purge (bare a.Purge) → Purged calls limit taken count t (with_slots t slots) sought
purges_in calls limit taken count t sought slots f unkept takes =
    let u = with_slots t slots in
    let placed = unkept_placed taken t u unkept f.placed in
    let gone : StaysGone calls t u f.past h.Purge = stays_gone calls count t u f.past h.Purge f.reached (λ i q. (unkept_empty t u i unkept q, tt)) in
    record {
      takes = lands calls limit taken count count t u sought h.Purge a.Purge f tt refl takes gone placed refl;
      core = stays calls limit taken count count t u sought h.Purge (bare a.Purge) f tt refl takes gone placed refl unkept.count f.moment f.made f.ahead;
    }

pub purges : (calls : List Planned) (limit taken count : ℕ) (t u : TableView) (sought : Bool) → IsCore (core_of calls limit taken count t) t sought → AreUnkept t u → EventStepsBefore t u h.Purge (bare a.Purge) → Purged calls limit taken count t u sought
purges calls limit taken count t u sought f unkept steps =
    let is : u ≡ with_slots t u.slots = unkept.rest in
    let takes : TableTakes u calls f.past h.Purge (bare a.Purge) = steps calls f.past (stands_before t calls f.past h.Purge f.reached.stands) in
    subst (λ v. Purged calls limit taken count t v sought) (sym is)
    (purges_in calls limit taken count t sought u.slots f (subst (AreUnkept t) is unkept) (subst (λ v. TableTakes v calls f.past h.Purge (bare a.Purge)) is takes))

-- as many tasks after it
pub purge_size : (t u : TableView) → AreUnkept t u → length (tasks_at u.slots) ≡ length (tasks_at t.slots)
purge_size t u unkept = count_tasks u.slots ∙ (unkept.count ∙ sym (count_tasks t.slots))
