-- Calls that submit nothing, as the code makes them: they are made.
use Rattle.std.proofs.Common.{◌≡◌, ℕ, ◌≤◌, false, List, Option, refl, sym, ap, ◌∙◌, subst, max, arith}
use Rattle.sched_time.specs.Times.{longest}
use Rattle.queue_code.specs.declared.call.CodeCall.{CodeCall}
use Rattle.queue_code.specs.Calls.{IsOrderlyCall, count_after}
use Rattle.executor_model.specs.Answers.{Reply}
use Rattle.executor_model.specs.Histories.{is_submit}
use Rattle.task_table.specs.declared.seat.Seat.{Seat}
use Rattle.task_table.specs.declared.seat.TaskRef.{TaskRef}
use Rattle.task_table.specs.Tables.{TableView, workers_of, CallSteps}
use Rattle.live_core.specs.Lives.{LiveView, Calls, never, moment_of_call, AreAlive}
use Rattle.live_core.specs.own.Formed.{AreNoted, IsLive}
use Rattle.live_core.proofs.Making.{MayAdd}
use Rattle.live_core.proofs.Steps.{may_add, makes_other}
use Rattle.live_core.proofs.Living.{live_on}

-- a call submits nothing, and its answer names no submission
pub record SubmitsNone (count : ℕ) (call : CodeCall) (r : Reply) : Type 0 where
  pub orderly : IsOrderlyCall count call
  pub same : count_after count call ≡ count
  pub none : (k : ℕ) → is_submit k r.answer ≡ false

-- where it may be made, at the moment that the code finds
pub may_call : (m now : LiveView) (at moment : ℕ) (call : CodeCall) (r : Reply) → m ≡ now → moment ≡ moment_of_call now at → moment ≤ longest → m.count ≤ never → SubmitsNone m.count call r → MayAdd m (moment, call)
may_call m now at moment call r same is near few none =
    let here : moment ≡ moment_of_call m at = is ∙ sym (ap (λ (v : LiveView). moment_of_call v at) same) in
    subst (λ (t : ℕ). MayAdd m (t, call)) (sym here) (may_add m at call (subst (λ (t : ℕ). t ≤ longest) here near) none.orderly (subst (λ (n : ℕ). n ≤ never) (sym none.same) few))

-- it is made
pub calls_other : (m now : LiveView) (table : TableView) (ended : List TaskRef) (at moment : ℕ) (call : CodeCall) (r : Reply) → m ≡ now → moment ≡ moment_of_call now at → moment ≤ longest → m.count ≤ never → SubmitsNone m.count call r →
    workers_of table ≡ workers_of m.table → CallSteps m.table table (moment, call) r → Calls now (record m { table = table; ended = ended }) (moment_of_call now at, call) r
calls_other m now table ended at moment call r same is near few none width steps =
    subst (λ (v : LiveView). Calls v (record m { table = table; ended = ended }) (moment_of_call now at, call) r) same
    (subst (λ (t : ℕ). Calls m (record m { table = table; ended = ended }) (t, call) r) is
    (makes_other m table ended moment call r (may_call m now at moment call r same is near few none) none.same none.none width steps))

-- its moment is not before now
call_later : (m now : LiveView) (at moment : ℕ) → m ≡ now → moment ≡ moment_of_call now at → m.table.moment ≤ moment
call_later m now at moment same is = omega (arith, is, ap (λ (v : LiveView). v.table.moment) same, later at now.table.moment now.earliest)
  where
    later : (at now earliest : ℕ) → now ≤ max at (max now earliest)
    later at now earliest = grind arith

-- what stays true of the executor then
pub live_other : (m now : LiveView) (table : TableView) (ended : List TaskRef) (at moment : ℕ) (free : List ℕ) (entries : List TaskRef) (slot_room ended_room : ℕ) (free' : List ℕ) (entries' : List TaskRef) (slot_room' ended_room' : ℕ) →
    m ≡ now → moment ≡ moment_of_call now at → table.moment ≡ moment → (table.shut ≡ false → m.table.shut ≡ false) →
    IsLive m free entries slot_room ended_room → AreNoted table.slots m.count free' entries' slot_room' ended_room' → AreAlive table.slots → IsLive (record m { table = table; ended = ended }) free' entries' slot_room' ended_room'
live_other m now table ended at moment free entries slot_room ended_room free' entries' slot_room' ended_room' same is moves unshut live noted alive =
    live_on m (record m { table = table; ended = ended }) free entries slot_room ended_room free' entries' slot_room' ended_room' live live.few refl (omega (arith, moves, call_later m now at moment same is)) (λ q. live.unshut (unshut q)) noted alive

-- the slots are noted as they were, by another name, and the room for ended tasks is as it was
pub noted_same_room : (old new : List (Option Seat)) (count : ℕ) (free : List ℕ) (entries : List TaskRef) (slot_room ended_room more_ended : ℕ) → new ≡ old → more_ended ≡ ended_room → AreNoted old count free entries slot_room ended_room →
    AreNoted new count free entries slot_room more_ended
noted_same_room old new count free entries slot_room ended_room more_ended same room noted =
    subst (λ (l : List (Option Seat)). AreNoted l count free entries slot_room more_ended) (sym same) (subst (AreNoted old count free entries slot_room) (sym room) noted)
