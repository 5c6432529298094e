-- The events of an executor, as the code makes them: each by the step of its table.
use Rattle.std.proofs.Common.{◌≡◌, ℕ, ◌+◌, ◌≤◌, nat_le, true, false, List, [], refl, sym, ap, ◌∙◌, arith, subst}
use Rattle.std.specs.Prelude.{Result, Ok, Err, IfOk, IfErr, OnErr}
use Rattle.std.proofs.lemmas.Bool.{and_parts, leb-true}
use Rattle.sched_time.specs.Times.{longest}
use Rattle.sched_time.specs.declared.timing.Ending.{Ending}
use Rattle.executor_model.specs.declared.types.EventError.{EventError}
use Rattle.executor_model.specs.declared.types.Happening.{Happening}
use Rattle.executor_model.specs.declared.types.Happening.TheVariants as h
use Rattle.executor_model.specs.declared.types.Answer.TheVariants as a
use Rattle.executor_model.specs.Answers.{Reply, bare, is_accepted}
use Rattle.executor_model.specs.Histories.{is_call}
use Rattle.executor_laws.specs.Additions.{LooksBelow}
use Rattle.task_table.specs.declared.answers.Ended.{Ended}
use Rattle.task_table.specs.declared.seat.TaskRef.{TaskRef}
use Rattle.task_table.specs.Tables.{TableView, workers_of, EventSteps}
use Rattle.task_table.specs.Runs.{IsFinishError, FailsFinish}
use Rattle.task_table.specs.Changes.{at_moment}
use Rattle.live_core.specs.Lives.{LiveView, Happens, never, quiet, passed, AreAlive}
use Rattle.live_core.specs.Events.{Fails, finish_reply}
use Rattle.live_core.specs.own.Formed.{AreNoted, IsLive}
use Rattle.live_core.proofs.Steps.{meets_clock, meets_other}
use Rattle.live_core.proofs.Living.{live_on}
use Rattle.live_core.proofs.Noted.{noted_same}

-- an event that looks at no number and no moment, and ends no task
pub happens_there : (m : LiveView) (table : TableView) (ended : List TaskRef) (y : Happening) (r : Reply) → is_call y ≡ false → passed m.earliest y r.answer ≡ m.earliest → LooksBelow m.earliest m.count never y r.answer → ended ≡ [] → workers_of table ≡ workers_of m.table →
    EventSteps m.table table y r → Happens m (record m { table = table; ended = ended }) y r
happens_there m table ended y r event unclocked looks none width steps =
    subst (λ (l : List TaskRef). Happens m (record m { table = table; ended = l }) y r) (sym none) (meets_other m table y r event unclocked looks width steps)

-- an accepted clock
pub clocks_there : (m : LiveView) (table : TableView) (ended : List TaskRef) (t : ℕ) → ended ≡ [] → m.earliest ≤ m.table.moment + 1 → m.table.moment ≤ t → table ≡ at_moment m.table t →
    EventSteps m.table table (h.Clock t) (bare a.Clock) → Happens m (record { table = table; count = m.count; accepted = m.accepted; earliest = t + 1; ended = ended }) (h.Clock t) (bare a.Clock)
clocks_there m table ended t none behind ahead is steps =
    let now : table.moment ≡ t = ap (λ (v : TableView). v.moment) is in
    subst (λ (l : List TaskRef). Happens m (record { table = table; count = m.count; accepted = m.accepted; earliest = t + 1; ended = l }) (h.Clock t) (bare a.Clock)) (sym none)
    (meets_clock m table t (bare a.Clock) (omega (arith, behind, ahead)) (omega (arith, now)) refl (ap workers_of is) steps)

-- an event that is answered by an error
pub fails_there : (m : LiveView) (table : TableView) (ended : List TaskRef) (y : Happening) (error : EventError) → is_call y ≡ false → passed m.earliest y (a.Error error) ≡ m.earliest → LooksBelow m.earliest m.count never y (a.Error error) → ended ≡ [] → table ≡ m.table →
    EventSteps m.table m.table y (bare (a.Error error)) → Fails m (record m { table = table; ended = ended }) y error
fails_there m table ended y error event unclocked looks none same steps =
    let new : record m { table = table; ended = ended } ≡ quiet m m.table = λ i. record m { table = same i; ended = none i } in
    record {
      happens = subst (λ (v : LiveView). Happens m v y (bare (a.Error error))) (sym new) (meets_other m m.table y (bare (a.Error error)) event unclocked looks refl steps);
      is = new;
    }

-- what stays true of one whose table took the step of an event
pub live_steps : (m : LiveView) (table : TableView) (ended : List TaskRef) (free : List ℕ) (entries : List TaskRef) (slot_room ended_room : ℕ) (free' : List ℕ) (entries' : List TaskRef) (slot_room' more_ended : ℕ) →
    IsLive m free entries slot_room ended_room → table.moment ≡ m.table.moment → table.shut ≡ m.table.shut → more_ended ≡ ended_room → AreNoted table.slots m.count free' entries' slot_room' ended_room → AreAlive table.slots →
    IsLive (record m { table = table; ended = ended }) free' entries' slot_room' more_ended
live_steps m table ended free entries slot_room ended_room free' entries' slot_room' more_ended live moment same room noted alive =
    live_on m (record m { table = table; ended = ended }) free entries slot_room ended_room free' entries' slot_room' more_ended live live.few refl (omega (arith, moment))
    (λ q. live.unshut (sym same ∙ q)) (subst (λ n. AreNoted table.slots m.count free' entries' slot_room' n) (sym room) noted) alive

-- ---- a clock

pub taken_within : (now t : ℕ) → is_accepted now t ≡ true → (now ≤ t) × (t ≤ longest)
taken_within now t taken = let parts = and_parts (nat_le now t) (nat_le t longest) taken in (leb-true now t parts.0, leb-true t longest parts.1)

-- what stays true of an executor whose clock was accepted
pub live_clock : (m : LiveView) (table : TableView) (ended : List TaskRef) (t : ℕ) (free : List ℕ) (entries : List TaskRef) (slot_room ended_room more_ended : ℕ) →
    IsLive m free entries slot_room ended_room → is_accepted m.table.moment t ≡ true → table ≡ at_moment m.table t → more_ended ≡ ended_room →
    IsLive (record { table = table; count = m.count; accepted = m.accepted; earliest = t + 1; ended = ended }) free entries slot_room more_ended
live_clock m table ended t free entries slot_room ended_room more_ended live taken is room = record {
  few = live.few;
  behind = omega (arith, ap (λ (v : TableView). v.moment) is);
  unshut = λ q. live.unshut (sym (ap (λ (v : TableView). v.shut) is) ∙ q);
  earliest = omega (arith, (taken_within m.table.moment t taken).1);
  noted = subst (λ n. AreNoted table.slots m.count free entries slot_room n) (sym room)
      (noted_same m.table.slots table.slots m.count free free entries entries slot_room slot_room ended_room (ap (λ (v : TableView). v.slots) is) refl refl refl live.noted);
  alive = subst (λ (v : TableView). AreAlive v.slots) (sym is) live.alive;
}

-- ---- a finish, which ends a run or is answered by an error

pub finish_happens : (m : LiveView) (table : TableView) (ended : List TaskRef) (worker : ℕ) (ending : Ending) (r : Result Ended EventError) → ended ≡ [] → workers_of table ≡ workers_of m.table →
    IfOk r (λ e. EventSteps m.table table (h.Finish worker ending) (finish_reply worker e)) → IfOk r (λ e. Happens m (record m { table = table; ended = ended }) (h.Finish worker ending) (finish_reply worker e))
finish_happens m table ended worker ending (Ok e) none width steps = happens_there m table ended (h.Finish worker ending) (finish_reply worker e) refl refl tt none width steps
finish_happens m table ended worker ending (Err error) none width steps = tt

pub finish_fails : (m : LiveView) (table : TableView) (ended : List TaskRef) (worker : ℕ) (ending : Ending) (r : Result Ended EventError) → ended ≡ [] → OnErr r (table ≡ m.table) →
    IfErr r (λ error. FailsFinish m.table worker ending error) → IfErr r (λ error. IsFinishError m.table worker error × Fails m (record m { table = table; ended = ended }) (h.Finish worker ending) error)
finish_fails m table ended worker ending (Ok e) none same fails = tt
finish_fails m table ended worker ending (Err error) none same fails = (fails.0, fails_there m table ended (h.Finish worker ending) error refl refl tt none same fails.1)
