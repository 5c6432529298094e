-- The steps of an executor by cancels, as the code makes them.
use Rattle.std.proofs.Common.{◌≡◌, ℕ, ◌<◌, ◌≤◌, false, List, [], inl, refl, sym, ◌∙◌, subst}
use Rattle.sched_time.specs.Times.{longest}
use Rattle.queue_code.specs.declared.call.CodeCall.TheVariants as c
use Rattle.executor_model.specs.declared.types.Happening.TheVariants as h
use Rattle.executor_model.specs.declared.types.EventError.TheVariants as x
use Rattle.executor_model.specs.declared.types.CancelEffect.{CancelEffect}
use Rattle.executor_model.specs.declared.types.Answer.TheVariants as a
use Rattle.executor_model.specs.Answers.{bare}
use Rattle.task_table.specs.declared.seat.Seat.{Seat}
use Rattle.task_table.specs.declared.seat.TaskRef.{TaskRef}
use Rattle.task_table.specs.Seats.{IsNew}
use Rattle.task_table.specs.Tables.{TableView, CallSteps, EventSteps}
use Rattle.task_table.specs.Changes.{at_moment}
use Rattle.live_core.specs.Lives.{LiveView, Calls, Happens, never, quiet}
use Rattle.live_core.specs.own.Places.{effect_without}
use Rattle.live_core.specs.own.Formed.{IsRoomier}
use Rattle.live_core.proofs.Making.{MayAdd}
use Rattle.live_core.proofs.Meeting.{Carries, makes_still, meets_still}
use Rattle.live_core.proofs.Steps.{makes_other, meets_other}
use Rattle.live_core.proofs.Gone.{cancels_gone, cancels_gone_by_call, cancels_none}
use Rattle.live_core.proofs.Seated.{IsCancelled}

-- ---- tasks that have no slot

-- from outside
pub outside_gone : (m now : LiveView) (ended : List TaskRef) (k : ℕ) (effect : CancelEffect) → m ≡ now → ended ≡ [] → effect ≡ effect_without m.accepted k → IsNew now.table.slots k → k < now.count →
    Happens now (record m { ended = ended }) (h.Cancel k) (bare (a.Outside k effect))
outside_gone m now ended k effect same none is new low =
    subst (λ (v : LiveView). Happens v (record m { ended = ended }) (h.Cancel k) (bare (a.Outside k effect))) same
    (subst (λ (l : List TaskRef). Happens m (record m { ended = l }) (h.Cancel k) (bare (a.Outside k effect))) (sym none)
    (subst (λ e. Happens m (quiet m m.table) (h.Cancel k) (bare (a.Outside k e))) (sym is)
    (cancels_gone m k (subst (λ (v : LiveView). IsNew v.table.slots k) (sym same) new) (subst (λ (v : LiveView). k < v.count) (sym same) low))))

pub outside_none : (m now : LiveView) (ended : List TaskRef) (k : ℕ) → m ≡ now → ended ≡ [] → never ≤ k → Happens now (record m { ended = ended }) (h.Cancel k) (bare (a.Error x.NoTask))
outside_none m now ended k same none far =
    subst (λ (v : LiveView). Happens v (record m { ended = ended }) (h.Cancel k) (bare (a.Error x.NoTask))) same
    (subst (λ (l : List TaskRef). Happens m (record m { ended = l }) (h.Cancel k) (bare (a.Error x.NoTask))) (sym none) (cancels_none m k far))

-- a call may cancel
pub may_cancel : (m now : LiveView) (at k : ℕ) → m ≡ now → m.count ≤ never → k < now.count → now.earliest ≤ at → now.table.moment ≤ at → at ≤ longest → MayAdd m (at, c.Cancel k)
may_cancel m now at k same few low early ahead near = record {
  early = subst (λ (v : LiveView). v.earliest ≤ at) (sym same) early;
  ahead = subst (λ (v : LiveView). v.table.moment ≤ at) (sym same) ahead;
  near = near;
  orderly = subst (λ (v : LiveView). k < v.count) (sym same) low;
  few = few;
}

-- by a call
pub by_call_gone : (m now : LiveView) (table : TableView) (ended : List TaskRef) (at k : ℕ) (effect : CancelEffect) → m ≡ now → table ≡ at_moment m.table at → ended ≡ [] → effect ≡ effect_without m.accepted k → IsNew now.table.slots k →
    MayAdd m (at, c.Cancel k) → Calls m (record m { table = table; ended = ended }) (at, c.Cancel k) (bare (a.Cancel k effect))
by_call_gone m now table ended at k effect same is none means new may =
    subst (λ (l : List TaskRef). Calls m (record m { table = table; ended = l }) (at, c.Cancel k) (bare (a.Cancel k effect))) (sym none)
    (subst (λ (t : TableView). Calls m (quiet m t) (at, c.Cancel k) (bare (a.Cancel k effect))) (sym is)
    (subst (λ e. Calls m (quiet m (at_moment m.table at)) (at, c.Cancel k) (bare (a.Cancel k e))) (sym means)
    (cancels_gone_by_call m at k (subst (λ (v : LiveView). IsNew v.table.slots k) (sym same) new) may)))

-- ---- tasks that have one, which may be emptied

carries : (m : LiveView) (mid new : TableView) (ended : List TaskRef) → IsRoomier mid new → Carries (quiet m mid) (record m { table = new; ended = ended })
carries m mid new ended stands = record { table = stands.stands; moment = stands.moment; count = refl; accepted = refl; earliest = refl }

pub outside_held : (m : LiveView) (mid new : TableView) (ended : List TaskRef) (slot k : ℕ) (x : Seat) (effect : CancelEffect) → IsCancelled m.table mid slot x → x.number ≡ k → k < m.count → IsRoomier mid new →
    EventSteps m.table mid (h.Cancel x.number) (bare (a.Outside x.number effect)) → Happens m (record m { table = new; ended = ended }) (h.Cancel k) (bare (a.Outside k effect))
outside_held m mid new ended slot k x effect is own low stands steps calls past st =
    let r = bare (a.Outside k effect) in
    let own_steps = subst (λ (n : ℕ). EventSteps m.table mid (h.Cancel n) (bare (a.Outside n effect))) own steps in
    meets_still (quiet m mid) (record m { table = new; ended = ended }) calls past (h.Cancel k) r (carries m mid new ended stands)
    (meets_other m mid (h.Cancel k) r refl refl (inl low) is.workers own_steps calls past st)

pub by_call_held : (m : LiveView) (mid new : TableView) (ended : List TaskRef) (at slot k : ℕ) (x : Seat) (effect : CancelEffect) → IsCancelled m.table mid slot x → x.number ≡ k → MayAdd m (at, c.Cancel k) → IsRoomier mid new →
    CallSteps m.table mid (at, c.Cancel x.number) (bare (a.Cancel x.number effect)) → Calls m (record m { table = new; ended = ended }) (at, c.Cancel k) (bare (a.Cancel k effect))
by_call_held m mid new ended at slot k x effect is own may stands steps calls past st =
    let r = bare (a.Cancel k effect) in
    let own_steps = subst (λ (n : ℕ). CallSteps m.table mid (at, c.Cancel n) (bare (a.Cancel n effect))) own steps in
    makes_still (quiet m mid) (record m { table = new; ended = ended }) calls past (at, c.Cancel k) r (carries m mid new ended stands)
    (makes_other m mid [] at (c.Cancel k) r may refl (λ j. refl) is.workers own_steps calls past st)

-- until it is shut, each submission was accepted
pub unshut_held : (m : LiveView) (mid new : TableView) (slot : ℕ) (x : Seat) → IsCancelled m.table mid slot x → IsRoomier mid new → (m.table.shut ≡ false → m.accepted ≡ m.count) → new.shut ≡ false → m.accepted ≡ m.count
unshut_held m mid new slot x is stands unshut q = unshut (sym is.shut ∙ (sym stands.shut ∙ q))
