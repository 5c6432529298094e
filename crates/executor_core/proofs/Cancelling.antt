-- Cancels of tasks that have a slot, and of those that have none, by a call and from outside.
use Rattle.std.proofs.Common.{◌≡◌, ℕ, ◌+◌, ◌≤◌, ◌&&◌, ◌||◌, Bool, true, false, cond, List, length, Option, Some, None, is_some, refl, sym, ap, ◌∙◌, arith, subst}
use Rattle.std.specs.Prelude.{not}
use Rattle.std.proofs.lemmas.Bool.{false≢true}
use Rattle.std.proofs.lemmas.List.{length-set}
use Rattle.std.proofs.lemmas.Option.{none-some}
use Rattle.queue_code.specs.declared.call.CodeCall.TheVariants as c
use Rattle.queue_code.specs.Calls.{Planned}
use Rattle.executor_model.specs.declared.types.Happening.TheVariants as h
use Rattle.executor_model.specs.declared.types.Answer.TheVariants as a
use Rattle.executor_model.specs.declared.types.CancelEffect.{CancelEffect}
use Rattle.executor_model.specs.declared.types.CancelEffect.TheVariants as ef
use Rattle.executor_model.specs.declared.task.Task.{Task}
use Rattle.executor_model.specs.declared.task.Stage.TheVariants as ph
use Rattle.executor_model.specs.Answers.{bare}
use Rattle.executor_model.specs.Histories.{HistoryEntry, happenings}
use Rattle.executor_model.specs.State.{after}
use Rattle.executor_model.specs.Tasks.{uncancelled_in}
use Rattle.task_table.specs.declared.seat.Seat.{Seat}
use Rattle.task_table.specs.Seats.{slot_of, is_waiting_in, is_running_in, IsNew}
use Rattle.task_table.specs.Tables.{TableView, Stands, IsNextCall, EventSteps, CallSteps, Takes as TableTakes}
use Rattle.task_table.specs.Ends.{effect_of, effect_gone}
use Rattle.task_table.specs.Changes.{cancelled, cancel_by, cancel_in, at_moment}
use Rattle.task_table.proofs.Vacancy.{IsOther}
use Rattle.task_table.proofs.Written.{slot_within}
use Rattle.executor_core.specs.plan_table.Numbered.{tasks_at}
use Rattle.executor_core.specs.own.Invariants.{core_of, ArePlaced, IsCore}
use Rattle.executor_core.specs.own.OwnSteps.{Takes}
use Rattle.executor_core.proofs.Reaching.{count_tasks}
use Rattle.executor_core.proofs.Placing.{put_placed, put_empty, put_uncancelled, put_fewer}
use Rattle.executor_core.proofs.Landing.{StaysGone, stays_gone, lands, stays}
use Rattle.executor_core.proofs.NextCalls.{NextCall, call_gone}

-- ---- what a cancel leaves in the slots

-- what stays so
pub record Leaves (taken : ℕ) (t u : TableView) : Type 0 where
  pub placed : ArePlaced taken u.slots
  pub width : length u.work ≡ length t.work
  pub size : length u.slots ≡ length t.slots
  pub moment : u.moment ≡ t.moment
  pub empty : (i : ℕ) → slot_of u.slots i ≡ None → slot_of t.slots i ≡ None
  pub fewer : uncancelled_in (tasks_at u.slots) ≤ uncancelled_in (tasks_at t.slots)

leaves_all : (taken : ℕ) (t : TableView) → ArePlaced taken t.slots → Leaves taken t t
leaves_all taken t placed = record { placed = placed; width = refl; size = refl; moment = refl; empty = λ i q. q; fewer = omega arith }

cancel_leaves : (taken : ℕ) (t : TableView) (k : ℕ) (x : Seat) (e : CancelEffect) → slot_of t.slots k ≡ Some x → ArePlaced taken t.slots → Leaves taken t (cancel_by e t k x)
cancel_leaves taken t k x ef.Yes there placed =
    let y = cancelled t.policies.removes x in
    let low = slot_within t.slots k x there in
    let here = placed k x there in
    record {
      placed = put_placed taken t.slots k y low placed (record { named = here.named; submitted = here.submitted; below = here.below; begun = here.begun });
      width = refl;
      size = length-set t.slots k (Some y);
      moment = refl;
      empty = λ i q. (put_empty t.slots k i y low q).1;
      fewer = put_uncancelled t.slots k y low (λ q. absurd cc);
    }
cancel_leaves taken t k x ef.No there placed = leaves_all taken t placed
cancel_leaves taken t k x ef.Absent there placed = leaves_all taken t placed

-- a task of which a cancel has an effect is not cancelled
live_is : (x : Seat) → effect_of x ≡ ef.Yes → x.cancelled ≡ false
live_is x q = by (is_waiting_in x.phase || is_running_in x.phase) x.cancelled q
  where
    by : (b d : Bool) → cond (b && not d) ef.Yes ef.No ≡ ef.Yes → d ≡ false
    by true true e = absurd cc
    by true false e = refl
    by false d e = absurd cc

-- one task fewer is not cancelled
pub cancel_fewer : (t : TableView) (k : ℕ) (x : Seat) → slot_of t.slots k ≡ Some x → effect_of x ≡ ef.Yes → uncancelled_in (tasks_at (cancel_in t k x).slots) + 1 ≡ uncancelled_in (tasks_at t.slots)
cancel_fewer t k x there live =
    let less = put_fewer t.slots k x (cancelled t.policies.removes x) there (live_is x live) refl in
    ap (λ e. uncancelled_in (tasks_at (cancel_by e t k x).slots) + 1) live ∙ less

-- ---- from outside

-- of a task that has a slot
pub outside : (calls : List Planned) (limit taken count : ℕ) (t u : TableView) (sought : Bool) (k : ℕ) (effect : CancelEffect) (x : Seat) (f : IsCore (core_of calls limit taken count t) t sought) → slot_of t.slots k ≡ Some x →
    u ≡ cancel_in t k x → EventSteps t u (h.Cancel x.number) (bare (a.Outside x.number effect)) → Takes (core_of calls limit taken count t) (core_of calls limit taken count u) (h.Cancel k) (a.Outside k effect) × IsCore (core_of calls limit taken count u) u sought
outside calls limit taken count t u sought k effect x f there is steps =
    let named = (f.placed k x there).named in
    let left : Leaves taken t u = subst (Leaves taken t) (sym is) (cancel_leaves taken t k x (effect_of x) there f.placed) in
    let takes : TableTakes u calls f.past (h.Cancel k) (bare (a.Outside k effect)) = subst (λ n. TableTakes u calls f.past (h.Cancel n) (bare (a.Outside n effect))) named (steps calls f.past f.reached.stands) in
    let gone : StaysGone calls t u f.past (h.Cancel k) = stays_gone calls count t u f.past (h.Cancel k) f.reached (λ i q. (left.empty i q, tt)) in (
      lands calls limit taken count count t u sought (h.Cancel k) (a.Outside k effect) f tt left.width takes gone left.placed refl,
      stays calls limit taken count count t u sought (h.Cancel k) (bare (a.Outside k effect)) f tt left.width takes gone left.placed refl left.size (omega (arith, left.moment, f.moment)) f.made
          (λ p q. omega (arith, left.moment, f.ahead p q)),
    )

-- ---- by a call

-- a cancel submits no task
pub cancels_other : (k i : ℕ) → IsOther i (c.Cancel k)
cancels_other k i task timing delay e = absurd cc

pub record ByCall (calls : List Planned) (limit taken count : ℕ) (t u : TableView) (sought : Bool) (k : ℕ) (effect : CancelEffect) : Type 0 where
  pub takes : Takes (core_of calls limit taken count t) (core_of calls limit taken (count + 1) u) h.Call (a.Cancel k effect)
  pub core : IsCore (core_of calls limit taken (count + 1) u) u sought
  pub fewer : uncancelled_in (tasks_at u.slots) ≤ uncancelled_in (tasks_at t.slots)

by_call : (calls : List Planned) (limit taken count : ℕ) (t u : TableView) (sought : Bool) (at k : ℕ) (effect : CancelEffect) (f : IsCore (core_of calls limit taken count t) t sought) → NextCall calls count t.moment at (c.Cancel k) f.past →
    Leaves taken t u → TableTakes (at_moment u at) calls f.past h.Call (bare (a.Cancel k effect)) → ByCall calls limit taken count t (at_moment u at) sought k effect
by_call calls limit taken count t u sought at k effect f n left takes =
    let v = at_moment u at in
    let gone : StaysGone calls t v f.past h.Call = call_gone calls count at (c.Cancel k) t v f.past f.reached n.next (λ i q. (left.empty i q, cancels_other k i)) in
    record {
      takes = lands calls limit taken count (count + 1) t v sought h.Call (a.Cancel k effect) f n.comes left.width takes gone left.placed n.one;
      core = stays calls limit taken count (count + 1) t v sought h.Call (bare (a.Cancel k effect)) f n.comes left.width takes gone left.placed n.one left.size n.limit n.within n.later;
      fewer = left.fewer;
    }

-- of a task that has a slot
pub call_cancels : (calls : List Planned) (limit taken count : ℕ) (t u : TableView) (sought : Bool) (at k : ℕ) (effect : CancelEffect) (x : Seat) (f : IsCore (core_of calls limit taken count t) t sought) → NextCall calls count t.moment at (c.Cancel k) f.past →
    slot_of t.slots k ≡ Some x → u ≡ at_moment (cancel_in t k x) at → CallSteps t u (at, c.Cancel x.number) (bare (a.Cancel x.number effect)) → ByCall calls limit taken count t u sought k effect
call_cancels calls limit taken count t u sought at k effect x f n there is steps =
    let named = (f.placed k x there).named in
    let steps_k : CallSteps t u (at, c.Cancel k) (bare (a.Cancel k effect)) = subst (λ j. CallSteps t u (at, c.Cancel j) (bare (a.Cancel j effect))) named steps in
    let takes : TableTakes (at_moment (cancel_in t k x) at) calls f.past h.Call (bare (a.Cancel k effect)) = subst (λ v. TableTakes v calls f.past h.Call (bare (a.Cancel k effect))) is (steps_k calls f.past f.reached.stands n.next) in
    subst (λ v. ByCall calls limit taken count t v sought k effect) (sym is) (by_call calls limit taken count t (cancel_in t k x) sought at k effect f n (cancel_leaves taken t k x (effect_of x) there f.placed) takes)

-- of one that has none
pub call_cancels_none : (calls : List Planned) (limit taken count : ℕ) (t u : TableView) (sought : Bool) (at k : ℕ) (f : IsCore (core_of calls limit taken count t) t sought) → NextCall calls count t.moment at (c.Cancel k) f.past → slot_of t.slots k ≡ None →
    u ≡ at_moment t at → ((number : ℕ) → IsNew t.slots number → (calls : List Planned) (past : List HistoryEntry) → Stands t calls past → IsNextCall calls past (at, c.Cancel number) →
    TableTakes u calls past h.Call (bare (a.Cancel number (effect_gone ((after calls (length t.work) (happenings past)).tasks number).phase)))) → ByCall calls limit taken count t u sought k ef.Absent
call_cancels_none calls limit taken count t u sought at k core n empty is gone =
    let new : IsNew t.slots k = λ i x q e. none-some x (sym empty ∙ (ap (slot_of t.slots) (sym e ∙ (core.placed i x q).named) ∙ q)) in
    let phase : ((after calls (length t.work) (happenings core.past)).tasks k).phase ≡ ph.Vacant = ap (λ (y : Task). y.phase) (core.reached.gone k empty) in
    let takes : TableTakes u calls core.past h.Call (bare (a.Cancel k ef.Absent)) = subst (λ p. TableTakes u calls core.past h.Call (bare (a.Cancel k (effect_gone p)))) phase (gone k new calls core.past core.reached.stands n.next) in
    subst (λ v. ByCall calls limit taken count t v sought k ef.Absent) (sym is)
    (by_call calls limit taken count t t sought at k ef.Absent core n (leaves_all taken t core.placed) (subst (λ v. TableTakes v calls core.past h.Call (bare (a.Cancel k ef.Absent))) is takes))

-- ---- whether a slot holds a task

pub there_is : (o seat : Option Seat) (b : Bool) → seat ≡ o → is_some seat ≡ not b → b ≡ false → (x : Seat) × (o ≡ Some x)
there_is o None b is q e = absurd (false≢true (q ∙ ap not e))
there_is o (Some x) b is q e = (x, sym is)

pub none_is : (o seat : Option Seat) (b : Bool) → seat ≡ o → is_some seat ≡ not b → b ≡ true → o ≡ None
none_is o None b is q e = sym is
none_is o (Some x) b is q e = absurd (false≢true (sym (q ∙ ap not e)))

-- as many tasks after a cancel
pub cancel_size : (taken : ℕ) (t : TableView) (k : ℕ) (x : Seat) → slot_of t.slots k ≡ Some x → ArePlaced taken t.slots → length (tasks_at (cancel_in t k x).slots) ≡ length (tasks_at t.slots)
cancel_size taken t k x there placed = count_tasks (cancel_in t k x).slots ∙ ((cancel_leaves taken t k x (effect_of x) there placed).size ∙ sym (count_tasks t.slots))
