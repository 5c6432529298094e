-- The next call of a core: its moment, what it finds, and its step, by that of the core's table.
use Rattle.std.proofs.Common.{◌≡◌, ℕ, ◌+◌, ◌≤◌, Bool, List, length, Some, None, is_some, sym, ap, ◌∙◌, arith, subst, add-one}
use Rattle.std.specs.Prelude.{slice_get}
use Rattle.std.proofs.lemmas.Option.{same_Some, slice_get_within}
use Rattle.sched_time.specs.Times.{longest}
use Rattle.queue_code.specs.declared.call.CodeCall.{CodeCall}
use Rattle.queue_code.specs.Calls.{Planned, how_many}
use Rattle.executor_model.specs.declared.types.Happening.TheVariants as h
use Rattle.executor_model.specs.declared.types.Answer.{Answer}
use Rattle.executor_model.specs.Answers.{bare}
use Rattle.executor_model.specs.Histories.{HistoryEntry, happenings, made_after, MayCome}
use Rattle.executor_model.specs.State.{after}
use Rattle.executor_model.proofs.Flowing.{how_many-le}
use Rattle.executor_model.proofs.Swept.{few_tasks}
use Rattle.executor_model.proofs.Tables.{call_moment, next_later}
use Rattle.task_table.specs.Seats.{slot_of}
use Rattle.task_table.specs.Changes.{at_moment}
use Rattle.task_table.specs.Firsts.{stands_in_queue, queue_in}
use Rattle.task_table.specs.Tables.{TableView, IsNextCall, CallSteps}
use Rattle.task_table.proofs.Standing.{made_there}
use Rattle.task_table.proofs.Vacancy.{IsOther, NextIsOther}
use Rattle.executor_core.specs.own.Invariants.{core_of, ArePlaced, IsReached, IsCore}
use Rattle.executor_core.specs.own.OwnSteps.{Takes}
use Rattle.executor_core.proofs.Reaching.{count_tasks}
use Rattle.executor_core.proofs.Landing.{StaysGone, stays_gone, lands, stays}

-- what is known of the next call
pub record NextCall (calls : List Planned) (count : ℕ) (now at : ℕ) (call : CodeCall) (past : List HistoryEntry) : Type 0 where
  pub next : IsNextCall calls past (at, call)
  pub comes : MayCome calls (happenings past) h.Call
  pub ahead : now ≤ at
  pub limit : at ≤ longest
  pub within : count + 1 ≤ length calls
  pub later : (p : Planned) → slice_get calls (count + 1) ≡ Some p → at ≤ p.0
  pub one : count + 1 ≡ made_after count h.Call

pub next_call : (calls : List Planned) (limit taken count : ℕ) (t : TableView) (sought : Bool) (at : ℕ) (call : CodeCall) (f : IsCore (core_of calls limit taken count t) t sought) → slice_get calls count ≡ Some (at, call) →
    NextCall calls count t.moment at call f.past
next_call calls limit taken count t sought at call f is =
    let within = slice_get_within calls count (at, call) is in
    record {
      next = ap (slice_get calls) f.reached.front ∙ is;
      comes = omega (arith, within, f.reached.front);
      ahead = f.ahead (at, call) is;
      limit = call_moment calls 0 0 count at call f.orderly.1 is;
      within = omega (arith, within);
      later = λ p q. next_later calls 0 0 count (at, call) p f.orderly.1 is (ap (slice_get calls) (sym (add-one count)) ∙ q);
      one = omega arith;
    }

-- a call that is no submission of a task is next, and no submission of that task
pub next_other : (calls : List Planned) (count i at : ℕ) (call : CodeCall) (t : TableView) (past : List HistoryEntry) → IsReached calls count t past → IsNextCall calls past (at, call) → IsOther i call →
    NextIsOther calls (after calls (length t.work) (happenings past)) i h.Call
next_other calls count i at call t past reached next other p q =
    let there : slice_get calls (after calls (length t.work) (happenings past)).made ≡ Some (at, call) = ap (slice_get calls) (made_there calls (length t.work) past reached.stands.means) ∙ next in
    subst (λ (x : Planned). IsOther i x.1) (same_Some (at, call) p (sym there ∙ q)) other

-- where a call submits no task whose slot is empty
pub call_gone : (calls : List Planned) (count at : ℕ) (call : CodeCall) (t u : TableView) (past : List HistoryEntry) → IsReached calls count t past → IsNextCall calls past (at, call) →
    ((i : ℕ) → slot_of u.slots i ≡ None → (slot_of t.slots i ≡ None) × IsOther i call) → StaysGone calls t u past h.Call
call_gone calls count at call t u past reached next empty =
    stays_gone calls count t u past h.Call reached (λ i q. let e = empty i q in (e.0, next_other calls count i at call t past reached next e.1))

-- a core takes the step of its next call, which its table takes
pub call_takes : (calls : List Planned) (limit taken count : ℕ) (t u : TableView) (sought : Bool) (at : ℕ) (call : CodeCall) (answer : Answer) (f : IsCore (core_of calls limit taken count t) t sought) → NextCall calls count t.moment at call f.past →
    length u.work ≡ length t.work → CallSteps t u (at, call) (bare answer) → StaysGone calls t u f.past h.Call → ArePlaced taken u.slots → Takes (core_of calls limit taken count t) (core_of calls limit taken (count + 1) u) h.Call answer
call_takes calls limit taken count t u sought at call answer f n width steps gone placed =
    lands calls limit taken count (count + 1) t u sought h.Call answer f n.comes width (steps calls f.past f.reached.stands n.next) gone placed n.one

-- what is true of a core stays so
pub call_stays : (calls : List Planned) (limit taken count : ℕ) (t u : TableView) (sought : Bool) (at : ℕ) (call : CodeCall) (answer : Answer) (f : IsCore (core_of calls limit taken count t) t sought) → NextCall calls count t.moment at call f.past →
    length u.work ≡ length t.work → CallSteps t u (at, call) (bare answer) → StaysGone calls t u f.past h.Call → ArePlaced taken u.slots → length u.slots ≡ length t.slots → u.moment ≡ at → IsCore (core_of calls limit taken (count + 1) u) u sought
call_stays calls limit taken count t u sought at call answer f n width steps gone placed size moment =
    stays calls limit taken count (count + 1) t u sought h.Call (bare answer) f n.comes width (steps calls f.past f.reached.stands n.next) gone placed n.one size (omega (arith, moment, n.limit)) n.within
    (λ p q. omega (arith, moment, n.later p q))

-- ---- calls that change no slot

-- a core takes the step of its next call, which changes nothing of the table but its moment
pub still_takes : (calls : List Planned) (limit taken count : ℕ) (t u : TableView) (sought : Bool) (at : ℕ) (call : CodeCall) (answer : Answer) (f : IsCore (core_of calls limit taken count t) t sought) → NextCall calls count t.moment at call f.past →
    u ≡ at_moment t at → CallSteps t u (at, call) (bare answer) → ((i : ℕ) → IsOther i call) → Takes (core_of calls limit taken count t) (core_of calls limit taken (count + 1) u) h.Call answer
still_takes calls limit taken count t u sought at call answer f n is steps other =
    call_takes calls limit taken count t u sought at call answer f n (ap (λ (v : TableView). length v.work) is) steps
    (call_gone calls count at call t u f.past f.reached n.next (λ i q. (ap (λ (v : TableView). slot_of v.slots i) (sym is) ∙ q, other i))) (subst (λ (v : TableView). ArePlaced taken v.slots) (sym is) f.placed)

pub still_stays : (calls : List Planned) (limit taken count : ℕ) (t u : TableView) (sought : Bool) (at : ℕ) (call : CodeCall) (answer : Answer) (f : IsCore (core_of calls limit taken count t) t sought) → NextCall calls count t.moment at call f.past →
    u ≡ at_moment t at → CallSteps t u (at, call) (bare answer) → ((i : ℕ) → IsOther i call) → IsCore (core_of calls limit taken (count + 1) u) u sought
still_stays calls limit taken count t u sought at call answer f n is steps other =
    call_stays calls limit taken count t u sought at call answer f n (ap (λ (v : TableView). length v.work) is) steps
    (call_gone calls count at call t u f.past f.reached n.next (λ i q. (ap (λ (v : TableView). slot_of v.slots i) (sym is) ∙ q, other i))) (subst (λ (v : TableView). ArePlaced taken v.slots) (sym is) f.placed)
    (ap (λ (v : TableView). length v.slots) is) (ap (λ (v : TableView). v.moment) is)

-- what an ask counts is less than a number of 32 bits can say
pub asked_within : (calls : List Planned) (limit taken count : ℕ) (t : TableView) (sought : Bool) → IsCore (core_of calls limit taken count t) t sought → (queue_in t.slots ≤ 65536) × (how_many is_some t.work ≤ 64)
asked_within calls limit taken count t sought f = (
  omega (arith, how_many-le stands_in_queue t.slots, f.count, count_tasks t.slots, few_tasks calls f.orderly.0),
  omega (arith, f.few, how_many-le is_some t.work),
)
