-- When a table shows a state in which one task, or none, has changed, and when a call or an error is taken.
use Rattle.std.proofs.Common.{◌≡◌, ℕ, ◌<◌, ◌≤◌, max, List, length, Option, Some, None, refl, sym, ap, ◌∙◌, arith, subst}
use Rattle.std.specs.Prelude.{slice_get, slice_index_or}
use Rattle.std.specs.Option.{option_map_or}
use Rattle.std.proofs.lemmas.Option.{none-some, same_Some}
use Rattle.queue_code.specs.declared.call.CodeCall.{CodeCall}
use Rattle.executor_model.specs.declared.types.Happening.{Happening}
use Rattle.executor_model.specs.declared.types.Happening.TheVariants as h
use Rattle.executor_model.specs.declared.types.EventError.{EventError}
use Rattle.executor_model.specs.declared.types.Answer.{Answer}
use Rattle.executor_model.specs.declared.types.Answer.TheVariants as a
use Rattle.executor_model.specs.declared.task.Task.{Task}
use Rattle.queue_code.specs.Calls.{Planned}
use Rattle.executor_model.specs.Answers.{Reply, bare, called}
use Rattle.executor_model.specs.Histories.{HistoryEntry, happenings, IsHistoryOf}
use Rattle.executor_model.specs.State.{State, after, reply_of, state_after}
use Rattle.executor_model.proofs.Called.{view_at, called_state, call_reply}
use Rattle.executor_model.proofs.Errors.{errors_change_nothing}
use Rattle.task_table.specs.declared.seat.Seat.{Seat}
use Rattle.task_table.specs.Seats.{task_in, slot_of, is_alive, IsNew}
use Rattle.task_table.specs.Tables.{TableView, workers_of, WorkIs, Shows, Stands, Takes, IsNextCall}
use Rattle.task_table.specs.Changes.{put, at_moment}
use Rattle.task_table.proofs.Written.{by_eqb, apart_eqb, Writes, set_writes, slot_within, AreApart, ChangesOne, holds_put, knows_put, holds_new, knows_new}
use Rattle.task_table.proofs.Standing.{made_there, takes}

-- the next call after a history is the next one of the state to which it leads
pub next_there : (calls : List Planned) (workers : ℕ) (past : List HistoryEntry) (p : Planned) → IsHistoryOf calls workers past → IsNextCall calls past p →
    slice_get calls (after calls workers (happenings past)).made ≡ Some p
next_there calls workers past p means is = ap (slice_get calls) (made_there calls workers past means) ∙ is

-- the table shows the state after the next call
called_shown : (new : TableView) (calls : List Planned) (s : State) (at : ℕ) (call : CodeCall) (answer : Answer) → slice_get calls s.made ≡ Some (at, call) →
    Shows new (called_state calls s at answer) → Shows new (state_after calls s h.Call (bare answer))
called_shown new calls s at call answer is shows = record {
  moment = ap (λ q. option_map_or (λ (p : Planned). max s.moment p.0) q s.moment) is ∙ shows.moment;
  policies = shows.policies;
  shut = shows.shut;
  stopped = shows.stopped;
  held = shows.held;
  known = shows.known;
  work = shows.work;
}

-- a call that is answered so is taken, where the table shows the state after it
pub takes_call : (m new : TableView) (calls : List Planned) (past : List HistoryEntry) (at : ℕ) (call : CodeCall) (answer : Answer) → Stands m calls past → IsNextCall calls past (at, call) → workers_of new ≡ workers_of m →
    called calls (view_at calls (after calls (workers_of m) (happenings past)) at) call ≡ bare answer → Shows new (called_state calls (after calls (workers_of m) (happenings past)) at answer) → Takes new calls past h.Call (bare answer)
takes_call m new calls past at call answer stands is width said shows =
    let s = after calls (workers_of m) (happenings past) in
    let there = next_there calls (workers_of m) past (at, call) stands.means is in
    takes m new calls past h.Call (bare answer) stands.means width (call_reply calls (workers_of m) at s call answer there said) (called_shown new calls s at call answer there shows)

-- what is answered by an error is taken by the table as it stands
pub takes_error : (m : TableView) (calls : List Planned) (past : List HistoryEntry) (y : Happening) (error : EventError) → Stands m calls past →
    reply_of calls (workers_of m) (after calls (workers_of m) (happenings past)) y ≡ bare (a.Error error) → Takes m calls past y (bare (a.Error error))
takes_error m calls past y error stands said =
    let w = workers_of m in
    let s = after calls w (happenings past) in
    let still = errors_change_nothing calls w s y error (ap (λ (r : Reply). r.answer) said) in
    takes m m calls past y (bare (a.Error error)) stands.means refl said (subst (Shows m) (sym (ap (state_after calls s y) (sym said) ∙ still)) stands.shows)

-- a table shows a state with the same tasks
pub same_shown : (m : TableView) (s : State) (tasks : ℕ → Task) → Shows m s → ((k : ℕ) → tasks k ≡ s.tasks k) → Shows m (record s { tasks = tasks })
same_shown m s tasks shows same = record {
  moment = shows.moment;
  policies = shows.policies;
  shut = shows.shut;
  stopped = shows.stopped;
  held = λ i x q. same x.number ∙ shows.held i x q;
  known = λ k q. shows.known k (sym (ap is_alive (same k)) ∙ q);
  work = shows.work;
}

-- a table shows a state at a later moment
pub later_shown : (m : TableView) (s : State) (made at : ℕ) → m.moment ≤ at → Shows m s → Shows (at_moment m at) (record s { made = made; moment = max s.moment at })
later_shown m s made at ahead shows = record {
  moment = greatest s.moment shows.moment;
  policies = shows.policies;
  shut = shows.shut;
  stopped = shows.stopped;
  held = shows.held;
  known = shows.known;
  work = shows.work;
}
  where
    greatest : (now : ℕ) → now ≡ m.moment → max now at ≡ at
    greatest now same = grind (arith, same, ahead)

-- a worker's slot says the same of its task once another task of its number stands there
works_put : (old new : List (Option Seat)) (slot : ℕ) (x y : Seat) → slot_of old slot ≡ Some x → y.number ≡ x.number → Writes old new slot y → (o work : Option ℕ) → WorkIs old o work → WorkIs new o work
works_put old new slot x y there same writes None work q = q
works_put old new slot x y there same writes (Some i) work q =
    by_eqb slot i
    (λ here. (y, ap (slot_of new) (sym here) ∙ writes.here, q.2 ∙ (ap (λ (z : Seat). Some z.number) (same_Some q.0 x (sym q.1 ∙ (ap (slot_of old) (sym here) ∙ there))) ∙ ap Some (sym same))))
    (λ other. (q.0, writes.other i other ∙ q.1, q.2))

-- a task in a slot becomes another one of its number
pub put_shown : (m : TableView) (slot : ℕ) (x y : Seat) (s : State) (tasks : ℕ → Task) → AreApart m.slots → slot_of m.slots slot ≡ Some x → y.number ≡ x.number → Shows m s → ChangesOne x.number s.tasks tasks → tasks x.number ≡ task_in y →
    Shows (put m slot y) (record s { tasks = tasks })
put_shown m slot x y s tasks apart there same shows one here =
    let writes = set_writes m.slots slot y (slot_within m.slots slot x there) in
    record {
      moment = shows.moment;
      policies = shows.policies;
      shut = shows.shut;
      stopped = shows.stopped;
      held = holds_put m.slots (put m slot y).slots slot x y s.tasks tasks apart there same writes shows.held one here;
      known = knows_put m.slots (put m slot y).slots slot x y s.tasks tasks there same writes shows.known one;
      work = λ w. works_put m.slots (put m slot y).slots slot x y there same writes (slice_index_or m.work w None) (s.workers w) (shows.work w);
    }

-- a worker's slot says the same of its task once an empty slot is filled
works_new : (old new : List (Option Seat)) (slot : ℕ) (y : Seat) → slot_of old slot ≡ None → Writes old new slot y → (o work : Option ℕ) → WorkIs old o work → WorkIs new o work
works_new old new slot y empty writes None work q = q
works_new old new slot y empty writes (Some i) work q =
    (q.0, writes.other i (apart_eqb slot i (λ here. none-some q.0 (sym empty ∙ (ap (slot_of old) here ∙ q.1)))) ∙ q.1, q.2)

-- a task that is new comes into an empty slot
pub new_shown : (m : TableView) (slot : ℕ) (y : Seat) (s : State) (tasks : ℕ → Task) → slot < length m.slots → slot_of m.slots slot ≡ None → IsNew m.slots y.number → Shows m s → ChangesOne y.number s.tasks tasks → tasks y.number ≡ task_in y →
    Shows (put m slot y) (record s { tasks = tasks })
new_shown m slot y s tasks low empty fresh shows one here =
    let writes = set_writes m.slots slot y low in
    record {
      moment = shows.moment;
      policies = shows.policies;
      shut = shows.shut;
      stopped = shows.stopped;
      held = holds_new m.slots (put m slot y).slots slot y s.tasks tasks fresh writes shows.held one here;
      known = knows_new m.slots (put m slot y).slots slot y s.tasks tasks empty writes shows.known one;
      work = λ w. works_new m.slots (put m slot y).slots slot y empty writes (slice_index_or m.work w None) (s.workers w) (shows.work w);
    }
