-- A kept task is dropped before a call that sweeps.
use Rattle.std.proofs.Common.{◌≡◌, ℕ, ◌==◌, ◌&&◌, max, Bool, true, false, cond, List, Option, Some, None, refl, sym, ap, ◌∙◌}
use Rattle.std.specs.Prelude.{slice_index_or, slice_set, not}
use Rattle.std.specs.Option.{option_map_or}
use Rattle.std.proofs.lemmas.Bool.{false≢true, and_parts, eq-eqb}
use Rattle.std.proofs.lemmas.Option.{same_Some}
use Rattle.queue_code.specs.declared.call.CodeCall.{CodeCall}
use Rattle.queue_code.specs.declared.call.CodeCall.TheVariants as c
use Rattle.queue_code.specs.Calls.{Planned}
use Rattle.executor_model.specs.declared.types.Happening.TheVariants as h
use Rattle.executor_model.specs.declared.types.Answer.TheVariants as a
use Rattle.executor_model.specs.View.{View}
use Rattle.executor_model.specs.Answers.{bare, called, swept as ends_of}
use Rattle.executor_model.specs.Histories.{HistoryEntry, happenings, answer, is_sweep, view_of_history}
use Rattle.executor_model.specs.State.{State, after}
use Rattle.executor_model.proofs.Keeping.{kept_swept}
use Rattle.executor_model.proofs.Swept.{and_none}
use Rattle.task_table.specs.declared.seat.Seat.{Seat}
use Rattle.task_table.specs.Seats.{task_in, slot_of}
use Rattle.task_table.specs.Tables.{TableView, workers_of, WorkIs, Shows, keeping, StandsBefore, IsNextCall}
use Rattle.task_table.specs.Ends.{sweeps_at}
use Rattle.task_table.specs.Changes.{put, unkept}
use Rattle.task_table.specs.Formed.{IsFormed}
use Rattle.task_table.proofs.Written.{by_eqb, set_writes, slot_within, ChangesOne, holds_put, knows_put, Writes}
use Rattle.task_table.proofs.Standing.{view_there}

-- the answer to a call that sweeps is that of a sweep
sweep_said : (calls : List Planned) (v : View) (call : CodeCall) → sweeps_at v.shut call ≡ true → is_sweep v.shut (called calls v call).answer ≡ true
sweep_said calls v (c.SetPolicy which value) q = q
sweep_said calls v c.Shutdown q =
    let pick : (b : Bool) → not b ≡ true → is_sweep b (cond b (bare a.ShutdownAgain) (record { answer = a.Shutdown; ends = ends_of calls v v.policies })).answer ≡ true = elim [ true ↦ λ r. absurd (false≢true r) | false ↦ λ r. refl ] in
    pick v.shut q
sweep_said calls v c.ShutdownNow q = refl
sweep_said calls v call q = absurd (false≢true q)

and_true : (b : Bool) → (b && true) ≡ b
and_true true = refl
and_true false = refl

-- the work of a worker, where a task in the slots is kept no more
work_unkept : (old new : List (Option Seat)) (slot : ℕ) (x : Seat) (o work : Option ℕ) → slot_of old slot ≡ Some x → Writes old new slot (unkept x) → WorkIs old o work → WorkIs new o work
work_unkept old new slot x None work there writes q = q
work_unkept old new slot x (Some i) work there writes q = by_eqb slot i
    (λ here.
    let same : x ≡ q.0 = same_Some x q.0 (sym there ∙ (ap (slot_of old) here ∙ q.1)) in
    (unkept x, ap (slot_of new) (sym here) ∙ writes.here, q.2 ∙ ap (λ (z : Seat). Some z.number) (sym same)))
    (λ apart. (q.0, writes.other i apart ∙ q.1, q.2))

-- where a table shows a state in which some tasks are kept, and drops one of them, it shows the state in which that one is not
pub shows_unkept : (m : TableView) (s : State) (kept : ℕ → Bool) (slot : ℕ) (x : Seat) → IsFormed m → slot_of m.slots slot ≡ Some x → Shows m (keeping s kept) → Shows (put m slot (unkept x)) (keeping s (λ k. kept k && not (x.number == k)))
shows_unkept m s kept slot x formed there shows =
    let new = slice_set m.slots slot (Some (unkept x)) in
    let writes : Writes m.slots new slot (unkept x) = set_writes m.slots slot (unkept x) (slot_within m.slots slot x there) in
    let before = (keeping s kept).tasks in
    let then = (keeping s (λ k. kept k && not (x.number == k))).tasks in
    let one : ChangesOne x.number before then = λ k apart i. record (s.tasks k) { kept = (ap (λ b. kept k && not b) apart ∙ and_true (kept k)) i } in
    let gone : (kept x.number && not (x.number == x.number)) ≡ false = ap (λ b. kept x.number && not b) (eq-eqb x.number x.number refl) ∙ and_none (kept x.number) in
    let here : then x.number ≡ task_in (unkept x) = (λ i. record (s.tasks x.number) { kept = gone i }) ∙ (λ i. record (shows.held slot x there i) { kept = false }) in
    record {
      moment = shows.moment;
      policies = shows.policies;
      shut = shows.shut;
      stopped = shows.stopped;
      held = holds_put m.slots new slot x (unkept x) before then formed.apart there refl writes shows.held one here;
      known = knows_put m.slots new slot x (unkept x) before then there refl writes shows.known one;
      work = λ w. work_unkept m.slots new slot x (slice_index_or m.work w None) (s.workers w) there writes (shows.work w);
    }

-- before a call that sweeps a kept task may be dropped
pub drop_kept : (m : TableView) (slot : ℕ) (x : Seat) → slot_of m.slots slot ≡ Some x → IsFormed m → (calls : List Planned) (past : List HistoryEntry) (p : Planned) → IsNextCall calls past p →
    sweeps_at m.shut p.1 ≡ true → StandsBefore m calls past h.Call → StandsBefore (put m slot (unkept x)) calls past h.Call
drop_kept m slot x there formed calls past p is sweeps before =
    let w = workers_of m in
    let s = after calls w (happenings past) in
    let v = view_of_history calls past in
    let shut : v.shut ≡ m.shut = sym (ap (λ (u : View). u.shut) (view_there calls w past before.means)) ∙ before.shows.shut in
    let sweep : is_sweep v.shut (answer calls w past h.Call).answer ≡ true =
    ap (λ (q : Option Planned). is_sweep v.shut (option_map_or (λ r. called calls (record v { moment = max v.moment r.0 }) r.1) q (bare a.Clock)).answer) is
    ∙ sweep_said calls (record v { moment = max v.moment p.0 }) p.1 (ap (λ b. sweeps_at b p.1) shut ∙ sweeps)
    in
    record {
      orderly = before.orderly;
      means = before.means;
      kept = λ k. before.kept k && not (x.number == k);
      shows = shows_unkept m s before.kept slot x formed there before.shows;
      fewer = λ k q. before.fewer k (and_parts (before.kept k) (not (x.number == k)) q).0;
      dropped = λ k was gone. kept_swept v k (answer calls w past h.Call).answer sweep;
    }
