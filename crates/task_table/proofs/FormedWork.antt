-- A table stays well formed when a task is started, finished or cancelled, and when it is kept no more.
use Rattle.std.proofs.Common.{◌≡◌, ℕ, ◌+◌, ◌^◌, ◌<◌, ◌≤◌, ◌==◌, ◌&&◌, ◌||◌, zero, suc, Bool, true, false, cond, inl, inr, List, [], ◌∷◌, length, Option, Some, None, refl, sym, ap, ◌∙◌, arith, subst}
use Rattle.std.specs.Prelude.{slice_index_or, not}
use Rattle.std.proofs.Math.ListN.{set}
use Rattle.std.proofs.lemmas.Bool.{false≢true, eqb-true, eqb-false, and_parts, or_cases}
use Rattle.std.proofs.lemmas.Option.{none-some, same_Some}
use Rattle.std.proofs.lemmas.List.{length-set}
use Rattle.sched_time.specs.Times.{longest}
use Rattle.sched_time.specs.declared.timing.Timing.{Timing}
use Rattle.sched_time.specs.declared.timing.Timing.TheVariants as t
use Rattle.sched_time.specs.declared.timing.Ending.{Ending}
use Rattle.sched_time.specs.declared.timing.Ending.TheVariants as e
use Rattle.queue_code.specs.Calls.{IsTimed}
use Rattle.executor_model.specs.declared.types.CancelEffect.TheVariants as effect
use Rattle.executor_model.specs.declared.types.Outcome.{Outcome}
use Rattle.executor_model.specs.declared.types.Outcome.TheVariants as o
use Rattle.executor_model.specs.declared.task.Stage.{Stage}
use Rattle.executor_model.specs.declared.task.Stage.TheVariants as ph
use Rattle.executor_model.specs.Answers.{outcome_in}
use Rattle.executor_model.specs.State.{due_past}
use Rattle.executor_model.proofs.Tables.{at_set}
use Rattle.task_table.specs.declared.seat.Seat.{Seat}
use Rattle.task_table.specs.Seats.{slot_of, is_waiting_in, is_running_in}
use Rattle.task_table.specs.Tables.{TableView, workers_of}
use Rattle.task_table.specs.Firsts.{IsFirstDue}
use Rattle.task_table.specs.Changes.{put, begun, started, ended, finished, cancelled, cancel_by, cancel_in, unkept}
use Rattle.task_table.specs.Formed.{IsSeated, IsFormed}
use Rattle.task_table.proofs.Written.{by_eqb, set_writes, slot_within, read_slot, apart_put}

-- a task in this phase waits
pub waiting_phase : (phase : Stage) → is_waiting_in phase ≡ true → phase ≡ ph.Waiting
waiting_phase ph.Waiting q = refl
waiting_phase ph.Vacant q = absurd (false≢true q)
waiting_phase ph.Running q = absurd (false≢true q)
waiting_phase ph.Done q = absurd (false≢true q)
waiting_phase ph.Failed q = absurd (false≢true q)
waiting_phase ph.Dropped q = absurd (false≢true q)

-- a list of options that has a value at a place has that place
pub option_within : {X : Type 0} (xs : List (Option X)) (i : ℕ) (x : X) → slice_index_or xs i None ≡ Some x → i < length xs
option_within [] i x q = absurd (none-some x q)
option_within (y ∷ xs) zero x q = omega arith
option_within (y ∷ xs) (suc i) x q = omega (arith, option_within xs i x q)

-- each worker with work has the slot of a task that runs
abbrev AreStaffed : List (Option Seat) → List (Option ℕ) → Type 0
AreStaffed slots work = (w i : ℕ) → slice_index_or work w None ≡ Some i → (x : Seat) × (slot_of slots i ≡ Some x) × (x.phase ≡ ph.Running)

-- no two workers have one slot
abbrev AreAlone : List (Option ℕ) → Type 0
AreAlone work = (v w i : ℕ) → slice_index_or work v None ≡ Some i → slice_index_or work w None ≡ Some i → v ≡ w

-- a table in which one task changes, and maybe the work
formed_write : (m : TableView) (slot : ℕ) (x y : Seat) (work : List (Option ℕ)) → IsFormed m → slot_of m.slots slot ≡ Some x → y.number ≡ x.number → IsSeated m.moment y → length work ≡ length m.work →
    AreStaffed (set m.slots slot (Some y)) work → AreAlone work → IsFormed (record (put m slot y) { work = work })
formed_write m slot x y work f there same seat wide staffed alone =
    let writes = set_writes m.slots slot y (slot_within m.slots slot x there) in
    record {
      moment = f.moment;
      some = omega (arith, f.some, wide);
      few = omega (arith, f.few, wide);
      slots = omega (arith, f.slots, length-set m.slots slot (Some y));
      seated = λ i z q. elim (read_slot m.slots _ slot i y z writes q) [ inl own ↦ subst (IsSeated m.moment) own.1 seat | inr left ↦ f.seated i z left.1 ];
      apart = apart_put m.slots _ slot x y f.apart there same writes;
      staffed = staffed;
      alone = alone;
    }

-- a task that runs, in whatever slot, still does where one that runs is written
still_runs : (slots : List (Option Seat)) (slot i : ℕ) (x y : Seat) → slot_of slots slot ≡ Some x → (x.phase ≡ ph.Running → y.phase ≡ ph.Running) →
    (z : Seat) × (slot_of slots i ≡ Some z) × (z.phase ≡ ph.Running) → (z : Seat) × (slot_of (set slots slot (Some y)) i ≡ Some z) × (z.phase ≡ ph.Running)
still_runs slots slot i x y there runs at =
    let writes = set_writes slots slot y (slot_within slots slot x there) in
    by_eqb slot i
    (λ here. (y, ap (slot_of (set slots slot (Some y))) (sym here) ∙ writes.here, runs (ap (λ (z : Seat). z.phase) (same_Some x at.0 (sym there ∙ (ap (slot_of slots) here ∙ at.1))) ∙ at.2)))
    (λ other. (at.0, writes.other i other ∙ at.1, at.2))

-- a table in which one task changes, and still runs if it did
pub formed_put : (m : TableView) (slot : ℕ) (x y : Seat) → IsFormed m → slot_of m.slots slot ≡ Some x → y.number ≡ x.number → IsSeated m.moment y → (x.phase ≡ ph.Running → y.phase ≡ ph.Running) → IsFormed (put m slot y)
formed_put m slot x y f there same seat runs = formed_write m slot x y m.work f there same seat refl (λ w i q. still_runs m.slots slot i x y there runs (f.staffed w i q)) f.alone

-- ---- kept tasks, and cancels

pub formed_unkept : (m : TableView) (slot : ℕ) (x : Seat) → IsFormed m → slot_of m.slots slot ≡ Some x → IsFormed (put m slot (unkept x))
formed_unkept m slot x f there =
    let s = f.seated slot x there in
    formed_put m slot x (unkept x) f there refl (record { submitted = s.submitted; due = s.due; timed = s.timed; reached = s.reached; room = s.room; kept = λ q. absurd (false≢true q); over = s.over }) (λ runs. runs)

seated_cancelled : (moment : ℕ) (removes : Bool) (x : Seat) → IsSeated moment x → IsSeated moment (cancelled removes x)
seated_cancelled moment removes x s = record {
  submitted = s.submitted;
  due = s.due;
  timed = s.timed;
  reached = s.reached;
  room = s.room;
  kept = λ q. (elim (or_cases x.kept (is_waiting_in x.phase && not removes) q) [ inl before ↦ (s.kept before).0 | inr now ↦ waiting_phase x.phase (and_parts (is_waiting_in x.phase) (not removes) now).0 ], refl);
  over = λ q. refl;
}

pub formed_cancelled : (m : TableView) (slot : ℕ) (x : Seat) → IsFormed m → slot_of m.slots slot ≡ Some x → IsFormed (cancel_in m slot x)
formed_cancelled m slot x f there = by ((is_waiting_in x.phase || is_running_in x.phase) && not x.cancelled)
  where
    by : (b : Bool) → IsFormed (cancel_by (cond b effect.Yes effect.No) m slot x)
    by true = formed_put m slot x (cancelled m.policies.removes x) f there refl (seated_cancelled m.moment m.policies.removes x (f.seated slot x there)) (λ runs. runs)
    by false = f

-- ---- starts

pub formed_started : (m : TableView) (worker slot : ℕ) (x : Seat) → IsFormed m → worker < workers_of m → slice_index_or m.work worker None ≡ None → IsFirstDue m slot x → x.run + 1 < 2 ^ 64 → IsFormed (started m worker slot x)
formed_started m worker slot x f low idle first few =
    formed_write m slot x (begun x) (set m.work worker (Some slot)) f first.there refl seat (length-set m.work worker (Some slot)) staffed alone
  where
    waiting : x.phase ≡ ph.Waiting
    waiting = waiting_phase x.phase (and_parts (is_waiting_in x.phase) (not x.cancelled) first.waiting).0

    s : IsSeated m.moment x
    s = f.seated slot x first.there

    seat : IsSeated m.moment (begun x)
    seat = record { submitted = λ q. cc; due = s.due; timed = s.timed; reached = λ q. first.due; room = λ q. few; kept = λ q. absurd (live (s.kept q).1); over = λ q. absurd cc }
      where
        live : x.cancelled ≡ true → ⊥
        live q = false≢true (sym (ap not q) ∙ (and_parts (is_waiting_in x.phase) (not x.cancelled) first.waiting).1)

    at : (w : ℕ) → slice_index_or (set m.work worker (Some slot)) w None ≡ cond (worker == w) (Some slot) (slice_index_or m.work w None)
    at w = at_set m.work worker w (Some slot) None low

    staffed : AreStaffed (set m.slots slot (Some (begun x))) (set m.work worker (Some slot))
    staffed w i q = by (worker == w) (sym (at w) ∙ q)
      where
        by : (b : Bool) → cond b (Some slot) (slice_index_or m.work w None) ≡ Some i → (z : Seat) × (slot_of (set m.slots slot (Some (begun x))) i ≡ Some z) × (z.phase ≡ ph.Running)
        by true q = (begun x, ap (slot_of (set m.slots slot (Some (begun x)))) (sym (same_Some slot i q)) ∙ (set_writes m.slots slot (begun x) (slot_within m.slots slot x first.there)).here, refl)
        by false q = still_runs m.slots slot i x (begun x) first.there (λ runs. refl) (f.staffed w i q)

    -- no worker had the slot
    none : (w : ℕ) → slice_index_or m.work w None ≡ Some slot → ⊥
    none w q = let at = f.staffed w slot q in let clash : ph.Waiting ≡ ph.Running = sym waiting ∙ (ap (λ (z : Seat). z.phase) (same_Some x at.0 (sym first.there ∙ at.1)) ∙ at.2) in cc

    alone : AreAlone (set m.work worker (Some slot))
    alone v w i p q = by (worker == v) (worker == w) refl refl (sym (at v) ∙ p) (sym (at w) ∙ q)
      where
        by : (b c : Bool) → (worker == v) ≡ b → (worker == w) ≡ c → cond b (Some slot) (slice_index_or m.work v None) ≡ Some i → cond c (Some slot) (slice_index_or m.work w None) ≡ Some i → v ≡ w
        by true true same also p q = sym (eqb-true worker v same) ∙ eqb-true worker w also
        by true false same apart p q = absurd (none w (q ∙ sym p))
        by false true apart same p q = absurd (none v (p ∙ sym q))
        by false false apart also p q = f.alone v w i p q

-- ---- finishes

-- only the outcome of a cancelled task is dropped
drops : (gone stops : Bool) (timing : Timing) (due : ℕ) (ending : Ending) → outcome_in gone stops timing due ending ≡ o.Dropped → gone ≡ true
drops true stops timing due ending q = refl
drops false stops t.Once due (e.Value value) q = cc
drops false true (t.Rate period) due (e.Value value) q = cc
drops false false (t.Rate period) due (e.Value value) q = cc
drops false true (t.Fixed delay) due (e.Value value) q = cc
drops false false (t.Fixed delay) due (e.Value value) q = cc
drops false stops timing due (e.Fault code) q = cc

-- the due moment after a run that was due is within the limit
due_within : (timing : Timing) (due moment : ℕ) → due ≤ moment → moment ≤ longest → IsTimed timing → due_past timing due moment ≤ 2 ^ 63
due_within t.Once due moment reached near timed = omega (arith, reached, near)
due_within (t.Rate period) due moment reached near timed = omega (arith, reached, near, timed)
due_within (t.Fixed delay) due moment reached near timed = omega (arith, near, timed)

-- a task whose run ended
seated_ended : (moment due : ℕ) (outcome : Outcome) (x : Seat) → IsSeated moment x → x.phase ≡ ph.Running → due ≤ 2 ^ 63 → (outcome ≡ o.Dropped → x.cancelled ≡ true) → IsSeated moment (ended outcome due x)
seated_ended moment due outcome x s runs near gone = by outcome gone
  where
    unkept_yet : x.kept ≡ true → ⊥
    unkept_yet q = let clash : ph.Running ≡ ph.Waiting = sym runs ∙ (s.kept q).0 in cc

    by : (outcome : Outcome) → (outcome ≡ o.Dropped → x.cancelled ≡ true) → IsSeated moment (ended outcome due x)
    by (o.Done value) gone = record { submitted = λ q. cc; due = near; timed = s.timed; reached = λ q. absurd cc; room = λ q. absurd cc; kept = λ q. absurd (unkept_yet q); over = λ q. absurd cc }
    by (o.Failed code) gone = record { submitted = λ q. cc; due = near; timed = s.timed; reached = λ q. absurd cc; room = λ q. absurd cc; kept = λ q. absurd (unkept_yet q); over = λ q. absurd cc }
    by o.Dropped gone = record { submitted = λ q. cc; due = near; timed = s.timed; reached = λ q. absurd cc; room = λ q. absurd cc; kept = λ q. absurd (unkept_yet q); over = λ q. gone refl }
    by o.Ended gone = record { submitted = λ q. cc; due = near; timed = s.timed; reached = λ q. absurd cc; room = λ q. absurd cc; kept = λ q. absurd (unkept_yet q); over = λ q. refl }
    by (o.Again next) gone = record { submitted = λ q. cc; due = near; timed = s.timed; reached = λ q. absurd cc; room = λ q. absurd cc; kept = λ q. absurd (unkept_yet q); over = λ q. absurd cc }

ended_number : (outcome : Outcome) (due : ℕ) (x : Seat) → (ended outcome due x).number ≡ x.number
ended_number (o.Done value) due x = refl
ended_number (o.Failed code) due x = refl
ended_number o.Dropped due x = refl
ended_number o.Ended due x = refl
ended_number (o.Again next) due x = refl

pub formed_finished : (m : TableView) (worker slot : ℕ) (x : Seat) (stops : Bool) (ending : Ending) (outcome : Outcome) (due : ℕ) → IsFormed m → slice_index_or m.work worker None ≡ Some slot → slot_of m.slots slot ≡ Some x →
    due ≡ due_past x.timing x.due m.moment → outcome ≡ outcome_in x.cancelled stops x.timing due ending → IsFormed (finished m worker slot x outcome due)
formed_finished m worker slot x stops ending outcome due f busy there dues is =
    formed_write m slot x (ended outcome due x) (set m.work worker None) f there (ended_number outcome due x) seat (length-set m.work worker None) staffed alone
  where
    runs : x.phase ≡ ph.Running
    runs = let at = f.staffed worker slot busy in ap (λ (z : Seat). z.phase) (same_Some x at.0 (sym there ∙ at.1)) ∙ at.2

    s : IsSeated m.moment x
    s = f.seated slot x there

    seat : IsSeated m.moment (ended outcome due x)
    seat = seated_ended m.moment due outcome x s runs (subst (λ d. d ≤ 2 ^ 63) (sym dues) (due_within x.timing x.due m.moment (s.reached runs) f.moment s.timed)) (λ q. drops x.cancelled stops x.timing due ending (sym is ∙ q))

    at : (w : ℕ) → slice_index_or (set m.work worker None) w None ≡ cond (worker == w) None (slice_index_or m.work w None)
    at w = at_set m.work worker w None None (option_within m.work worker slot busy)

    -- a worker that still has work is another one, and has another slot
    left : (w i : ℕ) → slice_index_or (set m.work worker None) w None ≡ Some i → ((worker == w) ≡ false) × (slice_index_or m.work w None ≡ Some i)
    left w i q = by (worker == w) refl (sym (at w) ∙ q)
      where
        by : (b : Bool) → (worker == w) ≡ b → cond b None (slice_index_or m.work w None) ≡ Some i → ((worker == w) ≡ false) × (slice_index_or m.work w None ≡ Some i)
        by true same q = absurd (none-some i q)
        by false apart q = (apart, q)

    staffed : AreStaffed (set m.slots slot (Some (ended outcome due x))) (set m.work worker None)
    staffed w i q =
        let before = left w i q in
        let at = f.staffed w i before.1 in
        by_eqb slot i
        (λ here. absurd (eqb-false worker w before.0 (f.alone worker w slot busy (before.1 ∙ ap Some (sym here)))))
        (λ other. (at.0, (set_writes m.slots slot (ended outcome due x) (slot_within m.slots slot x there)).other i other ∙ at.1, at.2))

    alone : AreAlone (set m.work worker None)
    alone v w i p q = f.alone v w i (left v i p).1 (left w i q).1
