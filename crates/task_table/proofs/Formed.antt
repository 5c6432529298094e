-- A table stays well formed when its moment, its policies or its slots change, and where a task is accepted.
use Rattle.std.proofs.Common.{◌≡◌, ℕ, ◌+◌, ◌-◌, ◌^◌, ◌<◌, ◌≤◌, ◌==◌, ◌||◌, ◌++◌, zero, suc, Bool, true, false, cond, inl, inr, List, [], ◌∷◌, length, map, replicate, Option, Some, None, refl, sym, ap, ◌∙◌, arith, subst}
use Rattle.std.specs.Option.{option_map}
use Rattle.std.proofs.Math.ListN.{set}
use Rattle.std.proofs.lemmas.Bool.{false≢true, or_right}
use Rattle.std.proofs.lemmas.Option.{none-some, same_Some}
use Rattle.std.proofs.lemmas.List.{length-set, length-replicate, length-append}
use Rattle.sched_time.specs.Times.{longest}
use Rattle.sched_time.specs.declared.timing.Timing.{Timing}
use Rattle.sched_time.specs.declared.policies.Policies.{Policies}
use Rattle.queue_code.specs.Calls.{IsTimed}
use Rattle.executor_model.specs.declared.task.Stage.TheVariants as ph
use Rattle.executor_model.proofs.Tables.{at_set, at_replicate}
use Rattle.task_table.specs.declared.seat.Seat.{Seat}
use Rattle.task_table.specs.Seats.{task_in, slot_of, is_alive, is_running_in, waits, IsNew}
use Rattle.task_table.specs.Tables.{TableView}
use Rattle.task_table.specs.Changes.{submitted, at_moment, admitted, emptied, grown, swept, after_sweep}
use Rattle.task_table.specs.Formed.{IsSeated, IsFormed}
use Rattle.task_table.proofs.Written.{by_eqb, Writes, set_writes, slot_within, read_slot}

-- what is seated at a moment is at a later one
pub seated_later : (moment later : ℕ) (x : Seat) → moment ≤ later → IsSeated moment x → IsSeated later x
seated_later moment later x ahead s = record { submitted = s.submitted; due = s.due; timed = s.timed; reached = λ runs. omega (arith, ahead, s.reached runs); room = s.room; kept = s.kept; over = s.over }

-- a table at a later moment
pub formed_moment : (m : TableView) (at : ℕ) → IsFormed m → m.moment ≤ at → at ≤ longest → IsFormed (at_moment m at)
formed_moment m at f ahead near = record {
  moment = near;
  some = f.some;
  few = f.few;
  slots = f.slots;
  seated = λ i x q. seated_later m.moment at x ahead (f.seated i x q);
  apart = f.apart;
  staffed = f.staffed;
  alone = f.alone;
}

-- a table under other policies, shut or not, and stopped or not
pub formed_under : (m : TableView) (policies : Policies) (shut stopped : Bool) → IsFormed m → IsFormed (record m { policies = policies; shut = shut; stopped = stopped })
formed_under m policies shut stopped f = record { moment = f.moment; some = f.some; few = f.few; slots = f.slots; seated = f.seated; apart = f.apart; staffed = f.staffed; alone = f.alone }

-- ---- a task is accepted

seated_new : (number at delay : ℕ) (timing : Timing) → at ≤ longest → delay ≤ longest → IsTimed timing → IsSeated at (submitted number timing (at + delay))
seated_new number at delay timing near short timed = record {
  submitted = λ q. cc;
  due = omega (arith, near, short);
  timed = timed;
  reached = λ q. absurd cc;
  room = λ q. absurd cc;
  kept = λ q. absurd (false≢true q);
  over = λ q. absurd cc;
}

pub apart_new : (old new : List (Option Seat)) (slot : ℕ) (y : Seat) → IsNew old y.number → Writes old new slot y → ((i j : ℕ) (u v : Seat) → slot_of old i ≡ Some u → slot_of old j ≡ Some v → u.number ≡ v.number → i ≡ j) →
    (i j : ℕ) (u v : Seat) → slot_of new i ≡ Some u → slot_of new j ≡ Some v → u.number ≡ v.number → i ≡ j
apart_new old new slot y fresh writes apart i j u v p q e = elim (read_slot old new slot i y u writes p) [
  | inl own ↦ elim (read_slot old new slot j y v writes q) [
    | inl also ↦ sym own.0 ∙ also.0
    | inr left ↦ absurd (fresh j v left.1 (sym (ap (λ (z : Seat). z.number) own.1 ∙ e)))
  ]
  | inr left ↦ elim (read_slot old new slot j y v writes q) [
    | inl own ↦ absurd (fresh i u left.1 (e ∙ sym (ap (λ (z : Seat). z.number) own.1)))
    | inr also ↦ apart i j u v left.1 also.1 e
  ]
]

pub formed_admitted : (m : TableView) (slot number at : ℕ) (timing : Timing) (delay : ℕ) → IsFormed m → slot_of m.slots slot ≡ None → slot < length m.slots → IsNew m.slots number →
    m.moment ≤ at → at ≤ longest → delay ≤ longest → IsTimed timing → IsFormed (admitted m slot number at timing delay)
formed_admitted m slot number at timing delay f empty low fresh ahead near short timed =
    let y = submitted number timing (at + delay) in
    let writes = set_writes m.slots slot y low in
    let seat = seated_new number at delay timing near short timed in
    record {
      moment = near;
      some = f.some;
      few = f.few;
      slots = omega (arith, f.slots, length-set m.slots slot (Some y));
      seated = λ i x q. elim (read_slot m.slots _ slot i y x writes q) [ inl own ↦ subst (IsSeated at) own.1 seat | inr left ↦ seated_later m.moment at x ahead (f.seated i x left.1) ];
      apart = apart_new m.slots _ slot y fresh writes f.apart;
      staffed = λ w i q. still i (f.staffed w i q);
      alone = f.alone;
    }
  where
    still : (i : ℕ) → (x : Seat) × (slot_of m.slots i ≡ Some x) × (x.phase ≡ ph.Running) → (x : Seat) × (slot_of (set m.slots slot (Some (submitted number timing (at + delay)))) i ≡ Some x) × (x.phase ≡ ph.Running)
    still i there = by_eqb slot i
        (λ here. absurd (none-some there.0 (sym empty ∙ (ap (slot_of m.slots) here ∙ there.1))))
        (λ other. (there.0, (set_writes m.slots slot (submitted number timing (at + delay)) low).other i other ∙ there.1, there.2))

-- ---- a slot is emptied, and there are more slots

read_cleared : (slots : List (Option Seat)) (slot i : ℕ) (y : Seat) → slot < length slots → slot_of (set slots slot None) i ≡ Some y → ((slot == i) ≡ false) × (slot_of slots i ≡ Some y)
read_cleared slots slot i y low q = by (slot == i) refl (sym (at_set slots slot i None None low) ∙ q)
  where
    by : (b : Bool) → (slot == i) ≡ b → cond b None (slot_of slots i) ≡ Some y → ((slot == i) ≡ false) × (slot_of slots i ≡ Some y)
    by true is q = absurd (none-some y q)
    by false is q = (is, q)

-- of a slot whose task is over
not_running : (x : Seat) → is_alive (task_in x) ≡ false → x.phase ≡ ph.Running → ⊥
not_running x over runs = false≢true (sym over ∙ or_right (waits (task_in x) || x.kept) (is_running_in x.phase) (ap is_running_in runs))

pub formed_emptied : (m : TableView) (slot : ℕ) (x : Seat) → IsFormed m → slot_of m.slots slot ≡ Some x → is_alive (task_in x) ≡ false → IsFormed (emptied m slot)
formed_emptied m slot x f there over =
    let low = slot_within m.slots slot x there in
    record {
      moment = f.moment;
      some = f.some;
      few = f.few;
      slots = omega (arith, f.slots, length-set m.slots slot None);
      seated = λ i y q. f.seated i y (read_cleared m.slots slot i y low q).1;
      apart = λ i j u v p q. f.apart i j u v (read_cleared m.slots slot i u low p).1 (read_cleared m.slots slot j v low q).1;
      staffed = λ w i q. still i (f.staffed w i q);
      alone = f.alone;
    }
  where
    still : (i : ℕ) → (y : Seat) × (slot_of m.slots i ≡ Some y) × (y.phase ≡ ph.Running) → (y : Seat) × (slot_of (set m.slots slot None) i ≡ Some y) × (y.phase ≡ ph.Running)
    still i at = by_eqb slot i
        (λ here. absurd (not_running x over (ap (λ (z : Seat). z.phase) (same_Some x at.0 (sym there ∙ (ap (slot_of m.slots) here ∙ at.1))) ∙ at.2)))
        (λ other. (at.0, at_set m.slots slot i None None (slot_within m.slots slot x there) ∙ (ap (λ b. cond b None (slot_of m.slots i)) other ∙ at.1), at.2))

pub at_grown : (slots : List (Option Seat)) (n i : ℕ) → slot_of (slots ++ replicate n None) i ≡ slot_of slots i
at_grown [] n i = at_replicate n i None
at_grown (x ∷ slots) n zero = refl
at_grown (x ∷ slots) n (suc i) = at_grown slots n i

pub formed_grown : (m : TableView) (slots : ℕ) → IsFormed m → slots < 2 ^ 32 → IsFormed (grown m slots)
formed_grown m slots f few =
    let n = slots - length m.slots in
    let same = at_grown m.slots n in
    record {
      moment = f.moment;
      some = f.some;
      few = f.few;
      slots = let wide : length (m.slots ++ replicate n None) ≡ length m.slots + n = length-append m.slots (replicate n None) ∙ ap (λ k. length m.slots + k) (length-replicate n None) in omega (arith, f.slots, few, wide);
      seated = λ i x q. f.seated i x (sym (same i) ∙ q);
      apart = λ i j x y p q. f.apart i j x y (sym (same i) ∙ p) (sym (same j) ∙ q);
      staffed = λ w i q. let at = f.staffed w i q in (at.0, same i ∙ at.1, at.2);
      alone = f.alone;
    }

-- ---- a sweep

-- what a slot holds after a sweep
pub at_swept : (m : TableView) (i : ℕ) → slot_of (after_sweep m).slots i ≡ option_map (λ x. swept m.stopped m.policies m.moment x) (slot_of m.slots i)
at_swept m i = by m.slots i
  where
    each : Option Seat → Option Seat
    each = option_map (λ x. swept m.stopped m.policies m.moment x)

    by : (slots : List (Option Seat)) (i : ℕ) → slot_of (map each slots) i ≡ each (slot_of slots i)
    by [] i = refl
    by (x ∷ slots) zero = refl
    by (x ∷ slots) (suc i) = by slots i

-- what it held before
pub read_swept : (m : TableView) (i : ℕ) (y : Seat) → slot_of (after_sweep m).slots i ≡ Some y → (x : Seat) × (slot_of m.slots i ≡ Some x) × (swept m.stopped m.policies m.moment x ≡ y)
read_swept m i y q = by (slot_of m.slots i) refl (sym (at_swept m i) ∙ q)
  where
    by : (o : Option Seat) → slot_of m.slots i ≡ o → option_map (λ x. swept m.stopped m.policies m.moment x) o ≡ Some y → (x : Seat) × (slot_of m.slots i ≡ Some x) × (swept m.stopped m.policies m.moment x ≡ y)
    by None is q = absurd (none-some y q)
    by (Some x) is q = (x, is, same_Some (swept m.stopped m.policies m.moment x) y q)
