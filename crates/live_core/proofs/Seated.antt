-- Which slot holds the task of a number, and what a cancel leaves of the slots.
use Rattle.std.proofs.Common.{◌≡◌, ℕ, ◌==◌, zero, suc, Bool, true, false, List, [], ◌∷◌, Option, Some, None, refl, sym, ap, ◌∙◌, subst}
use Rattle.std.specs.Prelude.{slice_set, not}
use Rattle.std.specs.Option.{option_map, option_map_or}
use Rattle.std.proofs.lemmas.Bool.{false≢true, eqb-true, eq-eqb}
use Rattle.std.proofs.lemmas.Option.{none-some, same_Some}
use Rattle.executor_model.specs.declared.types.CancelEffect.{CancelEffect}
use Rattle.executor_model.specs.declared.types.CancelEffect.TheVariants as f
use Rattle.task_table.specs.declared.seat.Seat.{Seat}
use Rattle.task_table.specs.declared.seat.TaskRef.{TaskRef}
use Rattle.task_table.specs.Seats.{task_in, slot_of, is_alive, IsNew}
use Rattle.task_table.specs.Tables.{TableView, workers_of}
use Rattle.task_table.specs.Ends.{effect_of}
use Rattle.task_table.specs.Changes.{at_moment, cancelled, cancel_by, cancel_in, emptied}
use Rattle.task_table.proofs.Written.{by_eqb}
use Rattle.live_core.specs.Cancels.{IsHeldAlive}
use Rattle.live_core.specs.Empties.{held_numbers}
use Rattle.live_core.specs.own.Slots.{is_held, HasEntry, HasNone, IsIndex}
use Rattle.live_core.specs.own.Places.{IsSlotOf}
use Rattle.live_core.proofs.Held.{number_at, number_there, held_put, new_number}
use Rattle.live_core.specs.own.Formed.{AreNoted}
use Rattle.live_core.proofs.Noted.{noted_still}
use Rattle.live_core.proofs.Indexed.{without_entry, stale_entry, one_slot}

-- ---- a slot is written

set_there : (slots : List (Option Seat)) (slot : ℕ) (x y : Seat) → slot_of slots slot ≡ Some x → slot_of (slice_set slots slot (Some y)) slot ≡ Some y
set_there [] slot x y is = absurd (none-some x is)
set_there (o ∷ slots) zero x y is = refl
set_there (o ∷ slots) (suc slot) x y is = set_there slots slot x y is

set_none : (slots : List (Option Seat)) (slot : ℕ) (x : Seat) → slot_of slots slot ≡ Some x → slot_of (slice_set slots slot None) slot ≡ None
set_none [] slot x is = refl
set_none (o ∷ slots) zero x is = refl
set_none (o ∷ slots) (suc slot) x is = set_none slots slot x is

-- another one stays
set_apart : (slots : List (Option Seat)) (slot i : ℕ) (o : Option Seat) → (slot ≡ i → ⊥) → slot_of (slice_set slots slot o) i ≡ slot_of slots i
set_apart [] slot i o other = refl
set_apart (p ∷ slots) zero zero o other = absurd (other refl)
set_apart (p ∷ slots) zero (suc i) o other = refl
set_apart (p ∷ slots) (suc slot) zero o other = refl
set_apart (p ∷ slots) (suc slot) (suc i) o other = set_apart slots slot i o (λ e. other (ap suc e))

-- ---- the slot of a task

-- it holds the task
pub held_there : (slots : List (Option Seat)) (task : TaskRef) → is_held (held_numbers slots) task ≡ true → IsSlotOf slots task.number (Some task.slot)
held_there slots task is = by (slot_of slots task.slot) refl (sym (ap (λ (o : Option ℕ). option_map_or (λ k. k == task.number) o false) (number_at slots task.slot)) ∙ is)
  where
    by : (o : Option Seat) → slot_of slots task.slot ≡ o → option_map_or (λ k. k == task.number) (option_map (λ (x : Seat). x.number) o) false ≡ true → IsSlotOf slots task.number (Some task.slot)
    by None there q = absurd (false≢true q)
    by (Some x) there q = (x, there, eqb-true x.number task.number q)

-- no slot holds the task of a number that has no entry
pub gone_without : (slots : List (Option Seat)) (entries : List TaskRef) (count number : ℕ) → IsIndex (held_numbers slots) entries count → HasNone entries number → IsNew slots number
gone_without slots entries count number index none = new_number slots number (without_entry (held_numbers slots) entries count number index none)

-- nor that of one whose entry is stale
pub gone_stale : (slots : List (Option Seat)) (entries : List TaskRef) (count number slot : ℕ) → IsIndex (held_numbers slots) entries count → HasEntry entries number slot →
    is_held (held_numbers slots) (record { number = number; slot = slot }) ≡ false → IsNew slots number
gone_stale slots entries count number slot index entry stale =
    new_number slots number (stale_entry (held_numbers slots) entries count entry.0 (record { number = number; slot = slot }) index entry.1 (λ there.
    false≢true (sym stale ∙ (ap (λ (o : Option ℕ). option_map_or (λ k. k == number) o false) there ∙ eq-eqb number number refl))))

-- ---- what a cancel of the task in a slot leaves

-- the table then, whatever its moment
pub record IsCancelled (m mid : TableView) (slot : ℕ) (x : Seat) : Type 0 where
  pub slots : mid.slots ≡ (cancel_in m slot x).slots
  pub shut : mid.shut ≡ m.shut
  pub workers : workers_of mid ≡ workers_of m

cancel_shut : (m : TableView) (slot : ℕ) (x : Seat) → (cancel_in m slot x).shut ≡ m.shut
cancel_shut m slot x = by (effect_of x)
  where
    by : (e : CancelEffect) → (cancel_by e m slot x).shut ≡ m.shut
    by f.Yes = refl
    by f.No = refl
    by f.Absent = refl

cancel_workers : (m : TableView) (slot : ℕ) (x : Seat) → workers_of (cancel_in m slot x) ≡ workers_of m
cancel_workers m slot x = by (effect_of x)
  where
    by : (e : CancelEffect) → workers_of (cancel_by e m slot x) ≡ workers_of m
    by f.Yes = refl
    by f.No = refl
    by f.Absent = refl

-- from outside
pub cancelled_outside : (m mid : TableView) (slot : ℕ) (x : Seat) → mid ≡ cancel_in m slot x → IsCancelled m mid slot x
cancelled_outside m mid slot x is = record {
  slots = ap (λ (t : TableView). t.slots) is;
  shut = ap (λ (t : TableView). t.shut) is ∙ cancel_shut m slot x;
  workers = ap workers_of is ∙ cancel_workers m slot x;
}

-- by a call
pub cancelled_by_call : (m mid : TableView) (slot at : ℕ) (x : Seat) → mid ≡ at_moment (cancel_in m slot x) at → IsCancelled m mid slot x
cancelled_by_call m mid slot at x is = record {
  slots = ap (λ (t : TableView). t.slots) is;
  shut = ap (λ (t : TableView). t.shut) is ∙ cancel_shut m slot x;
  workers = ap workers_of is ∙ cancel_workers m slot x;
}

-- each slot has the number that it had
cancel_numbers : (m : TableView) (slot : ℕ) (x : Seat) → slot_of m.slots slot ≡ Some x → held_numbers (cancel_in m slot x).slots ≡ held_numbers m.slots
cancel_numbers m slot x there = by (effect_of x)
  where
    by : (e : CancelEffect) → held_numbers (cancel_by e m slot x).slots ≡ held_numbers m.slots
    by f.Yes = held_put m.slots slot x (cancelled m.policies.removes x) there refl
    by f.No = refl
    by f.Absent = refl

pub cancelled_numbers : (m mid : TableView) (slot : ℕ) (x : Seat) → IsCancelled m mid slot x → slot_of m.slots slot ≡ Some x → held_numbers mid.slots ≡ held_numbers m.slots
cancelled_numbers m mid slot x is there = ap held_numbers is.slots ∙ cancel_numbers m slot x there

pub cancelled_noted : (m mid : TableView) (slot : ℕ) (x : Seat) (count : ℕ) (free : List ℕ) (entries : List TaskRef) (slot_room ended_room more_ended : ℕ) → IsCancelled m mid slot x → slot_of m.slots slot ≡ Some x → more_ended ≡ ended_room →
    AreNoted m.slots count free entries slot_room ended_room → AreNoted mid.slots count free entries slot_room more_ended
cancelled_noted m mid slot x count free entries slot_room ended_room more_ended is there same noted =
    subst (λ room. AreNoted mid.slots count free entries slot_room room) (sym same)
    (noted_still m.slots mid.slots count free entries slot_room ended_room (cancelled_numbers m mid slot x is there) noted)

-- and so the slot has the task of its number
cancel_there : (m : TableView) (slot number : ℕ) (x : Seat) → slot_of m.slots slot ≡ Some x → x.number ≡ number → IsSlotOf (cancel_in m slot x).slots number (Some slot)
cancel_there m slot number x there own = by (effect_of x)
  where
    by : (e : CancelEffect) → IsSlotOf (cancel_by e m slot x).slots number (Some slot)
    by f.Yes = (cancelled m.policies.removes x, set_there m.slots slot x (cancelled m.policies.removes x) there, own)
    by f.No = (x, there, own)
    by f.Absent = (x, there, own)

pub cancelled_there : (m mid : TableView) (slot number : ℕ) (x : Seat) → IsCancelled m mid slot x → slot_of m.slots slot ≡ Some x → x.number ≡ number → IsSlotOf mid.slots number (Some slot)
cancelled_there m mid slot number x is there own = subst (λ slots. IsSlotOf slots number (Some slot)) (sym is.slots) (cancel_there m slot number x there own)

-- ---- the slot of a task that is over is emptied

-- no other slot has its number
alone : (slots : List (Option Seat)) (entries : List TaskRef) (count slot i number : ℕ) (y : Seat) → IsIndex (held_numbers slots) entries count → IsSlotOf slots number (Some slot) → slot_of slots i ≡ Some y → y.number ≡ number → i ≡ slot
alone slots entries count slot i number y index own there same =
    one_slot (held_numbers slots) entries count i slot number index (number_there slots i y there ∙ ap Some same) (number_there slots slot own.0 own.1 ∙ ap Some own.2)

-- then none has it
pub over_emptied : (m : TableView) (entries : List TaskRef) (count slot number : ℕ) → IsIndex (held_numbers m.slots) entries count → IsSlotOf m.slots number (Some slot) → IsHeldAlive (emptied m slot) number
over_emptied m entries count slot number index own i y there same = by_eqb slot i here apart
  where
    here : slot ≡ i → is_alive (task_in y) ≡ true
    here e = absurd (none-some y (sym (ap (slot_of (emptied m slot).slots) (sym e) ∙ set_none m.slots slot own.0 own.1) ∙ there))

    other : (slot == i) ≡ false → slot ≡ i → ⊥
    other e same = false≢true (sym e ∙ eq-eqb slot i same)

    apart : (slot == i) ≡ false → is_alive (task_in y) ≡ true
    apart e = absurd (other e (sym (alone m.slots entries count slot i number y index own (sym (set_apart m.slots slot i None (other e)) ∙ there) same)))

-- and where it is not over, it stays the only one
pub still_alive : (m : TableView) (entries : List TaskRef) (count slot number : ℕ) (x : Seat) → IsIndex (held_numbers m.slots) entries count → slot_of m.slots slot ≡ Some x → not (is_alive (task_in x)) ≡ false → IsSlotOf m.slots number (Some slot) → IsHeldAlive m number
still_alive m entries count slot number x index is left own i y there same =
    let here = alone m.slots entries count slot i number y index own there same in
    let one : x ≡ y = same_Some x y (sym is ∙ (ap (slot_of m.slots) (sym here) ∙ there)) in
    subst (λ (z : Seat). is_alive (task_in z) ≡ true) one (alive (is_alive (task_in x)) left)
  where
    alive : (b : Bool) → not b ≡ false → b ≡ true
    alive true q = refl
    alive false q = sym q

-- a number that no slot has
pub new_alive : (m : TableView) (number : ℕ) → IsNew m.slots number → IsHeldAlive m number
new_alive m number new i y there same = absurd (new i y there same)
