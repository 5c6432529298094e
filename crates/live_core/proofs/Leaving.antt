-- Each number in a slot stood there before: a task keeps its slot.
use Rattle.std.proofs.Common.{◌≡◌, ℕ, List, inl, inr, Option, Some, None, refl, sym, ap, ◌∙◌, arith}
use Rattle.std.specs.Prelude.{◌-◌, length, slice_set, Result, Ok, Err, OnOk}
use Rattle.std.specs.Option.{option_map}
use Rattle.std.proofs.lemmas.Option.{none-some, same_Some}
use Rattle.std.proofs.lemmas.List.{length-set}
use Rattle.task_table.specs.declared.seat.Seat.{Seat}
use Rattle.task_table.specs.declared.seat.TaskRef.{TaskRef}
use Rattle.task_table.specs.Seats.{slot_of}
use Rattle.task_table.specs.Tables.{TableView, workers_of}
use Rattle.task_table.specs.Changes.{emptied, grown}
use Rattle.task_table.specs.Endings.{SweepEnds}
use Rattle.live_core.specs.Lives.{LiveView, KeepsSlots, AreGiven, AreApart, AreAlive, Stays}
use Rattle.live_core.specs.Empties.{held_numbers, number_in}
use Rattle.live_core.specs.own.Slots.{LeavesNumbers, LeavesSlots, LeavesBelow}
use Rattle.live_core.specs.own.Formed.{AreNoted}
use Rattle.live_core.proofs.Alive.{set_case, LeavesThere}
use Rattle.live_core.proofs.Held.{number_at, number_there, held_length, held_grown}
use Rattle.live_core.proofs.Indexed.{number_given, one_slot}
use Rattle.live_core.proofs.Ranged.{grown_number}
use Rattle.live_core.proofs.Swept.{sweep_numbers}

-- ---- numbers that stay

-- the numbers are those that there were
pub leaves_same : (old new : List (Option Seat)) → held_numbers new ≡ held_numbers old → LeavesSlots old new
leaves_same old new same = record {
  numbers = λ i k is. sym (ap (λ (held : List (Option ℕ)). number_in held i) same) ∙ is;
  size = sym (held_length new) ∙ (ap length same ∙ held_length old);
}

-- the slots are as they were
pub leaves_still : (m new : TableView) → new.slots ≡ m.slots → LeavesSlots m.slots new.slots
leaves_still m new same = leaves_same m.slots new.slots (ap held_numbers same)

-- one change after another
pub leaves_more : (old mid new : List (Option Seat)) → LeavesSlots old mid → LeavesSlots mid new → LeavesSlots old new
leaves_more old mid new before after = record { numbers = λ i k is. before.numbers i k (after.numbers i k is); size = after.size ∙ before.size }

-- before a change that adds numbers
pub leaves_before : (count : ℕ) (old mid new : List (Option Seat)) → LeavesNumbers old mid → LeavesBelow count mid new → LeavesBelow count old new
leaves_before count old mid new before after i k is low = before i k (after i k is low)

-- all numbers that stay are some
pub leaves_below : (count : ℕ) (old new : List (Option Seat)) → LeavesNumbers old new → LeavesBelow count old new
leaves_below count old new leaves i k is low = leaves i k is

-- the number in a slot is that of a task there
pub task_there : (slots : List (Option Seat)) (i k : ℕ) → number_in (held_numbers slots) i ≡ Some k → (x : Seat) × (slot_of slots i ≡ Some x) × (x.number ≡ k)
task_there slots i k is = by (slot_of slots i) refl (sym (number_at slots i) ∙ is)
  where
    by : (o : Option Seat) → slot_of slots i ≡ o → option_map (λ (x : Seat). x.number) o ≡ Some k → (x : Seat) × (slot_of slots i ≡ Some x) × (x.number ≡ k)
    by None there q = absurd (none-some k q)
    by (Some x) there q = (x, there, same_Some x.number k q)

-- whatever is left in a slot was there, and so was its number
pub leaves_numbers : (old new : TableView) → LeavesThere old new → length new.slots ≡ length old.slots → LeavesSlots old.slots new.slots
leaves_numbers old new leaves size = record {
  numbers = λ i k is. let x = task_there new.slots i k is in number_there old.slots i x.0 (leaves i x.0 x.1) ∙ ap Some x.2;
  size = size;
}

-- a call that sweeps: kept tasks left their slots before it, and those that it ended after it
pub leaves_swept : (old m swept new : TableView) (ends : List TaskRef) → LeavesThere old m → length m.slots ≡ length old.slots → SweepEnds m swept ends → LeavesThere swept new → length new.slots ≡ length swept.slots → LeavesSlots old.slots new.slots
leaves_swept old m swept new ends before few s after left =
    leaves_more old.slots m.slots new.slots (leaves_numbers old m before few)
    (leaves_more m.slots swept.slots new.slots (leaves_same m.slots swept.slots (sweep_numbers m swept ends s)) (leaves_numbers swept new after left))

-- ---- a slot is written, or there are more

-- a slot is emptied
pub leaves_emptied : (m new : TableView) (slot : ℕ) → new ≡ emptied m slot → LeavesSlots m.slots new.slots
leaves_emptied m new slot is = record { numbers = numbers; size = ap (λ (v : TableView). length v.slots) is ∙ length-set m.slots slot None }
  where
    numbers : LeavesNumbers m.slots new.slots
    numbers i k there =
        let x = task_there new.slots i k there in
        elim (set_case m.slots slot i None x.0 (sym (ap (λ (v : TableView). slot_of v.slots i) is) ∙ x.1)) [
          | inl here ↦ absurd (none-some x.0 here.1)
          | inr other ↦ number_there m.slots i x.0 other.1 ∙ ap Some x.2
        ]

-- a task with a number that was not given out comes into it
pub leaves_put : (m new : TableView) (slot : ℕ) (y : Seat) → new.slots ≡ slice_set m.slots slot (Some y) → LeavesBelow y.number m.slots new.slots
leaves_put m new slot y is i k there low =
    let x = task_there new.slots i k there in
    elim (set_case m.slots slot i (Some y) x.0 (sym (ap (λ (slots : List (Option Seat)). slot_of slots i) is) ∙ x.1)) [
      | inl here ↦
          let number : y.number ≡ x.0.number = ap (λ (z : Seat). z.number) (same_Some y x.0 here.1) in
          absurd (omega (arith, number, x.2, low))
      | inr other ↦ number_there m.slots i x.0 other.1 ∙ ap Some x.2
    ]

-- there are more slots
pub leaves_grown : (m new : TableView) (slots : ℕ) → new ≡ grown m slots → LeavesNumbers m.slots new.slots
leaves_grown m new slots is i k there =
    let n = slots - length m.slots in
    sym (grown_number (held_numbers m.slots) n i)
    ∙ (sym (ap (λ (held : List (Option ℕ)). number_in held i) (held_grown m.slots n))
    ∙ (sym (ap (λ (v : TableView). number_in (held_numbers v.slots) i) is) ∙ there))

-- ---- what a call leaves, or an event

-- a task whose number was given out keeps its slot
keeps : (old new : LiveView) → LeavesBelow old.count old.table.slots new.table.slots → KeepsSlots old new
keeps old new leaves i x there low = task_there old.table.slots i x.number (leaves i x.number (number_there new.table.slots i x there) low)

-- each number in a slot was given out
given : (m : LiveView) (free : List ℕ) (entries : List TaskRef) (slot_room ended_room : ℕ) → AreNoted m.table.slots m.count free entries slot_room ended_room → AreGiven m
given m free entries slot_room ended_room noted i x there = number_given (held_numbers m.table.slots) entries m.count i x.number noted.index (number_there m.table.slots i x there)

-- no task has two slots
apart : (m : LiveView) (free : List ℕ) (entries : List TaskRef) (slot_room ended_room : ℕ) → AreNoted m.table.slots m.count free entries slot_room ended_room → AreApart m
apart m free entries slot_room ended_room noted i j x y at_i at_j same =
    one_slot (held_numbers m.table.slots) entries m.count i j x.number noted.index (number_there m.table.slots i x at_i) (number_there m.table.slots j y at_j ∙ ap Some (sym same))

-- where the slots are noted, and the numbers stay
pub stays_noted : (m new : LiveView) (free : List ℕ) (entries : List TaskRef) (slot_room ended_room : ℕ) → workers_of new.table ≡ workers_of m.table → new.earliest ≡ m.earliest →
    LeavesBelow m.count m.table.slots new.table.slots → (new.count ≡ m.count → length new.table.slots ≡ length m.table.slots) → AreNoted new.table.slots new.count free entries slot_room ended_room →
    AreAlive new.table.slots → Stays m new new.count
stays_noted m new free entries slot_room ended_room width same leaves size noted alive = record {
  workers = width;
  earliest = same;
  count = refl;
  slots = keeps m new leaves;
  size = size;
  given = given new free entries slot_room ended_room noted;
  apart = apart new free entries slot_room ended_room noted;
  alive = alive;
}

-- the same where none was given out
pub stays_left : (m new : LiveView) (free : List ℕ) (entries : List TaskRef) (slot_room ended_room : ℕ) → workers_of new.table ≡ workers_of m.table → new.earliest ≡ m.earliest →
    LeavesSlots m.table.slots new.table.slots → AreNoted new.table.slots new.count free entries slot_room ended_room → AreAlive new.table.slots → Stays m new new.count
stays_left m new free entries slot_room ended_room width same leaves noted alive =
    stays_noted m new free entries slot_room ended_room width same (leaves_below m.count m.table.slots new.table.slots leaves.numbers) (λ q. leaves.size) noted alive

pub always_on_ok : {T E P : Type 0} (r : Result T E) → P → OnOk r P
always_on_ok (Ok x) p = p
always_on_ok (Err e) p = tt
