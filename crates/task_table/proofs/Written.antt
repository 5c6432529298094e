-- What is in the slots once one of them is written, and which tasks they show then.
use Rattle.std.proofs.Common.{◌≡◌, ℕ, zero, suc, ◌<◌, ◌==◌, Bool, true, false, cond, inl, inr, ◌⊎◌, List, [], ◌∷◌, length, Option, Some, None, refl, sym, ap, ◌∙◌, arith, subst}
use Rattle.std.proofs.Math.ListN.{set}
use Rattle.std.proofs.lemmas.Bool.{eqb-true, eqb-false, eq-eqb, false_from_ne_true}
use Rattle.std.proofs.lemmas.Option.{none-some, same_Some}
use Rattle.executor_model.specs.declared.task.Task.{Task}
use Rattle.executor_model.proofs.Tables.{at_set}
use Rattle.task_table.specs.declared.seat.Seat.{Seat}
use Rattle.task_table.specs.Seats.{task_in, slot_of, is_alive, IsNew}

-- a number is another one, or is not
pub by_eqb : {X : Type 0} (n k : ℕ) → (n ≡ k → X) → ((n == k) ≡ false → X) → X
by_eqb {X = X} n k here other = pick (n == k) refl
  where
    pick : (b : Bool) → (n == k) ≡ b → X
    pick true q = here (eqb-true n k q)
    pick false q = other q

-- two numbers that differ are told apart
pub apart_eqb : (n k : ℕ) → (n ≡ k → ⊥) → (n == k) ≡ false
apart_eqb n k differ = false_from_ne_true (n == k) (λ e. differ (eqb-true n k e))

-- the slots once one of them holds this
pub record Writes (old new : List (Option Seat)) (slot : ℕ) (x : Seat) : Type 0 where
  pub here : slot_of new slot ≡ Some x
  pub other : (i : ℕ) → (slot == i) ≡ false → slot_of new i ≡ slot_of old i

pub set_writes : (old : List (Option Seat)) (slot : ℕ) (x : Seat) → slot < length old → Writes old (set old slot (Some x)) slot x
set_writes old slot x low = record {
  here = at_set old slot slot (Some x) None low ∙ ap (λ b. cond b (Some x) (slot_of old slot)) (eq-eqb slot slot refl);
  other = λ i apart. at_set old slot i (Some x) None low ∙ ap (λ b. cond b (Some x) (slot_of old i)) apart;
}

-- a slot that holds something is one of the table
pub slot_within : (slots : List (Option Seat)) (i : ℕ) (x : Seat) → slot_of slots i ≡ Some x → i < length slots
slot_within [] i x q = absurd (none-some x q)
slot_within (y ∷ slots) zero x q = omega arith
slot_within (y ∷ slots) (suc i) x q = omega (arith, slot_within slots i x q)

-- what is in a slot then: what was written, or what was there
pub read_slot : (old new : List (Option Seat)) (slot i : ℕ) (x y : Seat) → Writes old new slot x → slot_of new i ≡ Some y → ((slot ≡ i) × (x ≡ y)) ⊎ (((slot == i) ≡ false) × (slot_of old i ≡ Some y))
read_slot old new slot i x y w q = by (slot == i) refl
  where
    by : (b : Bool) → (slot == i) ≡ b → ((slot ≡ i) × (x ≡ y)) ⊎ (((slot == i) ≡ false) × (slot_of old i ≡ Some y))
    by true same = inl (eqb-true slot i same, same_Some x y (sym w.here ∙ (ap (slot_of new) (eqb-true slot i same) ∙ q)))
    by false apart = inr (apart, sym (w.other i apart) ∙ q)

-- no two slots hold tasks of one number
abbrev pub AreApart : List (Option Seat) → Type 0
AreApart slots = (i j : ℕ) (x y : Seat) → slot_of slots i ≡ Some x → slot_of slots j ≡ Some y → x.number ≡ y.number → i ≡ j

-- what each slot holds is the task of its number
abbrev pub Holds : List (Option Seat) → (ℕ → Task) → Type 0
Holds slots tasks = (i : ℕ) (x : Seat) → slot_of slots i ≡ Some x → tasks x.number ≡ task_in x

-- each task of which something may come has a slot
abbrev pub Knows : List (Option Seat) → (ℕ → Task) → Type 0
Knows slots tasks = (k : ℕ) → is_alive (tasks k) ≡ true → (i : ℕ) × (x : Seat) × (slot_of slots i ≡ Some x) × (x.number ≡ k)

-- the tasks are as they were, but for that of one number
abbrev pub ChangesOne : ℕ → (ℕ → Task) → (ℕ → Task) → Type 0
ChangesOne number before after = (k : ℕ) → (number == k) ≡ false → after k ≡ before k

-- ---- a task in a slot becomes another one of its number

pub holds_put : (old new : List (Option Seat)) (slot : ℕ) (x y : Seat) (before after : ℕ → Task) → AreApart old → slot_of old slot ≡ Some x → y.number ≡ x.number → Writes old new slot y →
    Holds old before → ChangesOne x.number before after → after x.number ≡ task_in y → Holds new after
holds_put old new slot x y before after apart there same writes holds one here i z q = elim (read_slot old new slot i y z writes q) [
  | inl own ↦ subst (λ (u : Seat). after u.number ≡ task_in u) own.1 (ap after same ∙ here)
  | inr left ↦ one z.number (apart_eqb x.number z.number (λ e. absurd (eqb-false slot i left.0 (apart slot i x z there left.1 e)))) ∙ holds i z left.1
]

pub knows_put : (old new : List (Option Seat)) (slot : ℕ) (x y : Seat) (before after : ℕ → Task) → slot_of old slot ≡ Some x → y.number ≡ x.number → Writes old new slot y →
    Knows old before → ChangesOne x.number before after → Knows new after
knows_put old new slot x y before after there same writes knows one k q = by_eqb x.number k
    (λ here. (slot, y, writes.here, same ∙ here))
    (λ other. still (knows k (sym (ap is_alive (one k other)) ∙ q)))
  where
    still : (i : ℕ) × (z : Seat) × (slot_of old i ≡ Some z) × (z.number ≡ k) → (i : ℕ) × (z : Seat) × (slot_of new i ≡ Some z) × (z.number ≡ k)
    still at = by_eqb slot at.0
        (λ here. (slot, y, writes.here, same ∙ (ap (λ (u : Seat). u.number) (same_Some x at.1 (sym there ∙ (ap (slot_of old) here ∙ at.2))) ∙ at.3)))
        (λ other. (at.0, at.1, writes.other at.0 other ∙ at.2, at.3))

-- ---- a task that is new comes into an empty slot

pub holds_new : (old new : List (Option Seat)) (slot : ℕ) (y : Seat) (before after : ℕ → Task) → IsNew old y.number → Writes old new slot y →
    Holds old before → ChangesOne y.number before after → after y.number ≡ task_in y → Holds new after
holds_new old new slot y before after fresh writes holds one here i z q = elim (read_slot old new slot i y z writes q) [
  | inl own ↦ subst (λ (u : Seat). after u.number ≡ task_in u) own.1 here
  | inr left ↦ one z.number (apart_eqb y.number z.number (λ e. fresh i z left.1 (sym e))) ∙ holds i z left.1
]

pub knows_new : (old new : List (Option Seat)) (slot : ℕ) (y : Seat) (before after : ℕ → Task) → slot_of old slot ≡ None → Writes old new slot y →
    Knows old before → ChangesOne y.number before after → Knows new after
knows_new old new slot y before after empty writes knows one k q = by_eqb y.number k
    (λ here. (slot, y, writes.here, here))
    (λ other. still (knows k (sym (ap is_alive (one k other)) ∙ q)))
  where
    still : (i : ℕ) × (z : Seat) × (slot_of old i ≡ Some z) × (z.number ≡ k) → (i : ℕ) × (z : Seat) × (slot_of new i ≡ Some z) × (z.number ≡ k)
    still at = (at.0, at.1, writes.other at.0 (apart_eqb slot at.0 (λ here. none-some at.1 (sym empty ∙ (ap (slot_of old) here ∙ at.2)))) ∙ at.2, at.3)

-- ---- the work of the workers

pub apart_put : (old new : List (Option Seat)) (slot : ℕ) (x y : Seat) → AreApart old → slot_of old slot ≡ Some x → y.number ≡ x.number → Writes old new slot y → AreApart new
apart_put old new slot x y apart there same writes i j u v p q e = elim (read_slot old new slot i y u writes p) [
  | inl own ↦ elim (read_slot old new slot j y v writes q) [
    | inl also ↦ sym own.0 ∙ also.0
    | inr left ↦ sym own.0 ∙ apart slot j x v there left.1 (sym same ∙ (ap (λ (z : Seat). z.number) own.1 ∙ e))
  ]
  | inr left ↦ elim (read_slot old new slot j y v writes q) [
    | inl own ↦ apart i slot u x left.1 there (e ∙ (sym (ap (λ (z : Seat). z.number) own.1) ∙ same)) ∙ own.0
    | inr also ↦ apart i j u v left.1 also.1 e
  ]
]
