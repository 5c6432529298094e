-- Of each task in a slot something may come, once a table has changed.
use Rattle.std.proofs.Common.{◌≡◌, ℕ, ◌+◌, ◌==◌, ◌||◌, zero, suc, Bool, true, false, cond, inl, inr, ◌⊎◌, List, [], ◌∷◌, ◌++◌, Option, Some, None, refl, sym, ap, ◌∙◌, arith, subst}
use Rattle.std.specs.Prelude.{map, replicate, slice_set, not}
use Rattle.std.specs.List.{All}
use Rattle.std.specs.Option.{option_map}
use Rattle.std.proofs.lemmas.Bool.{false≢true, eqb-true, or_left, or_right, or_cases}
use Rattle.std.proofs.lemmas.List.Elements.{All-nil, All-cons, All-head, All-tail}
use Rattle.std.proofs.lemmas.Option.{none-some, same_Some}
use Rattle.sched_time.specs.declared.timing.Ending.{Ending}
use Rattle.executor_model.specs.declared.types.CancelEffect.{CancelEffect}
use Rattle.executor_model.specs.declared.types.CancelEffect.TheVariants as f
use Rattle.executor_model.specs.declared.types.Outcome.{Outcome}
use Rattle.executor_model.specs.declared.types.Outcome.TheVariants as o
use Rattle.executor_model.specs.Histories.{is_end}
use Rattle.executor_model.specs.State.{due_past}
use Rattle.task_table.specs.declared.answers.Begun.{Begun}
use Rattle.task_table.specs.declared.answers.Ended.{Ended}
use Rattle.task_table.specs.declared.seat.Seat.{Seat}
use Rattle.task_table.specs.declared.seat.TaskRef.{TaskRef}
use Rattle.task_table.specs.Seats.{task_in, slot_of, waits, is_alive}
use Rattle.task_table.specs.Tables.{TableView}
use Rattle.task_table.specs.Ends.{is_swept, effect_of}
use Rattle.task_table.specs.Endings.{IsOverAt, SweepEnds, numbers_of}
use Rattle.task_table.specs.Runs.{IsLeft, Drops, Starts, Ends}
use Rattle.task_table.specs.Changes.{put, begun, ended, cancelled, cancel_by, emptied, grown, unkept, swept, after_sweep}
use Rattle.live_core.specs.Said.{tasks_in, alive_in}
use Rattle.live_core.specs.Shutting.{IsGone}
use Rattle.live_core.specs.own.Places.{IsEmptyAt}
use Rattle.live_core.specs.Empties.{held_numbers}
use Rattle.live_core.specs.own.Slots.{IsIndex}
use Rattle.live_core.specs.Lives.{AreAlive}
use Rattle.live_core.specs.own.Formed.{AreAliveBut}
use Rattle.live_core.specs.own.Shed.{released}
use Rattle.live_core.proofs.Held.{number_there}
use Rattle.live_core.proofs.Indexed.{one_slot}
use Rattle.live_core.proofs.Seated.{IsCancelled}

-- ---- a slot is written

-- what a slot holds then is what was written, or was there before
pub set_case : (slots : List (Option Seat)) (slot i : ℕ) (o : Option Seat) (x : Seat) → slot_of (slice_set slots slot o) i ≡ Some x → ((slot ≡ i) × (o ≡ Some x)) ⊎ ((slot ≡ i → ⊥) × (slot_of slots i ≡ Some x))
set_case [] slot i o x is = absurd (none-some x is)
set_case (p ∷ slots) zero zero o x is = inl (refl, is)
set_case (p ∷ slots) zero (suc i) o x is = inr ((λ e. omega (arith, e)), is)
set_case (p ∷ slots) (suc slot) zero o x is = inr ((λ e. omega (arith, e)), is)
set_case (p ∷ slots) (suc slot) (suc i) o x is = elim (set_case slots slot i o x is) [
  | inl here ↦ inl (ap suc here.0, here.1)
  | inr other ↦ inr ((λ e. other.0 (omega (arith, e))), other.1)
]

pub alive_put : (slots : List (Option Seat)) (slot : ℕ) (y : Seat) → is_alive (task_in y) ≡ true → AreAlive slots → AreAlive (slice_set slots slot (Some y))
alive_put slots slot y live alive i x is = elim (set_case slots slot i (Some y) x is) [
  | inl here ↦ subst (λ (z : Seat). is_alive (task_in z) ≡ true) (same_Some y x here.1) live
  | inr other ↦ alive i x other.1
]

-- whatever is written, all others are as they were
but_put : (slots : List (Option Seat)) (slot : ℕ) (o : Option Seat) → AreAlive slots → AreAliveBut slot (slice_set slots slot o)
but_put slots slot o alive i x is apart = elim (set_case slots slot i o x is) [
  | inl here ↦ absurd (apart here.0)
  | inr other ↦ alive i x other.1
]

-- the slot is emptied
alive_emptied : (slots : List (Option Seat)) (slot : ℕ) → AreAliveBut slot slots → AreAlive (slice_set slots slot None)
alive_emptied slots slot but i x is = elim (set_case slots slot i None x is) [
  | inl here ↦ absurd (none-some x here.1)
  | inr other ↦ but i x other.1 other.0
]

pub alive_released : (m new : TableView) (slot : ℕ) → new ≡ emptied m slot → AreAliveBut slot m.slots → AreAlive new.slots
alive_released m new slot is but = subst (λ (v : TableView). AreAlive v.slots) (sym is) (alive_emptied m.slots slot but)

-- or something may come of its task too
pub alive_all : (slots : List (Option Seat)) (slot : ℕ) (o : Option Seat) → slot_of slots slot ≡ o → ((x : Seat) → o ≡ Some x → is_alive (task_in x) ≡ true) → AreAliveBut slot slots → AreAlive slots
alive_all slots slot o there own but i x is = by (is_alive (task_in x)) refl
  where
    here : is_alive (task_in x) ≡ false → slot ≡ i → ⊥
    here dead e = false≢true (sym dead ∙ own x (sym there ∙ (ap (slot_of slots) e ∙ is)))

    by : (b : Bool) → is_alive (task_in x) ≡ b → is_alive (task_in x) ≡ true
    by true q = q
    by false q = but i x is (here q)

-- a task that is not over
pub spent_not : (y : Seat) → not (is_alive (task_in y)) ≡ false → (x : Seat) → Some y ≡ Some x → is_alive (task_in x) ≡ true
spent_not y left x same = subst (λ (z : Seat). is_alive (task_in z) ≡ true) (same_Some y x same) (by (is_alive (task_in y)) left)
  where
    by : (b : Bool) → not b ≡ false → b ≡ true
    by true q = refl
    by false q = sym q

-- ---- there are more slots

grown_slot : (slots : List (Option Seat)) (n i : ℕ) → slot_of (slots ++ replicate n None) i ≡ slot_of slots i
grown_slot [] zero i = refl
grown_slot [] (suc n) zero = refl
grown_slot [] (suc n) (suc i) = grown_slot [] n i
grown_slot (o ∷ slots) n zero = refl
grown_slot (o ∷ slots) n (suc i) = grown_slot slots n i

pub alive_grown : (m new : TableView) (slots : ℕ) → new ≡ grown m slots → AreAlive m.slots → AreAlive new.slots
alive_grown m new slots is alive i x there = alive i x (sym (grown_slot m.slots _ i) ∙ (sym (ap (λ (v : TableView). slot_of v.slots i) is) ∙ there))

-- ---- a kept task is dropped, and its slot is emptied

pub alive_dropped : (m mid new : TableView) (slot : ℕ) → Drops m mid slot → new ≡ emptied mid slot → AreAlive m.slots → AreAlive new.slots
alive_dropped m mid new slot d is alive =
    alive_released mid new slot is (subst (λ (v : TableView). AreAliveBut slot v.slots) (sym d.is) (but_put m.slots slot (Some (unkept d.task)) alive))

-- ---- a start, and a finish

pub alive_started : (m new : TableView) (worker : ℕ) (b : Option Begun) → Starts m new worker b → AreAlive m.slots → AreAlive new.slots
alive_started m new worker None s alive = subst (λ (v : TableView). AreAlive v.slots) (sym s.is) alive
alive_started m new worker (Some b) s alive =
    subst (λ (v : TableView). AreAlive v.slots) (sym s.is) (alive_put m.slots b.task.slot (begun s.task) (or_right (waits (task_in (begun s.task)) || s.task.kept) true refl) alive)

-- a task waits again, or its slot is emptied
alive_left : (outcome : Outcome) (old m : TableView) (slot : ℕ) (y : Seat) → m.slots ≡ slice_set old.slots slot (Some y) → IsLeft outcome y → AreAlive old.slots → AreAlive (released outcome m slot).slots
alive_left outcome old m slot y is left alive = by outcome left
  where
    gone : AreAlive (emptied m slot).slots
    gone = alive_emptied m.slots slot (subst (AreAliveBut slot) (sym is) (but_put old.slots slot (Some y) alive))

    by : (outcome : Outcome) → IsLeft outcome y → AreAlive (released outcome m slot).slots
    by (o.Done value) left = gone
    by (o.Failed code) left = gone
    by o.Dropped left = gone
    by o.Ended left = gone
    by (o.Again next) left = subst AreAlive (sym is) (alive_put old.slots slot y (or_left (waits (task_in y) || y.kept) _ (or_left (waits (task_in y)) y.kept left)) alive)

pub alive_finished : (old m new : TableView) (worker : ℕ) (ending : Ending) (e : Ended) → Ends old m worker ending e → new ≡ released e.outcome m e.task.slot → AreAlive old.slots → AreAlive new.slots
alive_finished old m new worker ending e s is alive =
    subst (λ (v : TableView). AreAlive v.slots) (sym is)
    (alive_left e.outcome old m e.task.slot (ended e.outcome (due_past s.task.timing s.task.due old.moment) s.task) (ap (λ (v : TableView). v.slots) s.is) s.left alive)

-- ---- a cancel of the task in a slot

pub alive_cancelled : (m mid : TableView) (slot : ℕ) (x : Seat) → IsCancelled m mid slot x → AreAlive m.slots → AreAliveBut slot mid.slots
alive_cancelled m mid slot x is alive = subst (AreAliveBut slot) (sym is.slots) (by (effect_of x))
  where
    by : (e : CancelEffect) → AreAliveBut slot (cancel_by e m slot x).slots
    by f.Yes = but_put m.slots slot (Some (cancelled m.policies.removes x)) alive
    by f.No = λ i y there apart. alive i y there
    by f.Absent = λ i y there apart. alive i y there

-- ---- a sweep, once the tasks that it ended have left their slots

-- what a slot holds is what became of what it held
swept_slot : (g : Seat → Seat) (slots : List (Option Seat)) (i : ℕ) (x : Seat) → slot_of (map (option_map g) slots) i ≡ Some x → (y : Seat) × (slot_of slots i ≡ Some y) × (g y ≡ x)
swept_slot g [] i x is = absurd (none-some x is)
swept_slot g (None ∷ slots) zero x is = absurd (none-some x is)
swept_slot g (Some y ∷ slots) zero x is = (y, refl, same_Some (g y) x is)
swept_slot g (o ∷ slots) (suc i) x is = swept_slot g slots i x is

-- a task whose number was ended has left its slot
ended_gone : (swept new : TableView) (ends : List TaskRef) (entries : List TaskRef) (count i : ℕ) (x : Seat) → IsIndex (held_numbers swept.slots) entries count → All (IsOverAt swept) ends → All (IsEmptyAt new) ends →
    slot_of swept.slots i ≡ Some x → is_end x.number (numbers_of ends) ≡ true → slot_of new.slots i ≡ None
ended_gone swept new [] entries count i x index over gone there q = absurd (false≢true q)
ended_gone swept new (r ∷ ends) entries count i x index over gone there q = elim (or_cases (r.number == x.number) (is_end x.number (numbers_of ends)) q) [
  | inl own ↦
      let first = All-head (IsOverAt swept) r ends over in
      let same : r.slot ≡ i =
      one_slot (held_numbers swept.slots) entries count r.slot i x.number index
      (number_there swept.slots r.slot first.task first.there ∙ ap Some (first.named ∙ eqb-true r.number x.number own)) (number_there swept.slots i x there)
      in
      sym (ap (slot_of new.slots) same) ∙ All-head (IsEmptyAt new) r ends gone
  | inr later ↦ ended_gone swept new ends entries count i x index (All-tail (IsOverAt swept) r ends over) (All-tail (IsEmptyAt new) r ends gone) there later
]

-- whatever is left in a slot was there
abbrev pub LeavesThere : TableView → TableView → Type 0
LeavesThere old new = (i : ℕ) (x : Seat) → slot_of new.slots i ≡ Some x → slot_of old.slots i ≡ Some x

pub leaves_released : (old m new : TableView) (slot : ℕ) → new ≡ emptied m slot → LeavesThere old m → LeavesThere old new
leaves_released old m new slot is before i x there = elim (set_case m.slots slot i None x (sym (ap (λ (v : TableView). slot_of v.slots i) is) ∙ there)) [
  | inl here ↦ absurd (none-some x here.1)
  | inr other ↦ before i x other.1
]

-- also after a slot whose task was written anew
pub leaves_dropped : (old m mid new : TableView) (slot : ℕ) (y : Seat) → mid ≡ put m slot y → new ≡ emptied mid slot → LeavesThere old m → LeavesThere old new
leaves_dropped old m mid new slot y put_there is before i x there = elim (set_case mid.slots slot i None x (sym (ap (λ (v : TableView). slot_of v.slots i) is) ∙ there)) [
  | inl here ↦ absurd (none-some x here.1)
  | inr other ↦ elim (set_case m.slots slot i (Some y) x (sym (ap (λ (v : TableView). slot_of v.slots i) put_there) ∙ other.1)) [
    | inl here ↦ absurd (other.0 here.0)
    | inr still ↦ before i x still.1
  ]
]

-- the tasks that a sweep ended stood in their slots before it
pub gone_from : (old m mid new : TableView) (ends : List TaskRef) → mid ≡ after_sweep m → LeavesThere old m → All (IsOverAt mid) ends → All (IsEmptyAt new) ends → All (IsGone old new) ends
gone_from old m mid new [] is leaves over empty = All-nil (IsGone old new)
gone_from old m mid new (r ∷ ends) is leaves over empty =
    let first = All-head (IsOverAt mid) r ends over in
    let before = swept_slot (λ y. swept m.stopped m.policies m.moment y) m.slots r.slot first.task (sym (ap (λ (v : TableView). slot_of v.slots r.slot) is) ∙ first.there) in
    All-cons (IsGone old new) r ends
    (record {
      seat = before.0;
      there = leaves r.slot before.0 before.1;
      named = ap (λ (z : Seat). z.number) before.2 ∙ first.named;
      empty = All-head (IsEmptyAt new) r ends empty;
    })
    (gone_from old m mid new ends is leaves (All-tail (IsOverAt mid) r ends over) (All-tail (IsEmptyAt new) r ends empty))

pub alive_swept : (m mid new : TableView) (ends : List TaskRef) (entries : List TaskRef) (count : ℕ) → IsIndex (held_numbers mid.slots) entries count → SweepEnds m mid ends → All (IsEmptyAt new) ends → LeavesThere mid new →
    AreAlive m.slots → AreAlive new.slots
alive_swept m mid new ends entries count index s gone leaves alive i x is =
    let there : slot_of mid.slots i ≡ Some x = leaves i x is in
    let before = swept_slot (λ y. swept m.stopped m.policies m.moment y) m.slots i x (sym (ap (λ (v : TableView). slot_of v.slots i) s.is) ∙ there) in
    by before.0 before.1 before.2 (is_swept m.stopped m.policies m.moment before.0) refl
  where
    over : (y : Seat) → slot_of m.slots i ≡ Some y → swept m.stopped m.policies m.moment y ≡ x → is_swept m.stopped m.policies m.moment y ≡ true → is_alive (task_in x) ≡ true
    over y was became q =
        let number : y.number ≡ x.number = ap (λ (z : Seat). z.number) became in
        absurd (none-some x (sym (ended_gone mid new ends entries count i x index s.over gone (leaves i x is) (ap (λ (k : ℕ). is_end k (numbers_of ends)) (sym number) ∙ s.ended.all i y was q)) ∙ is))

    by : (y : Seat) → slot_of m.slots i ≡ Some y → swept m.stopped m.policies m.moment y ≡ x → (b : Bool) → is_swept m.stopped m.policies m.moment y ≡ b → is_alive (task_in x) ≡ true
    by y was became true q = over y was became q
    by y was became false q =
        subst (λ (z : Seat). is_alive (task_in z) ≡ true) became
        (ap (λ b. is_alive (task_in (record y { cancelled = b || y.cancelled }))) q ∙ alive i y was)

-- ---- how many there are

pub alive_count : (slots : List (Option Seat)) → AreAlive slots → alive_in slots ≡ tasks_in slots
alive_count [] alive = refl
alive_count (None ∷ slots) alive = alive_count slots (λ i x is. alive (suc i) x is)
alive_count (Some x ∷ slots) alive =
    ap (λ b. cond b (1 + alive_in slots) (alive_in slots)) (alive 0 x refl) ∙ ap (λ (n : ℕ). 1 + n) (alive_count slots (λ i y is. alive (suc i) y is))
