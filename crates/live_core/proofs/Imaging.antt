-- What is written of the tasks in slots, one entry of the index after the other.
use Rattle.std.proofs.Common.{◌≡◌, ℕ, zero, suc, ◌+◌, ◌≤◌, ◌==◌, false, inl, inr, ◌⊎◌, List, [], ◌∷◌, ◌++◌, length, Some, refl, sym, ap, ◌∙◌, arith, subst}
use Rattle.std.specs.Prelude.{slice_get}
use Rattle.std.proofs.lemmas.Option.{none-some, same_Some, slice_get_within}
use Rattle.std.proofs.lemmas.Bool.{eqb-false}
use Rattle.task_table.specs.declared.seat.Seat.{Seat}
use Rattle.task_table.specs.declared.seat.TaskRef.{TaskRef}
use Rattle.task_table.specs.declared.image.Image.{Image}
use Rattle.task_table.specs.Formed.{IsFormed}
use Rattle.task_table.specs.Images.{IsImageIn, HasImageOf, AreImages}
use Rattle.task_table.specs.Seats.{slot_of}
use Rattle.task_table.specs.Tables.{TableView}
use Rattle.task_table.proofs.Written.{by_eqb}
use Rattle.live_core.specs.Empties.{held_numbers}
use Rattle.live_core.specs.own.Restoring.{AreWritten}
use Rattle.live_core.specs.own.Slots.{Ascends, IsIndex}
use Rattle.live_core.proofs.Held.{number_there}

-- ---- a list with one more at its end

read_push : {X : Type 0} (xs : List X) (x y : X) (i : ℕ) → slice_get (xs ++ x ∷ []) i ≡ Some y → (slice_get xs i ≡ Some y) ⊎ ((i ≡ length xs) × (x ≡ y))
read_push [] x y zero q = inr (refl, same_Some x y q)
read_push [] x y (suc i) q = absurd (none-some y q)
read_push (z ∷ xs) x y zero q = inl q
read_push (z ∷ xs) x y (suc i) q = elim (read_push xs x y i q) [ inl old ↦ inl old | inr here ↦ inr (ap suc here.0, here.1) ]

push_old : {X : Type 0} (xs : List X) (x y : X) (i : ℕ) → slice_get xs i ≡ Some y → slice_get (xs ++ x ∷ []) i ≡ Some y
push_old [] x y i q = absurd (none-some y q)
push_old (z ∷ xs) x y zero q = q
push_old (z ∷ xs) x y (suc i) q = push_old xs x y i q

push_here : {X : Type 0} (xs : List X) (x : X) → slice_get (xs ++ x ∷ []) (length xs) ≡ Some x
push_here [] x = refl
push_here (z ∷ xs) x = push_here xs x

apart : (i k : ℕ) → (i == k) ≡ false → i ≡ k → ⊥
apart i k other same = eqb-false i k other same

-- ---- one entry more

pub written_nothing : (m : TableView) (es : List TaskRef) → AreWritten m es 0 []
written_nothing m es = record {
  ascending = λ a b x y less p q. absurd (none-some x p);
  low = λ j k r e q. absurd (none-some r q);
  each = λ j r q. absurd (none-some r q);
  all = λ k e x less. absurd (omega (arith, less));
}

-- its slot holds another task, or none
pub written_none : (m : TableView) (es : List TaskRef) (i : ℕ) (rs : List Image) (e : TaskRef) → AreWritten m es i rs → slice_get es i ≡ Some e → ((x : Seat) → slot_of m.slots e.slot ≡ Some x → x.number ≡ e.number → ⊥) → AreWritten m es (i + 1) rs
written_none m es i rs e w is none = record {
  ascending = w.ascending;
  low = λ j k r f q high g. w.low j k r f q (omega (arith, high)) g;
  each = w.each;
  all = λ k f x less g at same. by_eqb i k
      (λ here. (let one = same_Some e f (sym is ∙ (ap (slice_get es) here ∙ g)) in absurd (none x (ap (λ (t : TaskRef). slot_of m.slots t.slot) one ∙ at) (same ∙ sym (ap (λ (t : TaskRef). t.number) one)))))
      (λ other. w.all k f x (omega (arith, less, apart i k other)) g at same);
}

-- its slot holds it
pub written_more : (m : TableView) (es : List TaskRef) (i : ℕ) (rs : List Image) (e : TaskRef) (r : Image) → Ascends es → AreWritten m es i rs → slice_get es i ≡ Some e → r.slot ≡ e.slot → r.seat.number ≡ e.number → IsImageIn m r → AreWritten m es (i + 1) (rs ++ r ∷ [])
written_more m es i rs e r rises w is slot number im = record {
  ascending = λ a b x y less p q. elim (read_push rs r y b q) [
    | inl old ↦ elim (read_push rs r x a p) [
      | inl also ↦ w.ascending a b x y less also old
      | inr last ↦ absurd (omega (arith, less, last.0, slice_get_within rs b y old))
    ]
    | inr here ↦ elim (read_push rs r x a p) [
      | inl old ↦ omega (arith, w.low a i x e old (omega arith) is, number, ap (λ (z : Image). z.seat.number) here.1)
      | inr last ↦ absurd (omega (arith, less, here.0, last.0))
    ]
  ];
  low = λ j k x f q high g. elim (read_push rs r x j q) [
    | inl old ↦ w.low j k x f old (omega (arith, high)) g
    | inr here ↦ omega (arith, rises i k e f (omega (arith, high)) is g, number, ap (λ (z : Image). z.seat.number) here.1)
  ];
  each = λ j x q. elim (read_push rs r x j q) [ inl old ↦ w.each j x old | inr here ↦ subst (IsImageIn m) here.1 im ];
  all = λ k f x less g at same. by_eqb i k
      (λ here. (length rs, r, push_here rs r, slot ∙ ap (λ (t : TaskRef). t.slot) (same_Some e f (sym is ∙ (ap (slice_get es) here ∙ g)))))
      (λ other. (let h = w.all k f x (omega (arith, less, apart i k other)) g at same in (h.0, h.1, push_old rs r h.1 h.0 h.2, h.3)));
}

-- ---- all of them

pub written_all : (m : TableView) (es : List TaskRef) (count i : ℕ) (rs : List Image) → IsFormed m → IsIndex (held_numbers m.slots) es count → length es ≤ i → AreWritten m es i rs → AreImages m rs
written_all m es count i rs f index whole w = record {
  ascending = w.ascending;
  each = w.each;
  held = held;
  run = λ v slot q. (let at = f.staffed v slot q in held slot at.0 at.1);
}
  where
    held : (slot : ℕ) (x : Seat) → slot_of m.slots slot ≡ Some x → HasImageOf rs slot
    held slot x q =
        let n = index.each slot x.number (number_there m.slots slot x q) in
        let e : TaskRef = record { number = x.number; slot = slot } in
        w.all n.0 e x (omega (arith, whole, slice_get_within es n.0 e n.1)) n.1 q refl
