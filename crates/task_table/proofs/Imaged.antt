-- The images of the tasks of a table, and that they are of no other table.
use Rattle.std.proofs.Common.{◌≡◌, ℕ, suc, ◌<◌, List, [], ◌∷◌, length, Option, Some, None, refl, sym, ap, ◌∙◌, arith}
use Rattle.std.specs.Prelude.{slice_index_or, slice_get, IfSome, IfNone}
use Rattle.std.proofs.lemmas.Option.{none-some, same_Some, slice_get_within}
use Rattle.executor_model.specs.declared.task.Stage.TheVariants as ph
use Rattle.task_table.specs.declared.seat.Seat.{Seat}
use Rattle.task_table.specs.declared.image.Frame.{Frame}
use Rattle.task_table.specs.declared.image.Image.{Image}
use Rattle.task_table.specs.Seats.{slot_of}
use Rattle.task_table.specs.Tables.{TableView}
use Rattle.task_table.specs.Formed.{IsFormed}
use Rattle.task_table.specs.Images.{Ascends, AreImages, IsWritten}
use Rattle.task_table.specs.own.Restoring.{IsPart}

-- ---- the worker of one

-- the worker that is found has the slot
pub runner_works : (work : List (Option ℕ)) (slot w : ℕ) (o : Option ℕ) → IfSome o (λ v. slice_index_or work v None ≡ Some slot) → o ≡ Some w → slice_index_or work w None ≡ Some slot
runner_works work slot w None has q = absurd (none-some w q)
runner_works work slot w (Some v) has q = ap (λ u. slice_index_or work u None) (sym (same_Some v w q)) ∙ has

-- and no other one has it
pub runner_alone : (m : TableView) (slot w : ℕ) (o : Option ℕ) → IsFormed m → IfSome o (λ v. slice_index_or m.work v None ≡ Some slot) → IfNone o ((v : ℕ) → slice_index_or m.work v None ≡ Some slot → ⊥) →
    slice_index_or m.work w None ≡ Some slot → o ≡ Some w
runner_alone m slot w None f has none q = absurd (none w q)
runner_alone m slot w (Some v) f has none q = ap Some (f.alone v w slot has q)

-- a task whose slot a worker has is run
pub runs_there : (m : TableView) (slot w : ℕ) (x : Seat) → IsFormed m → slot_of m.slots slot ≡ Some x → slice_index_or m.work w None ≡ Some slot → x.phase ≡ ph.Running
runs_there m slot w x f there q = let at = f.staffed w slot q in ap (λ (z : Seat). z.phase) (same_Some x at.0 (sym there ∙ at.1)) ∙ at.2

-- ---- all of the images

-- two images of one slot, of tasks that a table has there, are the same one
same_place : (m : TableView) (rs : List Image) (i j : ℕ) (x y : Image) → IsPart m rs (length rs) → Ascends rs → slice_get rs i ≡ Some x → slice_get rs j ≡ Some y → x.slot ≡ y.slot → x ≡ y
same_place m rs i j x y part up p q same =
    let seats = same_Some x.seat y.seat (sym (part.there i x (slice_get_within rs i x p) p) ∙ (ap (slot_of m.slots) same ∙ part.there j y (slice_get_within rs j y q) q)) in
    let number = ap (λ (z : Seat). z.number) seats in
    let one : i ≡ j = omega (arith, apart i j x y number p q, apart j i y x (sym number) q p) in
    same_Some x y (sym p ∙ (ap (slice_get rs) one ∙ q))
  where
    apart : (a b : ℕ) (u v : Image) → u.seat.number ≡ v.seat.number → slice_get rs a ≡ Some u → slice_get rs b ≡ Some v → a < b → ⊥
    apart a b u v e s t low = omega (arith, up a b u v low s t, e)

pub images_of_part : (m : TableView) (rs : List Image) → IsPart m rs (length rs) → Ascends rs → AreImages m rs
images_of_part m rs part up = record {
  ascending = up;
  each = λ j r q. record {
    there = part.there j r (slice_get_within rs j r q) q;
    works = λ w e. part.worked j w r (slice_get_within rs j r q) q e;
    alone = λ w e. (let h = part.work w r.slot e in ap (λ (z : Image). z.worker) (same_place m rs j h.0 r h.1 part up q h.3 (sym h.4)) ∙ h.5);
  };
  held = λ i x q. (let h = part.all i x q in (h.0, h.1, h.3, h.4));
  run = λ w i q. (let h = part.work w i q in (h.0, h.1, h.3, h.4));
}

pub part_of_images : (m : TableView) (rs : List Image) → AreImages m rs → IsPart m rs (length rs)
part_of_images m rs im = record {
  there = λ j r low q. (im.each j r q).there;
  all = λ i x q. (let h = im.held i x q in (h.0, h.1, slice_get_within rs h.0 h.1 h.2, h.2, h.3, same_Some h.1.seat x (sym (im.each h.0 h.1 h.2).there ∙ (ap (slot_of m.slots) h.3 ∙ q))));
  worked = λ j w r low q e. (im.each j r q).works w e;
  work = λ w i q. (let h = im.run w i q in (h.0, h.1, slice_get_within rs h.0 h.1 h.2, h.2, h.3, (im.each h.0 h.1 h.2).alone w (q ∙ ap Some (sym h.3))));
}

-- ---- of one table alone

-- two options that agree where either has a value
alike : {X : Type 0} (o p : Option X) → ((x : X) → o ≡ Some x → p ≡ Some x) → ((x : X) → p ≡ Some x → o ≡ Some x) → o ≡ p
alike None None there back = refl
alike (Some x) p there back = sym (there x refl)
alike None (Some y) there back = back y refl

slots_half : (m n : TableView) (rs : List Image) → AreImages m rs → AreImages n rs → (i : ℕ) (x : Seat) → slot_of m.slots i ≡ Some x → slot_of n.slots i ≡ Some x
slots_half m n rs a b i x q =
    let h = a.held i x q in
    ap (slot_of n.slots) (sym h.3) ∙ ((b.each h.0 h.1 h.2).there ∙ (sym (a.each h.0 h.1 h.2).there ∙ (ap (slot_of m.slots) h.3 ∙ q)))

work_half : (m n : TableView) (rs : List Image) → AreImages m rs → AreImages n rs → (w i : ℕ) → slice_index_or m.work w None ≡ Some i → slice_index_or n.work w None ≡ Some i
work_half m n rs a b w i q =
    let h = a.run w i q in
    (b.each h.0 h.1 h.2).works w ((a.each h.0 h.1 h.2).alone w (q ∙ ap Some (sym h.3))) ∙ ap Some h.3

-- two lists with the same at each place
same_list : {X : Type 0} (d : X) (xs ys : List X) → length xs ≡ length ys → ((i : ℕ) → slice_index_or xs i d ≡ slice_index_or ys i d) → xs ≡ ys
same_list d [] [] size same = refl
same_list d [] (y ∷ ys) size same = absurd (omega (arith, size))
same_list d (x ∷ xs) [] size same = absurd (omega (arith, size))
same_list d (x ∷ xs) (y ∷ ys) size same = ap (λ z. z ∷ xs) (same 0) ∙ ap (λ zs. y ∷ zs) (same_list d xs ys (omega (arith, size)) (λ i. same (suc i)))

same_table : (m n : TableView) → m.moment ≡ n.moment → m.slots ≡ n.slots → m.work ≡ n.work → m.policies ≡ n.policies → m.shut ≡ n.shut → m.stopped ≡ n.stopped → m ≡ n
same_table m n moment slots work policies shut stopped = λ i. record { moment = moment i; slots = slots i; work = work i; policies = policies i; shut = shut i; stopped = stopped i }

pub one_table : (m n : TableView) (f : Frame) (rs : List Image) → IsWritten m f rs → IsWritten n f rs → m ≡ n
one_table m n f rs a b = same_table m n
    (a.frame.moment ∙ sym b.frame.moment)
    (same_list None m.slots n.slots (a.frame.slots ∙ sym b.frame.slots)
    (λ i. alike (slot_of m.slots i) (slot_of n.slots i) (slots_half m n rs a.images b.images i) (slots_half n m rs b.images a.images i)))
    (same_list None m.work n.work (a.frame.workers ∙ sym b.frame.workers)
    (λ w. alike (slice_index_or m.work w None) (slice_index_or n.work w None) (work_half m n rs a.images b.images w) (work_half n m rs b.images a.images w)))
    (a.frame.policies ∙ sym b.frame.policies) (a.frame.shut ∙ sym b.frame.shut) (a.frame.stopped ∙ sym b.frame.stopped)
