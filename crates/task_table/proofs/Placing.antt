-- A task that is written comes into its slot: the table stays well formed, and holds one task more of those that are written.
use Rattle.std.proofs.Common.{◌≡◌, ℕ, ◌+◌, ◌^◌, ◌<◌, ◌==◌, Bool, true, false, cond, inl, inr, ◌⊎◌, List, [], ◌-◌, replicate, length, Option, Some, None, refl, sym, ap, ◌∙◌, arith, subst}
use Rattle.std.specs.Prelude.{slice_index_or, slice_get, nat_lt}
use Rattle.std.proofs.Math.ListN.{set}
use Rattle.std.proofs.lemmas.Bool.{eqb-true, eqb-false, eq-eqb, lt-ltb}
use Rattle.std.proofs.lemmas.Option.{none-some, same_Some}
use Rattle.std.proofs.lemmas.List.{length-set, length-append, length-replicate}
use Rattle.executor_model.specs.declared.task.Stage.{Stage}
use Rattle.executor_model.specs.declared.task.Stage.TheVariants as ph
use Rattle.executor_model.proofs.Tables.{at_set}
use Rattle.task_table.specs.declared.seat.Seat.{Seat}
use Rattle.task_table.specs.declared.image.Image.{Image}
use Rattle.task_table.specs.Seats.{slot_of, IsNew}
use Rattle.task_table.specs.Tables.{TableView, workers_of, WorkIs, Stands}
use Rattle.task_table.specs.Changes.{grown}
use Rattle.task_table.specs.declared.image.Frame.{Frame}
use Rattle.task_table.specs.Orders.{with_key}
use Rattle.task_table.specs.Formed.{IsSeated, IsFormed}
use Rattle.task_table.specs.own.Queues.{IsTable, queued_key, kept_key}
use Rattle.task_table.specs.Images.{HasFrame, Ascends}
use Rattle.task_table.specs.own.Restoring.{KeepsFrame, IsPart, MayWork, Fits, staffed, placed}
use Rattle.task_table.proofs.Written.{by_eqb, apart_eqb, Writes, set_writes, read_slot, slot_within}
use Rattle.task_table.proofs.Formed.{apart_new, at_grown}
use Rattle.task_table.proofs.FormedWork.{option_within}
use Rattle.task_table.proofs.Queued.{queues_write}
use Rattle.task_table.proofs.Tabled.{queues_as, tabled_put}

-- ---- the work

staffed_length : (work : List (Option ℕ)) (worker : Option ℕ) (slot : ℕ) → length (staffed work worker slot) ≡ length work
staffed_length work None slot = refl
staffed_length work (Some w) slot = length-set work w (Some slot)

-- who has work then has this slot, or had it before
read_work : (work : List (Option ℕ)) (worker : Option ℕ) (phase : Stage) (slot w i : ℕ) → MayWork work worker phase → slice_index_or (staffed work worker slot) w None ≡ Some i →
    ((worker ≡ Some w) × (slot ≡ i) × (phase ≡ ph.Running)) ⊎ (slice_index_or work w None ≡ Some i)
read_work work None phase slot w i free q = inr q
read_work work (Some v) phase slot w i free q = by (v == w) refl (sym (at_set work v w (Some slot) None free.0) ∙ q)
  where
    by : (b : Bool) → (v == w) ≡ b → cond b (Some slot) (slice_index_or work w None) ≡ Some i → ((Some v ≡ Some w) × (slot ≡ i) × (phase ≡ ph.Running)) ⊎ (slice_index_or work w None ≡ Some i)
    by true same q = inl (ap Some (eqb-true v w same), same_Some slot i q, free.2)
    by false apart q = inr q

-- who had work still has it
work_stays : (work : List (Option ℕ)) (worker : Option ℕ) (phase : Stage) (slot w i : ℕ) → MayWork work worker phase → slice_index_or work w None ≡ Some i → slice_index_or (staffed work worker slot) w None ≡ Some i
work_stays work None phase slot w i free q = q
work_stays work (Some v) phase slot w i free q =
    at_set work v w (Some slot) None free.0 ∙ (ap (λ b. cond b (Some slot) (slice_index_or work w None)) (apart_eqb v w (λ e. none-some i (sym free.1 ∙ (ap (λ u. slice_index_or work u None) e ∙ q)))) ∙ q)

-- the one that is named has it
work_here : (work : List (Option ℕ)) (worker : Option ℕ) (phase : Stage) (slot w : ℕ) → MayWork work worker phase → worker ≡ Some w → slice_index_or (staffed work worker slot) w None ≡ Some slot
work_here work None phase slot w free q = absurd (none-some w q)
work_here work (Some v) phase slot w free q = at_set work v w (Some slot) None free.0 ∙ ap (λ b. cond b (Some slot) (slice_index_or work w None)) (eq-eqb v w (same_Some v w q))

-- ---- the table

-- no worker has an empty slot
none_there : (m : TableView) (slot w : ℕ) → IsFormed m → slot_of m.slots slot ≡ None → slice_index_or m.work w None ≡ Some slot → ⊥
none_there m slot w f empty q = let at = f.staffed w slot q in none-some at.0 (sym empty ∙ at.1)

pub formed_placed : (m : TableView) (r : Image) → IsFormed m → IsNew m.slots r.seat.number → Fits m r → IsFormed (placed m r)
formed_placed m r f fresh fits =
    let writes = set_writes m.slots r.slot r.seat fits.low in
    let wide = staffed_length m.work r.worker r.slot in
    record {
      moment = f.moment;
      some = omega (arith, f.some, wide);
      few = omega (arith, f.few, wide);
      slots = omega (arith, f.slots, length-set m.slots r.slot (Some r.seat));
      seated = λ i x q. elim (read_slot m.slots _ r.slot i r.seat x writes q) [ inl own ↦ subst (IsSeated m.moment) own.1 fits.seated | inr left ↦ f.seated i x left.1 ];
      apart = apart_new m.slots _ r.slot r.seat fresh writes f.apart;
      staffed = λ w i q. elim (read_work m.work r.worker r.seat.phase r.slot w i fits.free q) [
        | inl own ↦ (r.seat, ap (slot_of (set m.slots r.slot (Some r.seat))) (sym own.1) ∙ writes.here, own.2)
        | inr old ↦ still w i old
      ];
      alone = λ v w i p q. elim (read_work m.work r.worker r.seat.phase r.slot v i fits.free p) [
        | inl own ↦ elim (read_work m.work r.worker r.seat.phase r.slot w i fits.free q) [
          | inl also ↦ same_Some v w (sym own.0 ∙ also.0)
          | inr old ↦ absurd (none_there m r.slot w f fits.empty (old ∙ ap Some (sym own.1)))
        ]
        | inr old ↦ elim (read_work m.work r.worker r.seat.phase r.slot w i fits.free q) [
          | inl own ↦ absurd (none_there m r.slot v f fits.empty (old ∙ ap Some (sym own.1)))
          | inr also ↦ f.alone v w i old also
        ]
      ];
    }
  where
    still : (w i : ℕ) → slice_index_or m.work w None ≡ Some i → (x : Seat) × (slot_of (set m.slots r.slot (Some r.seat)) i ≡ Some x) × (x.phase ≡ ph.Running)
    still w i old =
        let at = f.staffed w i old in
        by_eqb r.slot i
        (λ here. absurd (none_there m r.slot w f fits.empty (old ∙ ap Some (sym here))))
        (λ other. (at.0, (set_writes m.slots r.slot r.seat fits.low).other i other ∙ at.1, at.2))

pub tabled_placed : {a : ℕ → ℕ → Bool} {may : ℕ → Bool} {room spare : ℕ} (m : TableView) (r : Image) (entries kept after held : ℕ → Option (ℕ × ℕ)) → IsTable a may m entries kept room spare → IsNew m.slots r.seat.number → Fits m r →
    a r.slot r.seat.number ≡ true → (r.seat.phase ≡ ph.Running → may r.seat.run ≡ true) →
    ((i : ℕ) → with_key entries r.slot (queued_key (Some r.seat)) i ≡ after i) → ((i : ℕ) → with_key kept r.slot (kept_key (Some r.seat)) i ≡ held i) → IsTable a may (placed m r) after held room spare
tabled_placed m r entries kept after held t fresh fits fit run is also =
    let n = placed m r in
    tabled_put m n r.slot r.seat entries kept after held t (formed_placed m r t.formed fresh fits) refl fits.low fit run
    (queues_as n (with_key entries r.slot (queued_key (Some r.seat))) (with_key kept r.slot (kept_key (Some r.seat))) after held (queues_write m n r.slot (Some r.seat) entries kept fits.low refl t.queues) is also)

-- the run of a task that comes may be under way
pub may_run : (m : TableView) (r : Image) → Fits m r → r.seat.phase ≡ ph.Running → nat_lt (r.seat.run + 1) (2 ^ 64) ≡ true
may_run m r fits runs = lt-ltb (r.seat.run + 1) (2 ^ 64) (fits.seated.room runs)

-- ---- the images

one_image : (rs : List Image) (j : ℕ) (x y : Image) → slice_get rs j ≡ Some x → slice_get rs j ≡ Some y → x ≡ y
one_image rs j x y p q = same_Some x y (sym p ∙ q)

-- the next task is new
pub next_new : (m : TableView) (rs : List Image) (i : ℕ) (r : Image) → IsPart m rs i → Ascends rs → slice_get rs i ≡ Some r → IsNew m.slots r.seat.number
next_new m rs i r part up is k x q same = let h = part.all k x q in omega (arith, up h.0 i h.1 r h.2 h.3 is, ap (λ (z : Seat). z.number) h.5, same)

-- one task more is in its slot
pub part_more : (m : TableView) (rs : List Image) (i : ℕ) (r : Image) → IsPart m rs i → slice_get rs i ≡ Some r → Fits m r → IsPart (placed m r) rs (i + 1)
part_more m rs i r part is fits = record {
  there = λ j x low q. by_eqb i j (λ here. there_here j x here q) (λ other. there_left j x (omega (arith, low, apart i j other)) q);
  all = λ k x q. elim (read_slot m.slots _ r.slot k r.seat x writes q) [
    | inl own ↦ (i, r, omega arith, is, own.0, own.1)
    | inr left ↦ (let h = part.all k x left.1 in (h.0, h.1, omega (arith, h.2), h.3, h.4, h.5))
  ];
  worked = λ j w x low q e. by_eqb i j (λ here. worked_here j w x here q e) (λ other. work_stays m.work r.worker r.seat.phase r.slot w x.slot fits.free (part.worked j w x (omega (arith, low, apart i j other)) q e));
  work = λ w k q. elim (read_work m.work r.worker r.seat.phase r.slot w k fits.free q) [
    | inl own ↦ (i, r, omega arith, is, own.1, own.0)
    | inr old ↦ (let h = part.work w k old in (h.0, h.1, omega (arith, h.2), h.3, h.4, h.5))
  ];
}
  where
    writes : Writes m.slots (set m.slots r.slot (Some r.seat)) r.slot r.seat
    writes = set_writes m.slots r.slot r.seat fits.low

    apart : (i j : ℕ) → (i == j) ≡ false → i ≡ j → ⊥
    apart i j other e = eqb-false i j other e

    there_here : (j : ℕ) (x : Image) → i ≡ j → slice_get rs j ≡ Some x → slot_of (set m.slots r.slot (Some r.seat)) x.slot ≡ Some x.seat
    there_here j x here q = subst (λ (y : Image). slot_of (set m.slots r.slot (Some r.seat)) y.slot ≡ Some y.seat) (one_image rs i r x is (ap (slice_get rs) here ∙ q)) writes.here

    there_left : (j : ℕ) (x : Image) → j < i → slice_get rs j ≡ Some x → slot_of (set m.slots r.slot (Some r.seat)) x.slot ≡ Some x.seat
    there_left j x low q =
        let at = part.there j x low q in
        writes.other x.slot (apart_eqb r.slot x.slot (λ e. none-some x.seat (sym fits.empty ∙ (ap (slot_of m.slots) e ∙ at)))) ∙ at

    worked_here : (j w : ℕ) (x : Image) → i ≡ j → slice_get rs j ≡ Some x → x.worker ≡ Some w → slice_index_or (staffed m.work r.worker r.slot) w None ≡ Some x.slot
    worked_here j w x here q e =
        let same = one_image rs i r x is (ap (slice_get rs) here ∙ q) in
        work_here m.work r.worker r.seat.phase r.slot w fits.free (ap (λ (y : Image). y.worker) same ∙ e) ∙ ap (λ (y : Image). Some y.slot) same

-- ---- what no table has written

-- two images of one slot are the same one
one_slot : (m : TableView) (rs : List Image) (i j : ℕ) (x y : Image) → IsPart m rs (length rs) → Ascends rs → i < j → i < length rs → j < length rs → slice_get rs i ≡ Some x → slice_get rs j ≡ Some y → x.slot ≡ y.slot → ⊥
one_slot m rs i j x y im up low a b p q same =
    let seats = same_Some x.seat y.seat (sym (im.there i x a p) ∙ (ap (slot_of m.slots) same ∙ im.there j y b q)) in
    omega (arith, up i j x y low p q, ap (λ (z : Seat). z.number) seats)

-- where the next task does not fit, no table has written so
pub none_wrote : (t : TableView) (rs : List Image) (i : ℕ) (r : Image) → IsPart t rs i → Ascends rs → i < length rs → slice_get rs i ≡ Some r → (Fits t r → ⊥) →
    (m : TableView) → IsFormed m → KeepsFrame t m → IsPart m rs (length rs) → ⊥
none_wrote t rs i r part up low is unfit m f keeps im = unfit (record {
  low = omega (arith, slot_within m.slots r.slot r.seat there, keeps.slots);
  empty = empty (slot_of t.slots r.slot) refl;
  seated = subst (λ at. IsSeated at r.seat) keeps.moment (f.seated r.slot r.seat there);
  free = free r.worker refl;
})
  where
    there : slot_of m.slots r.slot ≡ Some r.seat
    there = im.there i r low is

    empty : (o : Option Seat) → slot_of t.slots r.slot ≡ o → o ≡ None
    empty None q = refl
    empty (Some x) q = let h = part.all r.slot x q in absurd (one_slot m rs h.0 i h.1 r im up h.2 (omega (arith, h.2, low)) low h.3 is h.4)

    idle : (w : ℕ) (o : Option ℕ) → r.worker ≡ Some w → slice_index_or t.work w None ≡ o → o ≡ None
    idle w None e q = refl
    idle w (Some k) e q =
        let h = part.work w k q in
        let also = im.worked h.0 w h.1 (omega (arith, h.2, low)) h.3 h.5 in
        absurd (one_slot m rs h.0 i h.1 r im up h.2 (omega (arith, h.2, low)) low h.3 is (same_Some h.1.slot r.slot (sym also ∙ im.worked i w r low is e)))

    free : (o : Option ℕ) → r.worker ≡ o → MayWork t.work o r.seat.phase
    free None e = tt
    free (Some w) e =
        let busy = im.worked i w r low is e in
        let at = f.staffed w r.slot busy in
        (omega (arith, option_within m.work w r.slot busy, keeps.workers), ap (λ o. o) (idle w (slice_index_or t.work w None) e refl), ap (λ (z : Seat). z.phase) (same_Some r.seat at.0 (sym there ∙ at.1)) ∙ at.2)

-- ---- before a task is in its slot

-- no worker has work in a table of no slots
blank_work : (t : TableView) → t.slots ≡ [] → Stands t [] [] → (w : ℕ) → slice_index_or t.work w None ≡ None
blank_work t none stands w = by (slice_index_or t.work w None) (stands.shows.work w)
  where
    by : (o : Option ℕ) → WorkIs t.slots o None → o ≡ None
    by None q = refl
    by (Some slot) q = absurd (none-some q.0 (sym (ap (λ (s : List (Option Seat)). slot_of s slot) none) ∙ q.1))

-- of a table that is made, and has more slots since, nothing is written
pub blank_part : (t : TableView) (n at : ℕ) (f : Frame) → t.slots ≡ [] → Stands t [] [] → workers_of t ≡ f.workers → n ≡ f.slots → at ≡ f.moment →
    let m : TableView = record (grown t n) { moment = at; policies = f.policies; shut = f.shut; stopped = f.stopped } in HasFrame m f × IsPart m [] 0
blank_part t n at f none stands workers slots moment = (
  record {
    moment = moment;
    workers = workers;
    slots = omega (arith, slots, ap length none, length-append t.slots (replicate (n - length t.slots) None), length-replicate (n - length t.slots) none_seat);
    policies = refl;
    shut = refl;
    stopped = refl;
  },
  record {
    there = λ j r low q. absurd (omega (arith, low));
    all = λ i x q. absurd (none-some x (sym (at_grown t.slots (n - length t.slots) i ∙ ap (λ (s : List (Option Seat)). slot_of s i) none) ∙ q));
    worked = λ j w r low q e. absurd (omega (arith, low));
    work = λ w i q. absurd (none-some i (sym (blank_work t none stands w) ∙ q));
  },
)
  where
    none_seat : Option Seat
    none_seat = None

-- of none of the images is anything in its slot yet
pub part_none : (m : TableView) (rs : List Image) → IsPart m [] 0 → IsPart m rs 0
part_none m rs part = record {
  there = λ j r low q. absurd (omega (arith, low));
  all = λ i x q. (let h = part.all i x q in absurd (omega (arith, h.2)));
  worked = λ j w r low q e. absurd (omega (arith, low));
  work = λ w i q. (let h = part.work w i q in absurd (omega (arith, h.2)));
}

-- ---- what stands beside the tasks

pub keeps_placed : (old m n : TableView) (r : Image) → KeepsFrame old m → n ≡ placed m r → KeepsFrame old n
keeps_placed old m n r k is = subst (KeepsFrame old) (sym is) (record {
  moment = k.moment;
  workers = staffed_length m.work r.worker r.slot ∙ k.workers;
  slots = length-set m.slots r.slot (Some r.seat) ∙ k.slots;
  policies = k.policies;
  shut = k.shut;
  stopped = k.stopped;
})

pub keeps_both : (old m n : TableView) → KeepsFrame old m → KeepsFrame old n → KeepsFrame m n
keeps_both old m n k l = record {
  moment = l.moment ∙ sym k.moment;
  workers = l.workers ∙ sym k.workers;
  slots = l.slots ∙ sym k.slots;
  policies = l.policies ∙ sym k.policies;
  shut = l.shut ∙ sym k.shut;
  stopped = l.stopped ∙ sym k.stopped;
}

pub frame_both : (m n : TableView) (f : Frame) → HasFrame m f → HasFrame n f → KeepsFrame m n
frame_both m n f a b = record {
  moment = b.moment ∙ sym a.moment;
  workers = b.workers ∙ sym a.workers;
  slots = b.slots ∙ sym a.slots;
  policies = b.policies ∙ sym a.policies;
  shut = b.shut ∙ sym a.shut;
  stopped = b.stopped ∙ sym a.stopped;
}

pub frame_kept : (m n : TableView) (f : Frame) → HasFrame m f → KeepsFrame m n → HasFrame n f
frame_kept m n f a k = record {
  moment = k.moment ∙ a.moment;
  workers = k.workers ∙ a.workers;
  slots = k.slots ∙ a.slots;
  policies = k.policies ∙ a.policies;
  shut = k.shut ∙ a.shut;
  stopped = k.stopped ∙ a.stopped;
}
