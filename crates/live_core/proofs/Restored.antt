-- An executor that is made of what is written of one.
use Rattle.std.proofs.Common.{◌≡◌, ℕ, zero, suc, ◌+◌, ◌^◌, ◌<◌, ◌≤◌, ◌==◌, ◌||◌, ◌&&◌, Bool, true, false, cond, List, [], ◌∷◌, ◌++◌, length, take, Option, Some, None, refl, sym, ap, ◌∙◌, arith, subst, add-one}
use Rattle.std.specs.Prelude.{slice_get, slice_index_or, replicate, is_some, nat_lt}
use Rattle.std.specs.Option.{option_map}
use Rattle.std.proofs.Math.ListN.{set}
use Rattle.std.proofs.lemmas.Bool.{false≢true, eqb-true, eqb-false, eq-eqb, ltb-true, lt-ltb, and_parts}
use Rattle.std.proofs.lemmas.Option.{none-some, same_Some}
use Rattle.sched_time.specs.Times.{longest}
use Rattle.queue_code.specs.Calls.{how_many}
use Rattle.executor_model.proofs.Tables.{at_set}
use Rattle.task_table.specs.declared.seat.Seat.{Seat}
use Rattle.task_table.specs.declared.seat.TaskRef.{TaskRef}
use Rattle.task_table.specs.declared.image.Image.{Image}
use Rattle.task_table.specs.Images as tables
use Rattle.task_table.specs.Images.{Ascends, HasImageOf, AreImages}
use Rattle.task_table.specs.Seats.{task_in, slot_of, is_alive}
use Rattle.task_table.specs.Tables.{TableView}
use Rattle.task_table.proofs.Imaged.{one_table}
use Rattle.task_table.proofs.Written.{by_eqb, apart_eqb}
use Rattle.live_core.specs.declared.frame.ExecutorFrame.{ExecutorFrame}
use Rattle.live_core.specs.Empties.{held_numbers, number_in, is_among, AreOnce, AreEmpty}
use Rattle.live_core.specs.Lives.{LiveView, AreAlive}
use Rattle.live_core.specs.Snapshots.{HasFrame, IsWritten, IsSound}
use Rattle.live_core.specs.own.Formed.{IsLive}
use Rattle.live_core.specs.own.Restoring.{IsSoundFrame, refs_of, is_live, are_live, AreOnceEmpty, AreMarked}
use Rattle.live_core.specs.own.Slots.{IsBelow, HasEntry, IsIndex}
use Rattle.live_core.proofs.Emptied.{among_more, or_parts, once_more, number_within, number_stays, number_here, count_emptied}
use Rattle.live_core.proofs.Held.{number_at, number_there, held_length}

-- ---- as many images as tasks

-- what stands in a slot whose number is known
some_there : (slots : List (Option Seat)) (slot number : ℕ) → number_in (held_numbers slots) slot ≡ Some number → (x : Seat) × (slot_of slots slot ≡ Some x) × (x.number ≡ number)
some_there [] slot number q = absurd (none-some number q)
some_there (None ∷ slots) zero number q = absurd (none-some number q)
some_there (Some x ∷ slots) zero number q = (x, refl, same_Some x.number number q)
some_there (o ∷ slots) (suc slot) number q = some_there slots slot number q

-- an empty slot has no number
pub number_none : (slots : List (Option Seat)) (slot : ℕ) → slot_of slots slot ≡ None → number_in (held_numbers slots) slot ≡ None
number_none slots slot q = number_at slots slot ∙ ap (option_map (λ (x : Seat). x.number)) q

-- each of some slots holds a number, each once, and no other slot holds one
record Covers (held : List (Option ℕ)) (rs : List Image) : Type 0 where
  there : (j : ℕ) (r : Image) → slice_get rs j ≡ Some r → number_in held r.slot ≡ Some r.seat.number
  apart : (i j : ℕ) (x y : Image) → slice_get rs i ≡ Some x → slice_get rs j ≡ Some y → x.slot ≡ y.slot → i ≡ j
  all : (slot number : ℕ) → number_in held slot ≡ Some number → HasImageOf rs slot

none_counted : (held : List (Option ℕ)) → ((slot number : ℕ) → number_in held slot ≡ Some number → ⊥) → 0 ≡ how_many is_some held
none_counted [] none = refl
none_counted (None ∷ held) none = none_counted held (λ slot number q. none (suc slot) number q)
none_counted (Some k ∷ held) none = absurd (none 0 k refl)

covered : (held : List (Option ℕ)) (rs : List Image) → Covers held rs → length rs ≡ how_many is_some held
covered held [] c = none_counted held (λ slot number q. (let h = c.all slot number q in none-some h.1 h.2))
covered held (r ∷ rs) c =
    let own = c.there 0 r refl in
    let low = number_within held r.slot r.seat.number own in
    let other : (x : Image) (j : ℕ) → slice_get rs j ≡ Some x → (r.slot == x.slot) ≡ false = λ x j q. apart_eqb r.slot x.slot (λ e. (let zero_suc = c.apart 0 (suc j) r x refl q e in omega (arith, zero_suc))) in
    let rest = covered (set held r.slot None) rs (record {
      there = λ j x q. number_stays held r.slot x.slot None low (other x j q) ∙ c.there (suc j) x q;
      apart = λ i j x y p q e. (let same = c.apart (suc i) (suc j) x y p q e in omega (arith, same));
      all = λ slot number q. by_eqb r.slot slot
          (λ here. absurd (none-some number (sym (number_here held r.slot None low) ∙ (ap (number_in (set held r.slot None)) here ∙ q))))
          (λ differ. (let h = c.all slot number (sym (number_stays held r.slot slot None low differ) ∙ q) in behind slot differ h.0 h.1 h.2 h.3));
    }) in
    omega (arith, rest, count_emptied held r.slot r.seat.number own)
  where
    behind : (slot : ℕ) → (r.slot == slot) ≡ false → (j : ℕ) (x : Image) → slice_get (r ∷ rs) j ≡ Some x → x.slot ≡ slot → HasImageOf rs slot
    behind slot differ zero x q e = absurd (eqb-false r.slot slot differ (ap (λ (z : Image). z.slot) (same_Some r x q) ∙ e))
    behind slot differ (suc j) x q e = (j, x, q, e)

pub images_count : (m : TableView) (rs : List Image) → AreImages m rs → length rs ≡ how_many is_some (held_numbers m.slots)
images_count m rs im = covered (held_numbers m.slots) rs (record {
  there = λ j r q. number_there m.slots r.slot r.seat (im.each j r q).there;
  apart = λ i j x y p q e.
      (let number = ap (λ (z : Seat). z.number) (same_Some x.seat y.seat (sym (im.each i x p).there ∙ (ap (slot_of m.slots) e ∙ (im.each j y q).there))) in
      omega (arith, lower i j x y number p q, lower j i y x (sym number) q p));
  all = λ slot number q. (let at = some_there m.slots slot number q in im.held slot at.0 at.1);
})
  where
    lower : (a b : ℕ) (u v : Image) → u.seat.number ≡ v.seat.number → slice_get rs a ≡ Some u → slice_get rs b ≡ Some v → a < b → ⊥
    lower a b u v e s t low = omega (arith, im.ascending a b u v low s t, e)

-- ---- each empty slot once

pub among_at : (free : List ℕ) (i slot : ℕ) → slice_get free i ≡ Some slot → is_among slot free ≡ true
among_at [] i slot q = absurd (none-some slot q)
among_at (x ∷ free) zero slot q = ap (λ b. b || is_among slot free) (eq-eqb x slot (same_Some x slot q))
among_at (x ∷ free) (suc i) slot q = by (x == slot) (among_at free i slot q)
  where
    by : (b : Bool) → is_among slot free ≡ true → (b || is_among slot free) ≡ true
    by true rest = refl
    by false rest = rest

-- one that is among those before it is not there once
pub twice : (free : List ℕ) (i slot : ℕ) → AreOnce free → slice_get free i ≡ Some slot → is_among slot (take i free) ≡ true → ⊥
twice [] i slot once q before = absurd (none-some slot q)
twice (x ∷ free) zero slot once q before = false≢true before
twice (x ∷ free) (suc i) slot once q before = or_parts (x == slot) (is_among slot (take i free)) before
    (λ here. false≢true (sym once.0 ∙ (ap (λ k. is_among k free) (eqb-true x slot here) ∙ among_at free i slot q)))
    (λ rest. twice free i slot once.1 q rest)

pub none_marked : (n : ℕ) → AreMarked (replicate n false) []
none_marked zero i = refl
none_marked (suc n) zero = refl
none_marked (suc n) (suc i) = none_marked n i

pub none_once : (held : List (Option ℕ)) → AreOnceEmpty held []
none_once held = record { within = λ i q. absurd (false≢true q); empty = λ i q. absurd (false≢true q); once = tt }

-- one more is marked, which is empty and was not marked
pub once_marked : (held : List (Option ℕ)) (marks : List Bool) (free : List ℕ) (slot : ℕ) → AreMarked marks free → AreOnceEmpty held free → slot < length held → number_in held slot ≡ None → slice_index_or marks slot false ≡ false →
    AreOnceEmpty held (free ++ slot ∷ [])
once_marked held marks free slot marked each low empty unmarked = record {
  within = λ i q. or_parts (is_among i free) (slot == i) (sym (among_more i slot free) ∙ q) (each.within i) (λ own. omega (arith, low, eqb-true slot i own));
  empty = λ i q. or_parts (is_among i free) (slot == i) (sym (among_more i slot free) ∙ q) (each.empty i) (λ own. ap (number_in held) (sym (eqb-true slot i own)) ∙ empty);
  once = once_more free slot each.once (sym (marked slot) ∙ unmarked);
}

pub mark_more : (marks : List Bool) (free : List ℕ) (slot : ℕ) → AreMarked marks free → slot < length marks → AreMarked (set marks slot true) (free ++ slot ∷ [])
mark_more marks free slot marked low i = at_set marks slot i true false low ∙ (by (slot == i) (marked i) ∙ sym (among_more i slot free))
  where
    or_true : (b : Bool) → true ≡ (b || true)
    or_true true = refl
    or_true false = refl

    or_false : (b : Bool) → b ≡ (b || false)
    or_false true = refl
    or_false false = refl

    by : (b : Bool) → slice_index_or marks i false ≡ is_among i free → cond b true (slice_index_or marks i false) ≡ (is_among i free || b)
    by true q = or_true (is_among i free)
    by false q = q ∙ or_false (is_among i free)

-- the empty slots of a table are empty, each once
pub once_of_empty : (held : List (Option ℕ)) (free : List ℕ) → AreEmpty held free → AreOnceEmpty held free
once_of_empty held free e = record { within = e.within; empty = e.empty; once = e.once }

-- they are all of them where they are as many
pub empty_of_once : (m : TableView) (rs : List Image) (free : List ℕ) → AreImages m rs → length rs + length free ≡ length m.slots → AreOnceEmpty (held_numbers m.slots) free → AreEmpty (held_numbers m.slots) free
empty_of_once m rs free im size e = record {
  within = e.within;
  empty = e.empty;
  once = e.once;
  count = omega (arith, images_count m rs im, size, held_length m.slots);
}

-- ---- the index

ref_at : (rs : List Image) (i : ℕ) (x : TaskRef) → slice_get (refs_of rs) i ≡ Some x → (r : Image) × (slice_get rs i ≡ Some r) × (record { number = r.seat.number; slot = r.slot } ≡ x)
ref_at [] i x q = absurd (none-some x q)
ref_at (r ∷ rs) zero x q = (r, refl, same_Some (record { number = r.seat.number; slot = r.slot }) x q)
ref_at (r ∷ rs) (suc i) x q = ref_at rs i x q

refs_at : (rs : List Image) (i : ℕ) (r : Image) → slice_get rs i ≡ Some r → slice_get (refs_of rs) i ≡ Some (record { number = r.seat.number; slot = r.slot })
refs_at [] i r q = absurd (none-some r q)
refs_at (s ∷ rs) zero r q = ap (λ (z : Image). Some (record { number = z.seat.number; slot = z.slot })) (same_Some s r q)
refs_at (s ∷ rs) (suc i) r q = refs_at rs i r q

take_at : (rs : List Image) (n i : ℕ) (r : Image) → slice_get (take n rs) i ≡ Some r → (i < n) × (slice_get rs i ≡ Some r)
take_at rs zero i r q = absurd (none-some r q)
take_at [] (suc n) i r q = absurd (none-some r q)
take_at (s ∷ rs) (suc n) zero r q = (omega arith, q)
take_at (s ∷ rs) (suc n) (suc i) r q = let rest = take_at rs n i r q in (omega (arith, rest.0), rest.1)

-- the next task is above those before it
pub refs_below : (rs : List Image) (n place : ℕ) (r : Image) → Ascends rs → slice_get rs n ≡ Some r → IsBelow (refs_of (take n rs)) place r.seat.number
refs_below rs n place r up is i x low q =
    let at = ref_at (take n rs) i x q in
    let there = take_at rs n i at.0 at.1 in
    omega (arith, up i n at.0 r there.0 there.1 is, ap (λ (z : TaskRef). z.number) at.2)

refs_more : (rs : List Image) (n : ℕ) (r : Image) → slice_get rs n ≡ Some r → refs_of (take (suc n) rs) ≡ refs_of (take n rs) ++ record { number = r.seat.number; slot = r.slot } ∷ []
refs_more [] n r q = absurd (none-some r q)
refs_more (s ∷ rs) zero r q = ap (λ (z : Image). record { number = z.seat.number; slot = z.slot } ∷ []) (same_Some s r q)
refs_more (s ∷ rs) (suc n) r q = ap (λ (l : List TaskRef). record { number = s.seat.number; slot = s.slot } ∷ l) (refs_more rs n r q)

pub refs_next : (rs : List Image) (n : ℕ) (r : Image) → slice_get rs n ≡ Some r → refs_of (take (n + 1) rs) ≡ refs_of (take n rs) ++ record { number = r.seat.number; slot = r.slot } ∷ []
refs_next rs n r q = rw add-one (refs_more rs n r q)

pub refs_size : (rs : List Image) (n : ℕ) → length (refs_of (take n rs)) ≤ n
refs_size rs zero = omega arith
refs_size [] (suc n) = omega arith
refs_size (r ∷ rs) (suc n) = let rest = refs_size rs n in omega (arith, rest)

-- what is so of each of them
live_at : (count : ℕ) (rs : List Image) (i : ℕ) (r : Image) → are_live count rs ≡ true → slice_get rs i ≡ Some r → (is_alive (task_in r.seat) ≡ true) × (nat_lt r.seat.number count ≡ true)
live_at count [] i r live q = absurd (none-some r q)
live_at count (s ∷ rs) zero r live q =
    let parts = and_parts (is_live count s) (are_live count rs) live in
    and_parts (is_alive (task_in r.seat)) (nat_lt r.seat.number count) (ap (is_live count) (sym (same_Some s r q)) ∙ parts.0)
live_at count (s ∷ rs) (suc i) r live q = live_at count rs i r (and_parts (is_live count s) (are_live count rs) live).1 q

pub all_live : (count : ℕ) (rs : List Image) → ((i : ℕ) (r : Image) → slice_get rs i ≡ Some r → (is_alive (task_in r.seat) ≡ true) × (r.seat.number < count)) → are_live count rs ≡ true
all_live count [] each = refl
all_live count (r ∷ rs) each = (λ i. (first.0 i && lt-ltb r.seat.number count first.1 i) && all_live count rs (λ j s q. each (suc j) s q) i)
  where
    first : (is_alive (task_in r.seat) ≡ true) × (r.seat.number < count)
    first = each 0 r refl

pub indexed_images : (m : TableView) (rs : List Image) (count : ℕ) → AreImages m rs → are_live count rs ≡ true → IsIndex (held_numbers m.slots) (refs_of rs) count
indexed_images m rs count im live = record {
  ascending = λ i j x y less p q.
      (let a = ref_at rs i x p in let b = ref_at rs j y q in omega (arith, im.ascending i j a.0 b.0 less a.1 b.1, ap (λ (z : TaskRef). z.number) a.2, ap (λ (z : TaskRef). z.number) b.2));
  below = λ i x q. (let at = ref_at rs i x q in omega (arith, ltb-true at.0.seat.number count (live_at count rs i at.0 live at.1).1, ap (λ (z : TaskRef). z.number) at.2));
  each = each;
}
  where
    each : (slot number : ℕ) → number_in (held_numbers m.slots) slot ≡ Some number → HasEntry (refs_of rs) number slot
    each slot number q =
        let at = some_there m.slots slot number q in
        let h = im.held slot at.0 at.1 in
        let seat : h.1.seat ≡ at.0 = same_Some h.1.seat at.0 (sym (im.each h.0 h.1 h.2).there ∙ (ap (slot_of m.slots) h.3 ∙ at.1)) in
        let own : h.1.seat.number ≡ number = ap (λ (z : Seat). z.number) seat ∙ at.2 in
        (h.0, refs_at rs h.0 h.1 h.2 ∙ (λ i. Some (record { number = own i; slot = h.3 i })))

pub alive_images : (m : TableView) (rs : List Image) (count : ℕ) → AreImages m rs → are_live count rs ≡ true → AreAlive m.slots
alive_images m rs count im live slot x q =
    let h = im.held slot x q in
    let seat : h.1.seat ≡ x = same_Some h.1.seat x (sym (im.each h.0 h.1 h.2).there ∙ (ap (slot_of m.slots) h.3 ∙ q)) in
    ap (λ (z : Seat). is_alive (task_in z)) (sym seat) ∙ (live_at count rs h.0 h.1 live h.2).0

-- ---- what is written of no sound executor

pub sound_frame : (m : LiveView) (f : ExecutorFrame) → IsSound m → HasFrame m f → IsSoundFrame f
sound_frame m f s h = record {
  behind = omega (arith, s.behind, h.earliest, h.table.moment);
  unshut = λ q. sym h.accepted ∙ (s.unshut (h.table.shut ∙ q) ∙ h.count);
}

pub sound_live : (m : LiveView) (f : ExecutorFrame) (tasks : List Image) → IsSound m → HasFrame m f → AreImages m.table tasks → are_live f.count tasks ≡ true
sound_live m f tasks s h im = all_live f.count tasks (λ i r q.
    (let there = (im.each i r q).there in (s.alive r.slot r.seat there, omega (arith, s.given r.slot r.seat there, h.count))))

pub written_size : (m : LiveView) (f : ExecutorFrame) (tasks : List Image) (empty : List ℕ) → IsWritten m f tasks empty → length tasks + length empty ≡ f.table.slots
written_size m f tasks empty w = omega (arith, images_count m.table tasks w.tasks, w.empty.count, held_length m.table.slots, w.frame.table.slots)

pub written_table : (m : LiveView) (f : ExecutorFrame) (tasks : List Image) (empty : List ℕ) → IsWritten m f tasks empty → tables.IsWritten m.table f.table tasks
written_table m f tasks empty w = record { frame = w.frame.table; images = w.tasks }

-- the same table has the same empty slots
pub written_empty : (m : LiveView) (t : TableView) (f : ExecutorFrame) (tasks : List Image) (empty : List ℕ) → IsWritten m f tasks empty → tables.IsWritten t f.table tasks → AreOnceEmpty (held_numbers t.slots) empty
written_empty m t f tasks empty w is =
    subst (λ (v : TableView). AreOnceEmpty (held_numbers v.slots) empty) (one_table m.table t f.table tasks (written_table m f tasks empty w) is) (once_of_empty (held_numbers m.table.slots) empty w.empty)

-- ---- an executor that is made

-- what is seen of it
abbrev pub made : TableView → ExecutorFrame → List TaskRef → LiveView
made t f ended = record { table = t; count = f.count; accepted = f.accepted; earliest = f.earliest; ended = ended }

pub made_written : (t : TableView) (f : ExecutorFrame) (ended : List TaskRef) (tasks : List Image) (empty : List ℕ) → tables.IsWritten t f.table tasks → length tasks + length empty ≡ f.table.slots → AreOnceEmpty (held_numbers t.slots) empty → IsWritten (made t f ended) f tasks empty
made_written t f ended tasks empty is size once = record {
  frame = record { table = is.frame; earliest = refl; count = refl; accepted = refl };
  tasks = is.images;
  empty = empty_of_once t tasks empty is.images (size ∙ sym is.frame.slots) once;
}

pub made_live : (t : TableView) (f : ExecutorFrame) (ended : List TaskRef) (tasks : List Image) (empty free : List ℕ) (entries : List TaskRef) (slot_room ended_room : ℕ) → tables.IsWritten t f.table tasks → t.moment ≤ longest → IsSoundFrame f → f.count < 2 ^ 64 →
    are_live f.count tasks ≡ true → length tasks + length empty ≡ f.table.slots → AreOnceEmpty (held_numbers t.slots) empty → free ≡ empty → entries ≡ refs_of tasks → f.table.slots ≤ slot_room → f.table.slots ≤ ended_room →
    IsLive (made t f ended) free entries slot_room ended_room
made_live t f ended tasks empty free entries slot_room ended_room is near sound few live size once a b room spare = record {
  few = omega (arith, few);
  behind = omega (arith, sound.behind, is.frame.moment);
  unshut = λ q. sound.unshut (sym is.frame.shut ∙ q);
  earliest = omega (arith, sound.behind, is.frame.moment, near);
  noted = record {
    empty = subst (AreEmpty (held_numbers t.slots)) (sym a) (empty_of_once t tasks empty is.images (size ∙ sym is.frame.slots) once);
    index = subst (λ es. IsIndex (held_numbers t.slots) es f.count) (sym b) (indexed_images t tasks f.count is.images live);
    room = omega (arith, room, is.frame.slots);
    spare = omega (arith, spare, is.frame.slots);
  };
  alive = alive_images t tasks f.count is.images live;
}
