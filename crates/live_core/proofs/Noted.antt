-- What is noted of the slots, once a table has changed.
use Rattle.std.proofs.Common.{◌≡◌, ℕ, ◌+◌, ◌<◌, ◌≤◌, inr, List, [], ◌∷◌, ◌++◌, length, Option, Some, None, refl, sym, ap, ◌∙◌, arith, subst}
use Rattle.std.specs.Prelude.{◌-◌, ◌*◌, slice_set, replicate, Result, Ok, Err, OnOk, OnErr}
use Rattle.std.specs.List.{range_with_len}
use Rattle.std.proofs.lemmas.List.{length-append, length-replicate}
use Rattle.live_core.proofs.Ranged.{empty_grown, grown_number}
use Rattle.task_table.specs.Tables.{TableView}
use Rattle.task_table.specs.Changes.{grown}
use Rattle.live_core.specs.Said.{AreTaken, GrowsWhereTaken, tasks_in}
use Rattle.task_table.specs.declared.seat.Seat.{Seat}
use Rattle.task_table.specs.declared.seat.TaskRef.{TaskRef}
use Rattle.task_table.specs.Seats.{slot_of, IsNew}
use Rattle.live_core.specs.Empties.{held_numbers, AreEmpty}
use Rattle.live_core.specs.own.Slots.{IsIndex}
use Rattle.live_core.specs.own.Formed.{AreNoted}
use Rattle.live_core.proofs.Emptied.{taken, released, has_room, last_empty, length_set}
use Rattle.live_core.proofs.Indexed.{indexed_new, indexed_emptied, number_given}
use Rattle.live_core.proofs.Held.{number_there, none_there, held_length, held_count, held_set, held_grown, new_number, tasks_grown}

-- slots with the same numbers
pub noted_still : (old new : List (Option Seat)) (count : ℕ) (free : List ℕ) (entries : List TaskRef) (slot_room ended_room : ℕ) → held_numbers new ≡ held_numbers old → AreNoted old count free entries slot_room ended_room →
    AreNoted new count free entries slot_room ended_room
noted_still old new count free entries slot_room ended_room same noted =
    let long : length new ≡ length old = sym (held_length new) ∙ (ap length same ∙ held_length old) in
    record {
      empty = subst (λ held. AreEmpty held free) (sym same) noted.empty;
      index = subst (λ held. IsIndex held entries count) (sym same) noted.index;
      room = omega (arith, long, noted.room);
      spare = omega (arith, long, noted.spare);
    }

-- the number that comes next is new
pub noted_number : (slots : List (Option Seat)) (count : ℕ) (free : List ℕ) (entries : List TaskRef) (slot_room ended_room : ℕ) → AreNoted slots count free entries slot_room ended_room → IsNew slots count
noted_number slots count free entries slot_room ended_room noted =
    new_number slots count (λ slot is. let less = number_given (held_numbers slots) entries count slot count noted.index is in omega (arith, less))

-- the last slot that is noted as empty is one, and is empty
pub noted_slot : (slots : List (Option Seat)) (count : ℕ) (rest : List ℕ) (slot : ℕ) (entries : List TaskRef) (slot_room ended_room : ℕ) → AreNoted slots count (rest ++ slot ∷ []) entries slot_room ended_room →
    (slot < length slots) × (slot_of slots slot ≡ None)
noted_slot slots count rest slot entries slot_room ended_room noted =
    let last = last_empty (held_numbers slots) rest slot noted.empty in
    (omega (arith, last.0, held_length slots), none_there slots slot last.1)

-- a task with the number that comes next comes into it
pub noted_new : (slots : List (Option Seat)) (count : ℕ) (rest : List ℕ) (slot : ℕ) (x : Seat) (entries : List TaskRef) (slot_room ended_room : ℕ) → x.number ≡ count → AreNoted slots count (rest ++ slot ∷ []) entries slot_room ended_room →
    AreNoted (slice_set slots slot (Some x)) (count + 1) rest (entries ++ (record { number = count; slot = slot }) ∷ []) slot_room ended_room
noted_new slots count rest slot x entries slot_room ended_room own noted =
    let held = held_numbers slots in
    let last = last_empty held rest slot noted.empty in
    let after : held_numbers (slice_set slots slot (Some x)) ≡ slice_set held slot (Some count) = held_set slots slot (Some x) ∙ ap (λ (k : ℕ). slice_set held slot (Some k)) own in
    let long : length (slice_set slots slot (Some x)) ≡ length slots =
    sym (held_length (slice_set slots slot (Some x))) ∙ (ap length after ∙ (length_set held slot (Some count) ∙ held_length slots))
    in
    record {
      empty = subst (λ h. AreEmpty h rest) (sym after) (taken held rest slot count noted.empty);
      index = subst (λ h. IsIndex h (entries ++ (record { number = count; slot = slot }) ∷ []) (count + 1)) (sym after) (indexed_new held entries slot count last.0 noted.index);
      room = omega (arith, long, noted.room);
      spare = omega (arith, long, noted.spare);
    }

-- a slot is emptied
pub noted_emptied : (slots : List (Option Seat)) (count : ℕ) (free : List ℕ) (slot : ℕ) (x : Seat) (entries : List TaskRef) (slot_room ended_room : ℕ) → slot_of slots slot ≡ Some x → AreNoted slots count free entries slot_room ended_room →
    AreNoted (slice_set slots slot None) count (free ++ slot ∷ []) entries slot_room ended_room
noted_emptied slots count free slot x entries slot_room ended_room there noted =
    let held = held_numbers slots in
    let number = number_there slots slot x there in
    let after : held_numbers (slice_set slots slot None) ≡ slice_set held slot None = held_set slots slot None in
    let long : length (slice_set slots slot None) ≡ length slots =
    sym (held_length (slice_set slots slot None)) ∙ (ap length after ∙ (length_set held slot None ∙ held_length slots))
    in
    record {
      empty = subst (λ h. AreEmpty h (free ++ slot ∷ [])) (sym after) (released held free slot x.number number noted.empty);
      index = subst (λ h. IsIndex h entries count) (sym after) (indexed_emptied held entries slot x.number count number noted.index);
      room = omega (arith, long, noted.room);
      spare = omega (arith, long, noted.spare);
    }

-- there are n more slots, which are empty
pub noted_grown : (slots : List (Option Seat)) (count : ℕ) (free : List ℕ) (first n : ℕ) (entries : List TaskRef) (slot_room ended_room more_free more_ended : ℕ) → first ≡ length slots → first + n ≤ more_free → first + n ≤ more_ended →
    AreNoted slots count free entries slot_room ended_room → AreNoted (slots ++ replicate n None) count (free ++ range_with_len first n) entries more_free more_ended
noted_grown slots count free first n entries slot_room ended_room more_free more_ended is room spare noted =
    let held = held_numbers slots in
    let after : held_numbers (slots ++ replicate n None) ≡ held ++ replicate n None = held_grown slots n in
    let long : length (slots ++ replicate n None) ≡ length slots + n = length-append slots (replicate n None) ∙ ap (λ (k : ℕ). length slots + k) (length-replicate n None) in
    record {
      empty = subst (λ h. AreEmpty h (free ++ range_with_len first n)) (sym after) (empty_grown n held free first (omega (arith, is, held_length slots)) noted.empty);
      index = subst (λ h. IsIndex h entries count) (sym after) (record {
        ascending = noted.index.ascending;
        below = noted.index.below;
        each = λ slot number there. noted.index.each slot number (sym (grown_number held n slot) ∙ there);
      });
      room = omega (arith, long, is, room);
      spare = omega (arith, long, is, spare);
    }

-- the same, by other names
pub noted_same : (old new : List (Option Seat)) (count : ℕ) (free free' : List ℕ) (entries entries' : List TaskRef) (slot_room slot_room' ended_room : ℕ) → new ≡ old → free' ≡ free → entries' ≡ entries → slot_room' ≡ slot_room →
    AreNoted old count free entries slot_room ended_room → AreNoted new count free' entries' slot_room' ended_room
noted_same old new count free free' entries entries' slot_room slot_room' ended_room s f e r noted =
    subst (λ x. AreNoted x count free' entries' slot_room' ended_room) (sym s)
    (subst (λ x. AreNoted old count x entries' slot_room' ended_room) (sym f)
    (subst (λ x. AreNoted old count free x slot_room' ended_room) (sym e) (subst (λ x. AreNoted old count free entries x ended_room) (sym r) noted)))

-- with another index of the same slots
pub noted_index : (slots : List (Option Seat)) (count : ℕ) (free free' : List ℕ) (entries entries' : List TaskRef) (slot_room slot_room' ended_room : ℕ) → free' ≡ free → slot_room' ≡ slot_room → IsIndex (held_numbers slots) entries' count →
    AreNoted slots count free entries slot_room ended_room → AreNoted slots count free' entries' slot_room' ended_room
noted_index slots count free free' entries entries' slot_room slot_room' ended_room f r index noted =
    noted_same slots slots count free free' entries' entries' slot_room slot_room' ended_room refl f refl r (record { empty = noted.empty; index = index; room = noted.room; spare = noted.spare })

-- one more number was given out, to no task; no task was ended, and the slots are the same by another name
pub noted_later : (old new : List (Option Seat)) (count : ℕ) (free : List ℕ) (entries : List TaskRef) (slot_room ended_room more_ended : ℕ) → new ≡ old → more_ended ≡ ended_room → AreNoted old count free entries slot_room ended_room →
    AreNoted new (count + 1) free entries slot_room more_ended
noted_later old new count free entries slot_room ended_room more_ended same room noted =
    subst (λ x. AreNoted x (count + 1) free entries slot_room more_ended) (sym same) (subst (λ x. AreNoted old (count + 1) free entries slot_room x) (sym room) (record {
      empty = noted.empty;
      index = record {
        ascending = noted.index.ascending;
        below = λ i x there. let before = noted.index.below i x there in omega (arith, before);
        each = noted.index.each;
      };
      room = noted.room;
      spare = noted.spare;
    }))

-- where a slot holds a task, there is room to note that it is empty
pub noted_room : (slots : List (Option Seat)) (count : ℕ) (free : List ℕ) (slot : ℕ) (x : Seat) (entries : List TaskRef) (slot_room ended_room : ℕ) → slot_of slots slot ≡ Some x → AreNoted slots count free entries slot_room ended_room → length free < slot_room
noted_room slots count free slot x entries slot_room ended_room there noted =
    let few = has_room (held_numbers slots) free slot x.number (number_there slots slot x there) noted.empty in
    omega (arith, few, held_length slots, noted.room)

-- the slots that are noted as empty, and the tasks in slots
pub noted_count : (slots : List (Option Seat)) (count : ℕ) (free : List ℕ) (entries : List TaskRef) (slot_room ended_room : ℕ) → AreNoted slots count free entries slot_room ended_room → length free + tasks_in slots ≡ length slots
noted_count slots count free entries slot_room ended_room noted = omega (arith, noted.empty.count, held_length slots, held_count slots)

-- where no slot is empty, each holds a task
pub noted_full : (slots : List (Option Seat)) (count : ℕ) (free : List ℕ) (entries : List TaskRef) (slot_room ended_room : ℕ) → AreNoted slots count free entries slot_room ended_room → length free ≡ 0 → AreTaken slots
noted_full slots count free entries slot_room ended_room noted none = omega (arith, noted.empty.count, none, held_length slots, held_count slots)

-- where one is, fewer slots hold a task than there is room to note
pub noted_spare : (slots : List (Option Seat)) (count : ℕ) (free : List ℕ) (entries : List TaskRef) (slot_room ended_room : ℕ) → AreNoted slots count free entries slot_room ended_room → 0 < length free → tasks_in slots < slot_room
noted_spare slots count free entries slot_room ended_room noted some = omega (arith, noted.empty.count, some, noted.room, held_length slots, held_count slots)

-- how many slots there are once there are twice as many, and four
twice_grown : (m : TableView) (new : TableView) → AreTaken m.slots → new ≡ grown m (2 * length m.slots + 4) → GrowsWhereTaken 4 m.slots new.slots
twice_grown m new all is =
    let n = length m.slots in
    let more = 2 * n + 4 - n in
    let long : length new.slots ≡ n + more = ap (λ (v : TableView). length v.slots) is ∙ (length-append m.slots (replicate more None) ∙ ap (λ (k : ℕ). n + k) (length-replicate more None)) in
    let tasks : tasks_in new.slots ≡ tasks_in m.slots = ap (λ (v : TableView). tasks_in v.slots) is ∙ tasks_grown m.slots more in
    inr (all, omega (arith, long), omega (arith, long, tasks, all))

pub twice_on_ok : {T E : Type 0} (r : Result T E) (m new : TableView) (slots : ℕ) → slots ≡ 2 * length m.slots + 4 → AreTaken m.slots → OnOk r (new ≡ grown m slots) → OnOk r (GrowsWhereTaken 4 m.slots new.slots)
twice_on_ok (Ok x) m new slots twice all is = twice_grown m new all (is ∙ ap (grown m) twice)
twice_on_ok (Err e) m new slots twice all is = tt

pub always_on_err : {T E P : Type 0} (r : Result T E) → P → OnErr r P
always_on_err (Ok x) p = tt
always_on_err (Err e) p = p
