-- What more slots leave as it was.
use Rattle.std.proofs.Common.{◌≡◌, ℕ, ◌+◌, ◌<◌, ◌≤◌, inl, inr, List, [], ◌∷◌, ◌++◌, length, zero, suc, Option, Some, None, refl, sym, ap, ◌∙◌, arith, subst}
use Rattle.std.specs.Prelude.{◌-◌, ◌*◌, replicate, slice_index_or, Result, Ok, Err, OnOk, OnErr, not, Bool, true, false}
use Rattle.std.proofs.lemmas.Bool.{false≢true}
use Rattle.std.proofs.lemmas.List.{length-append, length-replicate}
use Rattle.queue_code.specs.Calls.{Planned}
use Rattle.executor_model.specs.Histories.{HistoryEntry}
use Rattle.sched_time.specs.declared.timing.Timing.{Timing}
use Rattle.task_table.specs.declared.seat.Seat.{Seat}
use Rattle.task_table.specs.Seats.{slot_of}
use Rattle.task_table.specs.Changes.{grown}
use Rattle.live_core.specs.declared.answers.Submitted.{Submitted}
use Rattle.live_core.specs.declared.answers.Submitted.TheVariants as su
use Rattle.live_core.specs.Lives.{LiveView, Stands, StaysQuiet}
use Rattle.live_core.specs.Said as said
use Rattle.live_core.specs.Said.{AreTaken, has_task, tasks_in}
use Rattle.live_core.proofs.Held.{tasks_grown}
use Rattle.timers.specs.Timers.{TimersView}
use Rattle.timers.specs.Calls.{IsHalfMore, Submits, SlotsFor}
use Rattle.timers.specs.own.Rooms.{Grows, HasRoomFor, IsReady, MakesRoom}

-- what stands in a slot, where there are more
pub slot_grown : (slots : List (Option Seat)) (n i : ℕ) → slot_of (slots ++ replicate n None) i ≡ slot_of slots i
slot_grown [] n i = nones n i
  where
    nones : (n i : ℕ) → slot_of (replicate n None) i ≡ None
    nones zero i = refl
    nones (suc n) zero = refl
    nones (suc n) (suc i) = nones n i
slot_grown (o ∷ slots) n zero = refl
slot_grown (o ∷ slots) n (suc i) = slot_grown slots n i

-- what data stand in a slot, where there are more
pub data_grown : (kept : List ℕ) (n i : ℕ) → slice_index_or (kept ++ replicate n 0) i 0 ≡ slice_index_or kept i 0
data_grown [] n i = zeros n i
  where
    none : ℕ
    none = 0

    zeros : (n i : ℕ) → slice_index_or (replicate n none) i none ≡ none
    zeros zero i = refl
    zeros (suc n) zero = refl
    zeros (suc n) (suc i) = zeros n i
data_grown (o ∷ kept) n zero = refl
data_grown (o ∷ kept) n (suc i) = data_grown kept n i

-- an executor with so many slots
abbrev pub growing : LiveView → ℕ → LiveView
growing m slots = record m { table = grown m.table slots }

-- how many slots there are then
pub length_grown : (m : LiveView) (slots : ℕ) → length m.table.slots ≤ slots → length (growing m slots).table.slots ≡ slots
length_grown m slots more =
    let a = length-append m.table.slots (replicate (slots - length m.table.slots) None) in
    let empty : Option Seat = None in
    let b = length-replicate (slots - length m.table.slots) empty in
    omega (arith, a, b, more)

-- not each of them is taken
pub not_taken : (m : LiveView) (slots : ℕ) → length m.table.slots < slots → AreTaken m.table.slots → AreTaken (growing m slots).table.slots → ⊥
not_taken m slots more all taken =
    let same = tasks_grown m.table.slots (slots - length m.table.slots) in
    let long = length_grown m slots (omega (arith, more)) in
    absurd (omega (arith, same, long, more, all, taken))

-- a submission after that is one
pub submits_grown : (m new : LiveView) (slots at : ℕ) (timing : Timing) (delay : ℕ) (s : Submitted) → IsHalfMore (length m.table.slots) slots → m.table.shut ≡ false → AreTaken m.table.slots
    → ((calls : List Planned) (past : List HistoryEntry) → Stands m calls past → Stands (growing m slots) calls past)
    → said.Submits (growing m slots) new at timing delay s → Submits m new at timing delay s
submits_grown m new slots at timing delay s half unshut all stands p = record {
  short = p.short;
  near = p.near;
  number = p.number;
  numbers = p.numbers;
  accepts = p.accepts;
  makes = λ calls past here. p.makes calls past (stands calls past here);
  seated = p.seated;
  slots = by s p.accepts p.slots;
}
  where
    more : length m.table.slots < slots
    more = omega (arith, half.0)

    long : length (growing m slots).table.slots ≡ slots
    long = length_grown m slots (omega (arith, more))

    by : (s : Submitted) → has_task s ≡ not m.table.shut → said.SlotsFor (growing m slots).table.slots new.table.slots s → SlotsFor m.table.slots new.table.slots s
    by (su.Accepted task due) takes (inl e) = inr (all, (omega (arith, e, long, half.0), omega (arith, e, long, half.1)))
    by (su.Accepted task due) takes (inr most) = absurd (not_taken m slots more all most.0)
    by (su.Rejected number) takes same = absurd (false≢true (takes ∙ ap not unshut))

-- it leaves what one leaves
pub stays_grown : (m new : LiveView) (slots : ℕ) → StaysQuiet (growing m slots) new (m.count + 1) → StaysQuiet m new (m.count + 1)
stays_grown m new slots q = record {
  stays = record {
    workers = q.stays.workers;
    earliest = q.stays.earliest;
    count = q.stays.count;
    slots = λ i x there low. let y = q.stays.slots i x there low in (y.0, sym (slot_grown m.table.slots (slots - length m.table.slots) i) ∙ y.1, y.2);
    size = λ q. absurd (omega (arith, q));
    given = q.stays.given;
    apart = q.stays.apart;
    alive = q.stays.alive;
  };
  ended = q.ended;
}

-- ---- making room

-- no more slots hold tasks than there are
pub tasks_few : (slots : List (Option Seat)) → tasks_in slots ≤ length slots
tasks_few [] = omega arith
tasks_few (None ∷ slots) = let few = tasks_few slots in omega (arith, few)
tasks_few (Some x ∷ slots) = let few = tasks_few slots in omega (arith, few)

pub are_taken : (slots : List (Option Seat)) (tasks n : ℕ) → tasks ≡ tasks_in slots → n ≡ length slots → n ≤ tasks → AreTaken slots
are_taken slots tasks n count long all = let few = tasks_few slots in omega (arith, count, long, all, few)

-- there is room, or nothing has changed
pub room_made : {T E : Type 0} (r : Result T E) (old new : TimersView) (n slots : ℕ) → n ≡ length old.live.table.slots → IsHalfMore n slots → old.live.table.shut ≡ false → AreTaken old.live.table.slots
    → OnOk r (Grows old new slots) → OnErr r (new.live ≡ old.live) → OnErr r (new.user_data ≡ old.user_data) → MakesRoom old new
room_made (Ok t) old new n slots is half unshut all grows live kept = inr (unshut, all, record { slots = slots; half = subst (λ (k : ℕ). IsHalfMore k slots) is half; grows = grows })
room_made (Err e) old new n slots is half unshut all grows live kept = inl (ap (λ (v : LiveView). record new { live = v }) live ∙ ap (λ (d : List ℕ). record old { user_data = d }) kept)

-- not each slot is taken then
pub room_there : {T E : Type 0} (r : Result T E) (old new : TimersView) (n slots : ℕ) → n ≡ length old.live.table.slots → IsHalfMore n slots → AreTaken old.live.table.slots
    → OnOk r (Grows old new slots) → OnOk r (AreTaken new.live.table.slots → ⊥)
room_there (Ok t) old new n slots is half all grows = λ taken. not_taken old.live slots (omega (arith, is, half.0)) all (subst (λ (v : LiveView). AreTaken v.table.slots) grows.live taken)
room_there (Err e) old new n slots is half all grows = tt

pub always_on_err : {T E : Type 0} {P : Type 0} (r : Result T E) → P → OnErr r P
always_on_err (Ok t) p = tt
always_on_err (Err e) p = p

-- ---- a submission for which there is room

open_is : (b : Bool) → true ≡ not b → b ≡ false
open_is false q = refl
open_is true q = absurd (false≢true (sym q))

-- it leaves as many slots
pub same_size : (m new : LiveView) (at delay : ℕ) (timing : Timing) (s : Submitted) → IsReady m at delay → said.Submits m new at timing delay s → length new.table.slots ≡ length m.table.slots
same_size m new at delay timing s ready p = by s p.accepts p.slots
  where
    by : (s : Submitted) → has_task s ≡ not m.table.shut → said.SlotsFor m.table.slots new.table.slots s → length new.table.slots ≡ length m.table.slots
    by (su.Accepted task due) takes (inl e) = e
    by (su.Accepted task due) takes (inr most) = absurd (ready.room (open_is m.table.shut takes) most.0)
    by (su.Rejected number) takes same = ap length same

same_slots : (m new : LiveView) (s : Submitted) → length new.table.slots ≡ length m.table.slots → said.SlotsFor m.table.slots new.table.slots s → SlotsFor m.table.slots new.table.slots s
same_slots m new (su.Accepted task due) same slots = inl same
same_slots m new (su.Rejected number) same slots = slots

-- a submission that was made was ready to be made
pub ready_of : (old mid : TimersView) (new : LiveView) (at delay : ℕ) (timing : Timing) (s : Submitted) → HasRoomFor old mid at delay → said.Submits mid.live new at timing delay s → MakesRoom old mid × IsReady mid.live at delay
ready_of old mid new at delay timing s (inl (same, some)) made =
    (inl same, record { short = made.short.0; near = made.near; numbers = made.numbers; room = λ _ taken. some (subst (λ (v : TimersView). AreTaken v.live.table.slots) same taken) })
ready_of old mid new at delay timing s (inr ready) made = ready

-- room is made, and then it is one
pub submits_after : (old mid : TimersView) (new : LiveView) (at delay : ℕ) (timing : Timing) (s : Submitted) → MakesRoom old mid → IsReady mid.live at delay → said.Submits mid.live new at timing delay s → Submits old.live new at timing delay s
submits_after old mid new at delay timing s (inl e) ready p =
    subst (λ (v : TimersView). Submits v.live new at timing delay s) e (record {
      short = p.short;
      near = p.near;
      number = p.number;
      numbers = p.numbers;
      accepts = p.accepts;
      makes = p.makes;
      seated = p.seated;
      slots = same_slots mid.live new s (same_size mid.live new at delay timing s ready p) p.slots;
    })
submits_after old mid new at delay timing s (inr room) ready p =
    let grows = room.2.grows in
    submits_grown old.live new room.2.slots at timing delay s room.2.half room.0 room.1
    (λ calls past here. subst (λ (v : LiveView). Stands v calls past) grows.live (grows.stands calls past here))
    (subst (λ (v : LiveView). said.Submits v new at timing delay s) grows.live p)

-- and leaves what one leaves
pub stays_after : (old mid : TimersView) (new : LiveView) → MakesRoom old mid → StaysQuiet mid.live new (mid.live.count + 1) → StaysQuiet old.live new (old.live.count + 1)
stays_after old mid new (inl e) q = subst (λ (v : TimersView). StaysQuiet v.live new (v.live.count + 1)) e q
stays_after old mid new (inr room) q =
    stays_grown old.live new room.2.slots (subst (λ (v : LiveView). StaysQuiet v new (v.count + 1)) room.2.grows.live q)
