-- The steps of calls that sweep: kept tasks are dropped before them, and the tasks that they end leave their slots after them.
use Rattle.std.proofs.Common.{◌≡◌, ℕ, ◌+◌, ◌<◌, ◌≤◌, ◌==◌, zero, suc, inl, inr, ◌⊎◌, Bool, true, false, cond, List, [], ◌∷◌, length, get_or, take, Option, Some, None, refl, sym, ap, ◌∙◌, arith, subst}
use Rattle.std.specs.Prelude.{slice_set}
use Rattle.std.specs.List.{All}
use Rattle.std.proofs.lemmas.Bool.{false≢true, eq-eqb, or_left, or_right}
use Rattle.std.proofs.lemmas.List.Elements.{All-head, All-tail, All-nil, All-cons, All-more, All-weaker}
use Rattle.std.proofs.lemmas.Option.{same_Some, slice_get_within}
use Rattle.queue_code.specs.Calls.{Planned, IsOrderlyFrom}
use Rattle.executor_model.specs.declared.types.Happening.TheVariants as h
use Rattle.executor_model.specs.Answers.{Reply}
use Rattle.executor_model.specs.Histories.{HistoryEntry, entry_of, happenings, made, answer, is_end, IsHistoryOf}
use Rattle.executor_model.proofs.Tables.{at_set}
use Rattle.task_table.specs.declared.seat.Seat.{Seat}
use Rattle.task_table.specs.declared.seat.TaskRef.{TaskRef}
use Rattle.task_table.specs.Seats.{task_in, slot_of, is_alive}
use Rattle.task_table.specs.Tables.{TableView, workers_of, IsNextCall, Takes, Stands, StandsBefore, CallSteps, CallStepsBefore}
use Rattle.task_table.specs.Firsts.{NoneKept, holds_kept, kept_in}
use Rattle.task_table.specs.Ends.{IsAscending}
use Rattle.task_table.specs.Endings.{IsOverAt, SweepEnds, numbers_of}
use Rattle.task_table.specs.Runs.{Drops}
use Rattle.task_table.specs.Changes.{emptied, unkept, swept}
use Rattle.task_table.proofs.Written.{by_eqb, apart_eqb, slot_within, Writes, set_writes}
use Rattle.task_table.proofs.Starts.{stands_before}
use Rattle.live_core.specs.own.Places.{IsEmptyAt}
use Rattle.live_core.specs.Empties.{held_numbers}
use Rattle.live_core.specs.own.Formed.{AreNoted}
use Rattle.live_core.proofs.Held.{held_put, held_mapped}
use Rattle.live_core.proofs.Noted.{noted_still}

-- ---- a kept task is dropped

-- the numbers in the slots stay
pub drop_numbers : (m mid : TableView) (slot : ℕ) → Drops m mid slot → held_numbers mid.slots ≡ held_numbers m.slots
drop_numbers m mid slot d = ap (λ (v : TableView). held_numbers v.slots) d.is ∙ held_put m.slots slot d.task (unkept d.task) d.there refl

-- the slots are noted as before
pub noted_dropped : (m mid : TableView) (slot count : ℕ) (free : List ℕ) (entries : List TaskRef) (slot_room ended_room : ℕ) → Drops m mid slot → AreNoted m.slots count free entries slot_room ended_room → AreNoted mid.slots count free entries slot_room ended_room
noted_dropped m mid slot count free entries slot_room ended_room d noted =
    noted_still m.slots mid.slots count free entries slot_room ended_room (drop_numbers m mid slot d) noted

-- a kept task is where it was, or has left its slot
abbrev pub StaysOrGoes : TableView → TableView → Type 0
StaysOrGoes old new = (i : ℕ) (x : Seat) → slot_of old.slots i ≡ Some x → x.kept ≡ true → (slot_of new.slots i ≡ Some x) ⊎ (slot_of new.slots i ≡ None)

-- what another slot holds then
left_dropped : (m mid new : TableView) (slot : ℕ) → Drops m mid slot → new ≡ emptied mid slot → (i : ℕ) → slot_of new.slots i ≡ cond (slot == i) None (slot_of m.slots i)
left_dropped m mid new slot d is i = now ∙ by_eqb slot i
    (λ here. ap (λ b. cond b None (slot_of mid.slots i)) (eq-eqb slot i here) ∙ sym (ap (λ b. cond b None (slot_of m.slots i)) (eq-eqb slot i here)))
    (λ other. ap (λ b. cond b None (slot_of mid.slots i)) other ∙ (ap (λ (v : TableView). slot_of v.slots i) d.is ∙ (writes.other i other ∙ sym (ap (λ b. cond b None (slot_of m.slots i)) other))))
  where
    writes : Writes m.slots (slice_set m.slots slot (Some (unkept d.task))) slot (unkept d.task)
    writes = set_writes m.slots slot (unkept d.task) (slot_within m.slots slot d.task d.there)

    held : slot_of mid.slots slot ≡ Some (unkept d.task)
    held = ap (λ (v : TableView). slot_of v.slots slot) d.is ∙ writes.here

    now : slot_of new.slots i ≡ cond (slot == i) None (slot_of mid.slots i)
    now = ap (λ (v : TableView). slot_of v.slots i) is ∙ at_set mid.slots slot i None None (slot_within mid.slots slot (unkept d.task) held)

-- where that is so, and one is dropped and leaves its slot, it is so then
pub goes_dropped : (old m mid new : TableView) (slot : ℕ) → StaysOrGoes old m → Drops m mid slot → new ≡ emptied mid slot → StaysOrGoes old new
goes_dropped old m mid new slot before d is i x there kept = by_eqb slot i
    (λ here. inr (now ∙ ap (λ b. cond b None (slot_of m.slots i)) (eq-eqb slot i here)))
    (λ other. elim (before i x there kept) [ inl same ↦ inl (left other ∙ same) | inr none ↦ inr (left other ∙ none) ])
  where
    now : slot_of new.slots i ≡ cond (slot == i) None (slot_of m.slots i)
    now = left_dropped m mid new slot d is i

    left : (slot == i) ≡ false → slot_of new.slots i ≡ slot_of m.slots i
    left other = now ∙ ap (λ b. cond b None (slot_of m.slots i)) other

-- a task that is not kept is where it was
abbrev pub StaysUnkept : TableView → TableView → Type 0
StaysUnkept old new = (i : ℕ) (x : Seat) → slot_of old.slots i ≡ Some x → x.kept ≡ false → slot_of new.slots i ≡ Some x

-- where that is so, and a kept one is dropped and leaves its slot, it is so then
pub others_dropped : (old m mid new : TableView) (slot : ℕ) → StaysUnkept old m → Drops m mid slot → new ≡ emptied mid slot → StaysUnkept old new
others_dropped old m mid new slot before d is i x there loose = by_eqb slot i
    (λ here.
    let one : x ≡ d.task = same_Some x d.task (sym (before i x there loose) ∙ (ap (slot_of m.slots) (sym here) ∙ d.there)) in
    absurd (false≢true (sym loose ∙ (ap (λ (z : Seat). z.kept) one ∙ d.kept))))
    (λ other. left_dropped m mid new slot d is i ∙ (ap (λ b. cond b None (slot_of m.slots i)) other ∙ before i x there loose))

-- where none is kept any more, all have left theirs
pub goes_all : (old m new : TableView) → StaysOrGoes old m → new ≡ m → NoneKept m → (i : ℕ) (x : Seat) → slot_of old.slots i ≡ Some x → x.kept ≡ true → slot_of new.slots i ≡ None
goes_all old m new before is none i x there kept = ap (λ (v : TableView). slot_of v.slots i) is
    ∙ elim (before i x there kept) [ inl same ↦ absurd (false≢true (sym (none i x same) ∙ kept)) | inr gone ↦ gone ]

-- nothing may come of it any more
pub over_dropped : (m mid : TableView) (slot : ℕ) → Drops m mid slot → (x : Seat) × (slot_of mid.slots slot ≡ Some x) × (is_alive (task_in x) ≡ false)
over_dropped m mid slot d =
    (unkept d.task, ap (λ (v : TableView). slot_of v.slots slot) d.is ∙ (set_writes m.slots slot (unkept d.task) (slot_within m.slots slot d.task d.there)).here, d.over)

-- an empty slot holds no kept task
kept_emptied : (slots : List (Option Seat)) (slot : ℕ) → kept_in (slice_set slots slot None) ≤ kept_in slots
kept_emptied [] slot = omega arith
kept_emptied (o ∷ slots) zero = by (holds_kept o)
  where
    by : (b : Bool) → kept_in slots ≤ cond b (1 + kept_in slots) (kept_in slots)
    by true = omega arith
    by false = omega arith
kept_emptied (o ∷ slots) (suc slot) = by (holds_kept o) (kept_emptied slots slot)
  where
    by : (b : Bool) → kept_in (slice_set slots slot None) ≤ kept_in slots → cond b (1 + kept_in (slice_set slots slot None)) (kept_in (slice_set slots slot None)) ≤ cond b (1 + kept_in slots) (kept_in slots)
    by true rest = omega (arith, rest)
    by false rest = rest

-- once it has left its slot fewer are kept
pub fewer_kept : (m mid new : TableView) (slot : ℕ) → Drops m mid slot → new ≡ emptied mid slot → kept_in new.slots < kept_in m.slots
fewer_kept m mid new slot d is =
    let left : kept_in new.slots ≡ kept_in (slice_set mid.slots slot None) = ap (λ (v : TableView). kept_in v.slots) is in
    omega (arith, left, kept_emptied mid.slots slot, d.fewer)

-- ---- nothing but the slots changes

pub slots_more : (old mid new : TableView) (slots : List (Option Seat)) → mid ≡ record old { slots = mid.slots } → new ≡ record mid { slots = slots } → new ≡ record old { slots = new.slots }
slots_more old mid new slots before is = is ∙ ((λ i. record (before i) { slots = slots }) ∙ (λ i. record old { slots = (sym is i).slots }))

-- ---- the tasks that were ended leave their slots

-- tasks, ascending by number, of which nothing may come any more
pub record AreOver (m : TableView) (tasks : List TaskRef) : Type 0 where
  pub over : All (IsOverAt m) tasks
  pub ascending : IsAscending (numbers_of tasks)

-- the first of them may leave its slot
pub over_first : (m : TableView) (task : TaskRef) (tasks : List TaskRef) → AreOver m (task ∷ tasks) → (x : Seat) × (slot_of m.slots task.slot ≡ Some x) × (is_alive (task_in x) ≡ false)
over_first m task tasks a = let first = All-head (IsOverAt m) task tasks a.over in (first.task, first.there, first.over)

-- the others are where they were then
over_later : (m new : TableView) (slot number : ℕ) (x : Seat) (tasks : List TaskRef) → slot_of m.slots slot ≡ Some x → x.number ≡ number → new ≡ emptied m slot → ((j : ℕ) → is_end j (numbers_of tasks) ≡ true → number < j) → All (IsOverAt m) tasks → All (IsOverAt new) tasks
over_later m new slot number x [] there named is above over = All-nil (IsOverAt new)
over_later m new slot number x (r ∷ tasks) there named is above over =
    All-cons (IsOverAt new) r tasks (stays (All-head (IsOverAt m) r tasks over))
    (over_later m new slot number x tasks there named is (λ j q. above j (or_right (r.number == j) (is_end j (numbers_of tasks)) q)) (All-tail (IsOverAt m) r tasks over))
  where
    apart : (y : Seat) → slot_of m.slots r.slot ≡ Some y → y.number ≡ r.number → slot ≡ r.slot → ⊥
    apart y is_there same here =
        let one : x ≡ y = same_Some x y (sym there ∙ (ap (slot_of m.slots) here ∙ is_there)) in
        let more = above r.number (or_left (r.number == r.number) (is_end r.number (numbers_of tasks)) (eq-eqb r.number r.number refl)) in
        absurd (omega (arith, more, named, same, ap (λ (z : Seat). z.number) one))

    stays : IsOverAt m r → IsOverAt new r
    stays o = record {
      task = o.task;
      there = ap (λ (v : TableView). slot_of v.slots r.slot) is
          ∙ (at_set m.slots slot r.slot None None (slot_within m.slots slot x there)
          ∙ (ap (λ b. cond b None (slot_of m.slots r.slot)) (apart_eqb slot r.slot (apart o.task o.there o.named)) ∙ o.there));
      named = o.named;
      over = o.over;
    }

pub over_rest : (m new : TableView) (task : TaskRef) (tasks : List TaskRef) → new ≡ emptied m task.slot → AreOver m (task ∷ tasks) → AreOver new tasks
over_rest m new task tasks is a =
    let first = All-head (IsOverAt m) task tasks a.over in
    record {
      over = over_later m new task.slot task.number first.task tasks first.there first.named is a.ascending.0 (All-tail (IsOverAt m) task tasks a.over);
      ascending = a.ascending.1;
    }

-- its slot is empty, and those that were empty are
pub gone_more : (m new : TableView) (slot i : ℕ) (x : Seat) → slot_of m.slots slot ≡ Some x → new ≡ emptied m slot → (slot ≡ i) ⊎ (slot_of m.slots i ≡ None) → slot_of new.slots i ≡ None
gone_more m new slot i x there is which = ap (λ (v : TableView). slot_of v.slots i) is ∙ (at_set m.slots slot i None None (slot_within m.slots slot x there) ∙ none which)
  where
    none : (slot ≡ i) ⊎ (slot_of m.slots i ≡ None) → cond (slot == i) None (slot_of m.slots i) ≡ None
    none (inl here) = ap (λ b. cond b None (slot_of m.slots i)) (eq-eqb slot i here)
    none (inr empty) = by (slot == i)
      where
        by : (b : Bool) → cond b None (slot_of m.slots i) ≡ None
        by true = refl
        by false = empty

pub gone_rest : (m new : TableView) (tasks : List TaskRef) (i : ℕ) (d : TaskRef) (rest : List TaskRef) → i < length tasks → AreOver m (get_or tasks i d ∷ rest) → new ≡ emptied m (get_or tasks i d).slot → All (IsEmptyAt m) (take i tasks) → All (IsEmptyAt new) (take (i + 1) tasks)
gone_rest m new tasks i d rest low a is gone =
    let task = get_or tasks i d in
    let first = over_first m task rest a in
    All-more (IsEmptyAt new) tasks i d low (All-weaker (IsEmptyAt m) (IsEmptyAt new) (λ r none. gone_more m new task.slot r.slot first.0 first.1 is (inr none)) (take i tasks) gone) (gone_more m new task.slot task.slot first.0 first.1 is (inl refl))

-- ---- a sweep

-- the numbers in the slots stay
pub sweep_numbers : (m new : TableView) (ends : List TaskRef) → SweepEnds m new ends → held_numbers new.slots ≡ held_numbers m.slots
sweep_numbers m new ends s = ap (λ (v : TableView). held_numbers v.slots) s.is ∙ held_mapped (λ x. swept m.stopped m.policies m.moment x) m.slots (λ x. refl)

-- the slots are noted as before
pub noted_swept : (m new : TableView) (ends : List TaskRef) (count : ℕ) (free : List ℕ) (entries : List TaskRef) (slot_room ended_room more_ended : ℕ) → SweepEnds m new ends → more_ended ≡ ended_room → AreNoted m.slots count free entries slot_room ended_room →
    AreNoted new.slots count free entries slot_room more_ended
noted_swept m new ends count free entries slot_room ended_room more_ended s room noted =
    subst (AreNoted new.slots count free entries slot_room) (sym room)
    (noted_still m.slots new.slots count free entries slot_room ended_room (sweep_numbers m new ends s) noted)

-- where a table shows what a call led to, one shows it that stands where that one stands
takes_still : (swept new : TableView) (calls : List Planned) (past : List HistoryEntry) (p : Planned) (r : Reply) → IsOrderlyFrom 0 0 calls → IsHistoryOf calls (workers_of swept) past → IsNextCall calls past p → workers_of new ≡ workers_of swept →
    ((calls : List Planned) (past : List HistoryEntry) → Stands swept calls past → Stands new calls past) → Takes swept calls past h.Call r → Takes new calls past h.Call r
takes_still swept new calls past p r orderly means next width still takes =
    let longer : Stands swept calls (entry_of h.Call r ∷ past) = record {
      orderly = orderly;
      means = (means, slice_get_within calls (made (happenings past)) p next, sym (ap (λ (q : Reply). q.answer) takes.said), sym (ap (λ (q : Reply). q.ends) takes.said));
      shows = takes.shows;
    }
    in
    record {
      said = ap (λ (n : ℕ). answer calls n past h.Call) width ∙ takes.said;
      shows = (still calls (entry_of h.Call r ∷ past) longer).shows;
    }

-- a call that sweeps: kept tasks were dropped before it, it takes its step, and the tasks that it ended have left their slots
pub sweep_steps : (old mid swept new : TableView) (p : Planned) (r : Reply) → workers_of swept ≡ workers_of old → workers_of new ≡ workers_of swept →
    ((calls : List Planned) (past : List HistoryEntry) → IsNextCall calls past p → StandsBefore old calls past h.Call → StandsBefore mid calls past h.Call) → CallStepsBefore mid swept p r →
    ((calls : List Planned) (past : List HistoryEntry) → Stands swept calls past → Stands new calls past) → CallSteps old new p r
sweep_steps old mid swept new p r width same drops steps still calls past st next =
    takes_still swept new calls past p r st.orderly (subst (λ n. IsHistoryOf calls n past) (sym width) st.means) next same still
    (steps calls past (drops calls past next (stands_before old calls past h.Call st)) next)
