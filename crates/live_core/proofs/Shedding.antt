-- Kept tasks that a start meets are dropped, and their slots emptied.
use Rattle.std.proofs.Common.{◌≡◌, ℕ, ◌+◌, ◌<◌, ◌≤◌, ◌==◌, ◌||◌, zero, suc, Bool, true, false, cond, List, [], ◌∷◌, Option, Some, None, refl, sym, ap, ◌∙◌, arith, subst}
use Rattle.std.proofs.Math.ListN.{set}
use Rattle.std.proofs.lemmas.Bool.{false≢true}
use Rattle.std.proofs.lemmas.Option.{none-some, same_Some}
use Rattle.queue_code.specs.Calls.{Planned, how_many}
use Rattle.executor_model.specs.declared.types.Happening.{Happening}
use Rattle.executor_model.specs.declared.types.Happening.TheVariants as h
use Rattle.executor_model.specs.Histories.{HistoryEntry}
use Rattle.executor_model.proofs.Tables.{at_set}
use Rattle.task_table.specs.declared.seat.Seat.{Seat}
use Rattle.task_table.specs.declared.seat.TaskRef.{TaskRef}
use Rattle.task_table.specs.Seats.{task_in, slot_of, waits, is_alive, is_running_in}
use Rattle.task_table.specs.Tables.{TableView, StandsBefore}
use Rattle.task_table.specs.Firsts.{IsFirstDue, holds_kept, kept_in}
use Rattle.task_table.specs.Runs.{IsFree, IsFull, Drops}
use Rattle.task_table.specs.Changes.{put, unkept, emptied}
use Rattle.task_table.proofs.Written.{by_eqb, set_writes, slot_within}
use Rattle.live_core.specs.Empties.{held_numbers}
use Rattle.live_core.specs.own.Formed.{AreNoted}
use Rattle.live_core.specs.own.Shed.{Sheds}
use Rattle.live_core.proofs.Held.{held_put}
use Rattle.live_core.proofs.Noted.{noted_still}

-- ---- a task is dropped, and its slot is emptied

-- another slot holds what it held
stays_shed : (m : TableView) (slot i : ℕ) (x : Seat) → slot_of m.slots slot ≡ Some x → (slot == i) ≡ false → slot_of (emptied (put m slot (unkept x)) slot).slots i ≡ slot_of m.slots i
stays_shed m slot i x there apart =
    let writes = set_writes m.slots slot (unkept x) (slot_within m.slots slot x there) in
    at_set (put m slot (unkept x)).slots slot i None None (slot_within (put m slot (unkept x)).slots slot (unkept x) writes.here)
    ∙ (ap (λ b. cond b None (slot_of (put m slot (unkept x)).slots i)) apart ∙ writes.other i apart)

-- the slot holds nothing
gone_shed : (m : TableView) (slot : ℕ) (x : Seat) → slot_of m.slots slot ≡ Some x → (i : ℕ) → slot ≡ i → slot_of (emptied (put m slot (unkept x)) slot).slots i ≡ None
gone_shed m slot x there i here = emptied_here (put m slot (unkept x)).slots slot i here
  where
    emptied_here : (slots : List (Option Seat)) (slot i : ℕ) → slot ≡ i → slot_of (set slots slot None) i ≡ None
    emptied_here [] slot i here = refl
    emptied_here (o ∷ slots) zero zero here = refl
    emptied_here (o ∷ slots) zero (suc i) here = absurd (omega (arith, here))
    emptied_here (o ∷ slots) (suc slot) zero here = absurd (omega (arith, here))
    emptied_here (o ∷ slots) (suc slot) (suc i) here = emptied_here slots slot i (omega (arith, here))

-- what is in a slot then was there before, and is another one
left_shed : (m : TableView) (slot i : ℕ) (x y : Seat) → slot_of m.slots slot ≡ Some x → slot_of (emptied (put m slot (unkept x)) slot).slots i ≡ Some y → slot_of m.slots i ≡ Some y
left_shed m slot i x y there is = by_eqb slot i
    (λ here. absurd (none-some y (sym (gone_shed m slot x there i here) ∙ is)))
    (λ apart. sym (stays_shed m slot i x there apart) ∙ is)

-- a task of which nothing comes once it is kept no more does not wait
quiet_now : (x : Seat) → is_alive (task_in (unkept x)) ≡ false → waits (task_in x) ≡ false
quiet_now x over = by (waits (task_in x)) over
  where
    by : (b : Bool) → ((b || false) || is_running_in x.phase) ≡ false → b ≡ false
    by true q = q
    by false q = refl

-- the first task that is due was so before
first_shed : (m : TableView) (slot : ℕ) (x : Seat) → slot_of m.slots slot ≡ Some x → waits (task_in x) ≡ false → (i : ℕ) (y : Seat) → IsFirstDue (emptied (put m slot (unkept x)) slot) i y → IsFirstDue m i y
first_shed m slot x there quiet i y first = record {
  there = left_shed m slot i x y there first.there;
  waiting = first.waiting;
  due = first.due;
  least = λ j z at waiting ripe. by_eqb slot j
      (λ here. absurd (false≢true (sym quiet ∙ (ap (λ (u : Seat). waits (task_in u)) (same_Some x z (sym there ∙ (ap (slot_of m.slots) here ∙ at))) ∙ waiting))))
      (λ apart. first.least j z (stays_shed m slot j x there apart ∙ at) waiting ripe);
}

full_shed : (m : TableView) (slot : ℕ) (x : Seat) → slot_of m.slots slot ≡ Some x → waits (task_in x) ≡ false → IsFull (emptied (put m slot (unkept x)) slot) → IsFull m
full_shed m slot x there quiet full = record { slot = full.slot; task = full.task; first = first_shed m slot x there quiet full.slot full.task full.first; last = full.last }

-- no more tasks are kept once a slot is emptied
no_more_kept : (slots : List (Option Seat)) (slot : ℕ) → how_many holds_kept (set slots slot None) ≤ how_many holds_kept slots
no_more_kept [] slot = omega arith
no_more_kept (y ∷ slots) zero = by (holds_kept y)
  where
    by : (b : Bool) → how_many holds_kept slots ≤ cond b (1 + how_many holds_kept slots) (how_many holds_kept slots)
    by true = omega arith
    by false = omega arith
no_more_kept (y ∷ slots) (suc slot) = by (holds_kept y) (no_more_kept slots slot)
  where
    by : (b : Bool) → how_many holds_kept (set slots slot None) ≤ how_many holds_kept slots →
        cond b (1 + how_many holds_kept (set slots slot None)) (how_many holds_kept (set slots slot None)) ≤ cond b (1 + how_many holds_kept slots) (how_many holds_kept slots)
    by true rest = omega (arith, rest)
    by false rest = rest

-- ---- what the loop of them leaves

pub sheds_none : (m : TableView) → Sheds m m
sheds_none m = record { rest = refl; full = λ q. q; before = λ worker free calls past before. before }

-- a worker without work has none then either
pub free_shed : (old new : TableView) (worker : ℕ) → Sheds old new → IsFree old worker → IsFree new worker
free_shed old new worker sheds free =
    let same : new.work ≡ old.work = ap (λ (m : TableView). m.work) sheds.rest in
    subst (λ (w : List (Option ℕ)). IsFree (record new { work = w }) worker) (sym same) free

-- one task more is dropped, and its slot is emptied
pub sheds_more : (old m mid new : TableView) (slot : ℕ) → Sheds old m → (drops : Drops m mid slot) → new ≡ emptied mid slot →
    ((worker : ℕ) → IsFree m worker → (calls : List Planned) (past : List HistoryEntry) → StandsBefore m calls past (h.Start worker) → StandsBefore mid calls past (h.Start worker)) →
    ((calls : List Planned) (past : List HistoryEntry) (y : Happening) → StandsBefore mid calls past y → StandsBefore new calls past y) → Sheds old new
sheds_more old m mid new slot sheds drops is steps stands =
    let whole : new ≡ emptied (put m slot (unkept drops.task)) slot = is ∙ ap (λ (v : TableView). emptied v slot) drops.is in
    record {
      rest = rest_of m new (emptied (put m slot (unkept drops.task)) slot) whole sheds.rest refl;
      full = λ full. sheds.full (full_shed m slot drops.task drops.there (quiet_now drops.task drops.over) (subst IsFull whole full));
      before = λ worker free calls past before. stands calls past (h.Start worker) (steps worker (free_shed old m worker sheds free) calls past (sheds.before worker free calls past before));
    }
  where
    rest_of : (m new last : TableView) → new ≡ last → m ≡ record old { slots = m.slots } → last ≡ record m { slots = last.slots } → new ≡ record old { slots = new.slots }
    rest_of m new last same before after =
        same ∙ (after ∙ (ap (λ (v : TableView). record v { slots = last.slots }) before ∙ ap (λ (l : List (Option Seat)). record old { slots = l }) (sym (ap (λ (v : TableView). v.slots) same))))

-- fewer tasks are kept
pub fewer_shed : (m mid new : TableView) (slot : ℕ) → Drops m mid slot → new ≡ emptied mid slot → kept_in new.slots < kept_in m.slots
fewer_shed m mid new slot drops is =
    let less = no_more_kept mid.slots slot in
    let same : kept_in new.slots ≡ kept_in (emptied mid slot).slots = ap (λ (v : TableView). kept_in v.slots) is in
    omega (arith, less, same, drops.fewer)

-- the task that is dropped is over
pub over_dropped : (m mid : TableView) (slot : ℕ) → Drops m mid slot → (x : Seat) × (slot_of mid.slots slot ≡ Some x) × (is_alive (task_in x) ≡ false)
over_dropped m mid slot drops =
    let writes = set_writes m.slots slot (unkept drops.task) (slot_within m.slots slot drops.task drops.there) in
    (unkept drops.task, ap (λ (v : TableView). slot_of v.slots slot) drops.is ∙ writes.here, drops.over)

-- what is noted stays so, once it is dropped
pub noted_dropped : (m mid : TableView) (slot count : ℕ) (free : List ℕ) (entries : List TaskRef) (slot_room ended_room : ℕ) → Drops m mid slot → AreNoted m.slots count free entries slot_room ended_room → AreNoted mid.slots count free entries slot_room ended_room
noted_dropped m mid slot count free entries slot_room ended_room drops noted =
    noted_still m.slots mid.slots count free entries slot_room ended_room
    (ap (λ (v : TableView). held_numbers v.slots) drops.is ∙ held_put m.slots slot drops.task (unkept drops.task) drops.there refl) noted
