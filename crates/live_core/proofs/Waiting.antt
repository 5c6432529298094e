-- Whether a task waits: its slot tells, where it has one, and it does not where it has none.
use Rattle.std.proofs.Common.{◌≡◌, ℕ, ◌<◌, ◌==◌, ◌&&◌, true, false, List, Option, Some, None, refl, sym, ap, ◌∙◌}
use Rattle.std.specs.Prelude.{length, slice_set}
use Rattle.std.specs.Option.{option_map_or}
use Rattle.std.proofs.lemmas.Bool.{false≢true, eqb-true, eq-eqb, and_parts}
use Rattle.executor_model.specs.Histories.{happenings}
use Rattle.executor_model.specs.State.{after}
use Rattle.task_table.specs.declared.seat.Seat.{Seat}
use Rattle.task_table.specs.declared.seat.TaskRef.{TaskRef}
use Rattle.task_table.specs.Seats.{task_in, slot_of, waits}
use Rattle.task_table.specs.Tables.{TableView, workers_of}
use Rattle.task_table.proofs.Written.{set_writes}
use Rattle.live_core.specs.Lives.{LiveView}
use Rattle.live_core.specs.Said.{TellsWaiting, is_waiting_there}
use Rattle.live_core.specs.own.Places.{IsSlotOf}
use Rattle.live_core.specs.Empties.{held_numbers}
use Rattle.live_core.specs.own.Slots.{IsIndex}
use Rattle.live_core.proofs.Held.{number_there}
use Rattle.live_core.proofs.Indexed.{one_slot}

-- a slot that holds the task of this number tells
pub waits_there : (m : LiveView) (number slot : ℕ) → IsSlotOf m.table.slots number (Some slot) → TellsWaiting m number (option_map_or (λ x. waits (task_in x)) (slot_of m.table.slots slot) false)
waits_there m number slot at calls past st =
    ap (λ (o : Option Seat). option_map_or (λ x. waits (task_in x)) o false) at.1
    ∙ (ap waits (sym (st.table.shows.held slot at.0 at.1))
    ∙ ap (λ (n : ℕ). waits ((after calls (workers_of m.table) (happenings past)).tasks n)) at.2)

-- what is told is so of a task that stands in its own slot
pub waits_told : (m : LiveView) (task : TaskRef) (slot count : ℕ) (entries : List TaskRef) → IsIndex (held_numbers m.table.slots) entries count → IsSlotOf m.table.slots task.number (Some slot) → is_waiting_there m.table task ≡ true →
    option_map_or (λ x. waits (task_in x)) (slot_of m.table.slots slot) false ≡ true
waits_told m task slot count entries index at there = by (slot_of m.table.slots task.slot) refl there
  where
    by : (o : Option Seat) → slot_of m.table.slots task.slot ≡ o → option_map_or (λ x. (x.number == task.number) && waits (task_in x)) o false ≡ true → option_map_or (λ x. waits (task_in x)) (slot_of m.table.slots slot) false ≡ true
    by None is q = absurd (false≢true q)
    by (Some x) is q =
        let parts = and_parts (x.number == task.number) (waits (task_in x)) q in
        let one : slot ≡ task.slot = one_slot (held_numbers m.table.slots) entries count slot task.slot task.number index (number_there m.table.slots slot at.0 at.1 ∙ ap Some at.2) (number_there m.table.slots task.slot x is ∙ ap Some (eqb-true x.number task.number parts.0)) in
        ap (λ i. option_map_or (λ x. waits (task_in x)) (slot_of m.table.slots i) false) one ∙ (ap (λ (o : Option Seat). option_map_or (λ x. waits (task_in x)) o false) is ∙ parts.1)

-- a task that waits comes into its slot
pub waits_put : (m new : TableView) (task : TaskRef) (y : Seat) → task.slot < length m.slots → new.slots ≡ slice_set m.slots task.slot (Some y) → y.number ≡ task.number → waits (task_in y) ≡ true → is_waiting_there new task ≡ true
waits_put m new task y low is own live =
    ap (λ (o : Option Seat). option_map_or (λ x. (x.number == task.number) && waits (task_in x)) o false)
    (ap (λ (slots : List (Option Seat)). slot_of slots task.slot) is ∙ (set_writes m.slots task.slot y low).here)
    ∙ (λ i. eq-eqb y.number task.number own i && live i)
