-- A purge of an executor, by the step of its table.
use Rattle.std.proofs.Common.{◌≡◌, ℕ, true, false, List, [], Option, Some, None, refl, sym, ap, ◌∙◌}
use Rattle.std.proofs.lemmas.Option.{none-some}
use Rattle.executor_model.specs.declared.types.Happening.TheVariants as h
use Rattle.executor_model.specs.declared.types.Answer.TheVariants as a
use Rattle.executor_model.specs.Answers.{bare}
use Rattle.task_table.specs.declared.seat.Seat.{Seat}
use Rattle.task_table.specs.declared.seat.TaskRef.{TaskRef}
use Rattle.task_table.specs.Seats.{slot_of}
use Rattle.task_table.specs.Tables.{TableView, workers_of, EventStepsBefore}
use Rattle.task_table.proofs.Starts.{stands_before}
use Rattle.live_core.specs.Lives.{LiveView}
use Rattle.live_core.specs.Purges.{Purges}
use Rattle.live_core.proofs.Alive.{LeavesThere}
use Rattle.live_core.proofs.Swept.{StaysUnkept}
use Rattle.live_core.proofs.Occurring.{happens_there}

-- what is left in no slot was in none
stays_empty : (old new : TableView) → LeavesThere old new → (i : ℕ) → slot_of old.slots i ≡ None → slot_of new.slots i ≡ None
stays_empty old new leaves i none = by (slot_of new.slots i) refl
  where
    by : (o : Option Seat) → slot_of new.slots i ≡ o → o ≡ None
    by None q = refl
    by (Some x) q = absurd (none-some x (sym none ∙ leaves i x q))

pub purges_there : (m : LiveView) (table : TableView) (ended : List TaskRef) → ended ≡ [] → table ≡ record m.table { slots = table.slots } → LeavesThere m.table table → StaysUnkept m.table table →
    ((i : ℕ) (x : Seat) → slot_of m.table.slots i ≡ Some x → x.kept ≡ true → slot_of table.slots i ≡ None) → EventStepsBefore m.table table h.Purge (bare a.Purge) → Purges m (record m { table = table; ended = ended })
purges_there m table ended none rest leaves others gone steps = record {
  happens = happens_there m table ended h.Purge (bare a.Purge) refl refl tt none (ap workers_of rest) (λ calls past st. steps calls past (stands_before m.table calls past h.Purge st));
  rest = λ i. record m { table = rest i; ended = none i };
  gone = gone;
  others = others;
  empty = stays_empty m.table table leaves;
}
