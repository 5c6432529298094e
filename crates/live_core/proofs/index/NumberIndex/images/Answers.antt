-- The entries that are looked at are those of the index.
use Rattle.std.proofs.Common.{List, length, sym, ap, subst, ◌∙◌}
use Rattle.task_table.specs.declared.seat.TaskRef.{TaskRef}
use Rattle.live_core.specs.Empties.{held_numbers}
use Rattle.live_core.specs.own.Slots.{IsIndex, IndexView, entries_of}
use Rattle.live_core.proofs.index.NumberIndex.images.Goals as goal

pub images_of-requires-clause-pairs : goal.images_of-requires-clause-pairs
images_of-requires-clause-pairs g c = ap length c.deref.ensures.value ∙ (c.self.invariant.size ∙ ap length (sym c.deref-2.ensures.value))

pub images_of-requires-clause-index : goal.images_of-requires-clause-index
images_of-requires-clause-index g c = (
  c.requires.0,
  subst (λ (es : List TaskRef). IsIndex (held_numbers c.args.table.now.slots) es c.requires.0)
      (sym (ap (λ (v : IndexView). v.entries) c.self.view_is) ∙ (λ i. entries_of (sym c.deref.ensures.value i) (sym c.deref-2.ensures.value i))) c.requires.1,
)
