-- The index of the notes is one of the same slots.
use Rattle.std.proofs.Common.{List, sym, subst, ap}
use Rattle.task_table.specs.declared.seat.TaskRef.{TaskRef}
use Rattle.live_core.specs.Empties.{held_numbers}
use Rattle.live_core.specs.own.Slots.{IsIndex, IndexView, NotesView}
use Rattle.live_core.proofs.Filtered.{indexed_filtered}
use Rattle.live_core.proofs.notes.Notes.tidy_index.Goals as goal

pub returns-then-is_full-clause-index : goal.returns-then-is_full-clause-index
returns-then-is_full-clause-index g c =
    let held = held_numbers c.args.table.now.slots in
    λ count index. subst (λ (l : List TaskRef). IsIndex held l count) (sym (ap (λ (v : IndexView). v.entries) c.compact.ensures.left))
    (indexed_filtered held c.self.inside.index.entries count (subst (λ (v : NotesView). IsIndex held v.entries count) (sym c.self.view_is) index))
