-- The index of the notes is one of the same slots.
use Rattle.std.proofs.Common.{sym, subst}
use Rattle.live_core.specs.Empties.{held_numbers}
use Rattle.live_core.specs.own.Slots.{IsIndex, NotesView}
use Rattle.live_core.proofs.notes.Notes.images.Goals as goal

pub images-requires : goal.images-requires
images-requires g c = (c.requires.0, subst (λ (v : NotesView). IsIndex (held_numbers c.args.table.now.slots) v.entries c.requires.0) (sym c.self.view_is) c.requires.1)
