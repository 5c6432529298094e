-- The index tells the slot, where its entry is not stale.
use Rattle.std.proofs.Common.{sym, ◌∙◌}
use Rattle.live_core.proofs.Seated.{held_there, gone_without, gone_stale}
use Rattle.live_core.proofs.finding.slot_of_number.Goals as goal

pub returns-in_default : goal.returns-in_default
returns-in_default g c = gone_without c.args.table.now.slots c.args.notes.now.entries c.requires.0 c.args.number c.requires.1 c.in_default.ensures.none

pub returns-then-holds : goal.returns-then-holds
returns-then-holds g c = held_there c.args.table.now.slots (record { number = c.args.number; slot = c.in-Some.slot }) (sym c.holds.ensures ∙ c.if-holds.true)

pub returns : goal.returns
returns g c = gone_stale c.args.table.now.slots c.args.notes.now.entries c.requires.0 c.args.number c.in-Some.slot c.requires.1 c.in-Some.ensures.found (sym c.holds.ensures ∙ c.if-holds.false)
