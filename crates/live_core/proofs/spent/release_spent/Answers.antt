-- No other slot has its number.
use Rattle.std.proofs.Common.{Some, sym, subst, ◌∙◌}
use Rattle.task_table.specs.Tables.{TableView}
use Rattle.live_core.specs.Cancels.{IsHeldAlive}
use Rattle.live_core.proofs.Alive.{alive_released, alive_all, spent_not}
use Rattle.live_core.proofs.Seated.{over_emptied, still_alive}
use Rattle.live_core.proofs.spent.release_spent.Goals as goal

pub returns-then-spent-clause-alive : goal.returns-then-spent-clause-alive
returns-then-spent-clause-alive g c = λ number own.
    subst (λ (t : TableView). IsHeldAlive t number) (sym c.release.ensures.slots) (over_emptied c.args.table.now c.args.notes.now.entries c.requires.0 c.args.slot number c.requires.2.index own)

pub returns-else-spent-clause-alive : goal.returns-else-spent-clause-alive
returns-else-spent-clause-alive g c = λ number own.
    still_alive c.args.table.now c.args.notes.now.entries c.requires.0 c.args.slot number c.in-Some.seat c.requires.2.index (sym c.seat.ensures ∙ c.in-Some.is) (sym c.is_spent-spent.ensures ∙ c.if-spent.false) own

pub returns-then-spent-clause-all : goal.returns-then-spent-clause-all
returns-then-spent-clause-all g c = alive_released c.args.table.now c.release.new.table c.args.slot c.release.ensures.slots

pub returns-else-spent-clause-all : goal.returns-else-spent-clause-all
returns-else-spent-clause-all g c =
    alive_all c.args.table.now.slots c.args.slot (Some c.in-Some.seat) (sym c.seat.ensures ∙ c.in-Some.is)
    (spent_not c.in-Some.seat (sym c.is_spent-spent.ensures ∙ c.if-spent.false))
