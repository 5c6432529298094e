use Rattle.std.proofs.Common.{arith, ◌∙◌}
use Rattle.executor_core.proofs.plan_table.Entries.{keys_none, entries_room}
use Rattle.executor_core.proofs.plan_table.Numbered.{none_held, slots_count, slots_empty}
use Rattle.executor_core.proofs.plan_table.table.plan_table.Goals as goal

pub with-requires-clause-empty : goal.with-requires-clause-empty
with-requires-clause-empty g c = λ i. none_held c.in_ok-slots.slots c.args.tasks i c.in_ok-slots.ensures

pub with-requires-clause-count : goal.with-requires-clause-count
with-requires-clause-count g c = omega (arith, c.ranges.tasks.fits, slots_count c.in_ok-slots.slots c.args.tasks c.in_ok-slots.ensures)

pub with-requires-clause-queue : goal.with-requires-clause-queue
with-requires-clause-queue g c =
    let entries = c.in_ok-queue.queue.entries.entries in
    (λ i. keys_none entries c.args.tasks i c.in_ok-queue.ensures, omega (arith, slots_count c.in_ok-slots.slots c.args.tasks c.in_ok-slots.ensures, entries_room entries c.args.tasks c.in_ok-queue.ensures))

pub with-requires-clause-kept : goal.with-requires-clause-kept
with-requires-clause-kept g c =
    let entries = c.in_ok-kept.kept.entries.entries in
    (λ i. keys_none entries c.args.tasks i c.in_ok-kept.ensures, omega (arith, slots_count c.in_ok-slots.slots c.args.tasks c.in_ok-slots.ensures, entries_room entries c.args.tasks c.in_ok-kept.ensures))

pub returns-clause-slots : goal.returns-clause-slots
returns-clause-slots g c = c.with.ensures.slots ∙ slots_empty c.in_ok-slots.slots c.args.tasks c.in_ok-slots.ensures
