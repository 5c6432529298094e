use Rattle.std.proofs.Common.{◌≡◌, ◌+◌, ◌≤◌, drop}
use Rattle.toml.specs.View.{items_view}
use Rattle.plan_read.proofs.MigratingTables.{joined}
use Rattle.call_journal.specs.Plans.{call_items}
use Rattle.call_journal.proofs.calls.call_values.Given as goal

abbrev pub invariant-loop-made : goal.invariant-loop-made
invariant-loop-made l = record {
  few : l.task ≤ l.first + l.made-index;
  kept : joined (items_view l.values.items) (call_items l.begin l.task (drop l.made-index l.calls)) ≡ call_items l.begin l.first l.calls;
}
