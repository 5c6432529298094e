use Rattle.std.proofs.Common.{◌≡◌, ◌+◌, ◌-◌, ◌≤◌, length}
use Rattle.toml.specs.View.{items_view}
use Rattle.plan_read.specs.Plans.{most_calls}
use Rattle.plan_read.proofs.MigratingTables.{joined}
use Rattle.call_journal.specs.Plans.{block_items}
use Rattle.call_journal.proofs.blocks.block_values.Given as goal

abbrev pub invariant-loop-block : goal.invariant-loop-block
invariant-loop-block l = record {
  few : l.task + length l.rest ≤ most_calls;
  kept : joined (items_view l.values.items) (block_items (l.count - l._block) l.begin l.task l.rest) ≡ block_items l.count 0 0 l.calls;
}
