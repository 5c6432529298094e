use Rattle.std.proofs.Common.{◌≡◌, ◌≤◌, true, [], take, drop, length}
use Rattle.toml.specs.View.{items_view}
use Rattle.plan_read.specs.own.Walk.{blocks_fault}
use Rattle.plan_read.specs.Plans.{submissions_from, end_of, made_by}
use Rattle.plan_read.specs.own.Plain.{items_are_plain}
use Rattle.plan_read.specs.own.Reads.{Knows}
use Rattle.plan_read.specs.own.Values.{tables_in, blocks_through}
use Rattle.plan_read.proofs.reading.read_blocks.Given as goal

abbrev pub invariant-loop-value : goal.invariant-loop-value
invariant-loop-value g l = record {
  count : length l.blocks.items ≡ l.value-index;
  end : l.end ≡ end_of l.blocks.items;
  made : l.made ≡ made_by l.blocks.items;
  few : l.made ≤ 65536;
  names : Knows l.names (submissions_from 0 l.blocks.items);
  plain : items_are_plain 3 (items_view (take l.value-index l.tables)) ≡ true;
  fault : blocks_fault l.lists.version l.blocks.items (tables_in (items_view (drop l.value-index l.tables))) ≡ blocks_fault l.lists.version [] (tables_in (items_view l.tables));
  blocks : blocks_through l.lists.version l.blocks.items (tables_in (items_view (drop l.value-index l.tables))) ≡ blocks_through l.lists.version [] (tables_in (items_view l.tables));
}
