use Rattle.std.proofs.Common.{◌≡◌, ◌≤◌, true, [], take, drop, length}
use Rattle.toml.specs.View.{items_view}
use Rattle.plan_read.specs.own.Walk.{calls_fault}
use Rattle.plan_read.specs.Plans.{tasks_after_calls, submissions_before}
use Rattle.plan_read.specs.own.Plain.{items_are_plain}
use Rattle.plan_read.specs.own.Reads.{Knows}
use Rattle.plan_read.specs.own.Values.{tables_in, calls_through}
use Rattle.plan_read.proofs.reading.read_calls.Given as goal

abbrev pub invariant-loop-value : goal.invariant-loop-value
invariant-loop-value g l = record {
  count : length l.calls.items ≡ l.value-index;
  small : l.sub ≤ l.value-index;
  sub : l.sub ≡ tasks_after_calls 0 l.calls.items;
  names : Knows l.names (submissions_before l.earlier l.header l.calls.items);
  plain : items_are_plain 1 (items_view (take l.value-index l.tables)) ≡ true;
  fault : calls_fault l.lists.version l.earlier l.header l.calls.items (tables_in (items_view (drop l.value-index l.tables))) ≡ calls_fault l.lists.version l.earlier l.header [] (tables_in (items_view l.tables));
  calls : calls_through l.lists.version l.earlier l.header l.calls.items (tables_in (items_view (drop l.value-index l.tables))) ≡ calls_through l.lists.version l.earlier l.header [] (tables_in (items_view l.tables));
}
