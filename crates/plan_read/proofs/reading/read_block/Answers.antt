use Rattle.std.proofs.Common.{length}
use Rattle.toml.specs.View.{table_view}
use Rattle.plan_read.specs.own.Walk.{header_place}
use Rattle.plan_read.proofs.Accepted.{passed}
use Rattle.plan_read.proofs.Naming.{knows-block}
use Rattle.plan_read.proofs.reading.read_block.Goals as goal

pub read_calls-requires-clause-times : goal.read_calls-requires-clause-times
read_calls-requires-clause-times g c = rw c.in_ok-head.ensures.header.1 (passed (header_place (length c.args.earlier.now)) c.args.lists.now.version c.args.end c.args.made (table_view c.args.table.now) c.in_ok-head.ensures.header.0).times

pub read_calls-requires-clause-tables : goal.read_calls-requires-clause-tables
read_calls-requires-clause-tables g c = c.in_ok-head.ensures.each (passed (header_place (length c.args.earlier.now)) c.args.lists.now.version c.args.end c.args.made (table_view c.args.table.now) c.in_ok-head.ensures.header.0).tables

pub read_calls-requires-clause-few : goal.read_calls-requires-clause-few
read_calls-requires-clause-few g c = rw c.in_ok-head.ensures.count (passed (header_place (length c.args.earlier.now)) c.args.lists.now.version c.args.end c.args.made (table_view c.args.table.now) c.in_ok-head.ensures.header.0).few

pub returns-clause-names : goal.returns-clause-names
returns-clause-names g c = rw c.new.ensures (knows-block c.read_calls.new.names c.args.earlier.now c.in_ok-head.head.header c.in_ok-calls.calls.items c.in_ok-calls.ensures.names)

pub returns-clause-times : goal.returns-clause-times
returns-clause-times g c = rw (c.new.ensures, c.in_ok-head.ensures.header.1) (passed (header_place (length c.args.earlier.now)) c.args.lists.now.version c.args.end c.args.made (table_view c.args.table.now) c.in_ok-head.ensures.header.0).times

pub returns-clause-few : goal.returns-clause-few
returns-clause-few g c = rw (c.new.ensures, c.in_ok-head.ensures.header.1, c.in_ok-calls.ensures.count, c.in_ok-head.ensures.count) (passed (header_place (length c.args.earlier.now)) c.args.lists.now.version c.args.end c.args.made (table_view c.args.table.now) c.in_ok-head.ensures.header.0).fits_plan
