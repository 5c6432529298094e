use Rattle.toml.specs.View.{table_view}
use Rattle.std.proofs.Common.{◌≡◌, None, sym, subst}
use Rattle.plan_read.specs.own.Walk.{top, tree_fault}
use Rattle.plan_read.specs.Plans.{PlanTree}
use Rattle.plan_read.specs.own.Values.{plan_of}
use Rattle.plan_read.specs.Writes.{TreeWrites}
use Rattle.plan_read.proofs.TreeLaw.{tree_written}
use Rattle.plan_read.proofs.Accepted.{top_passed}
use Rattle.plan_read.proofs.reading.read_tree.Goals as goal

pub read_blocks-requires-clause-tables : goal.read_blocks-requires-clause-tables
read_blocks-requires-clause-tables g c = c.in_ok-top.ensures.each (top_passed top (table_view c.args.table.now) c.in_ok-top.ensures.top.0).tables

pub read_blocks-requires-clause-few : goal.read_blocks-requires-clause-few
read_blocks-requires-clause-few g c = rw c.in_ok-top.ensures.count (top_passed top (table_view c.args.table.now) c.in_ok-top.ensures.top.0).few

pub new-requires : goal.new-requires
new-requires g c =
    let ms = table_view c.args.table.now in
    let version = c.in_ok-top.ensures.top.1 in
    let tables = c.in_ok-top.ensures.tables in
    let none : tree_fault ms ≡ None = rw c.in_ok-top.ensures.top.0 (rw (version, tables) at c.in_ok-blocks.ensures.blocks.0) in
    let is : plan_of ms ≡ c.in_ok-blocks.blocks.items = rw (← version, ← tables) (sym c.in_ok-blocks.ensures.blocks.1) in
    (ms, subst (λ (bs : PlanTree). TreeWrites ms bs) is (tree_written ms none))
