use Rattle.toml.specs.View.{table_view}
use Rattle.plan_read.proofs.Passing.{Passing}
use Rattle.plan_read.proofs.keys.pass.Given as goal

abbrev pub invariant-loop-key : goal.invariant-loop-key
invariant-loop-key l = Passing (table_view l.row.table.now) l.there l.keys l.key-index
