use Rattle.std.proofs.Common.{sym}
use Rattle.std.proofs.lemmas.Result.{err_from_is_err_and}
use Rattle.toml.specs.View.{table_view}
use Rattle.plan_read.specs.Keys.{top_keys}
use Rattle.plan_read.proofs.KeyTable.{keys_hold, top_halts}
use Rattle.plan_read.proofs.PlainKeys.{top_plain}
use Rattle.plan_read.proofs.headers.read_top.Goals as goal

pub returns-in_err-check-clause-top : goal.returns-in_err-check-clause-top
returns-in_err-check-clause-top g c =
    let q = err_from_is_err_and c.from_residual-in_err-check.result c.from_residual-in_err-check.ensures.1 in
    let known = sym (rw c.new-row.ensures.table at (rw c.in-Some.is at c.read_version.ensures)) in
    let halts = top_halts c.in_err-check.field-0.0 c.top-place.result c.in-Some.version (table_view c.args.table.now) known (rw c.new-row.ensures.table at c.in_err-check.ensures) in
    rw (q.1, q.2) (rw c.top-place.ensures at halts)

pub returns-clause-plain : goal.returns-clause-plain
returns-clause-plain g c = λ items.
    let keys = keys_hold c.top-place.result top_keys (table_view c.args.table.now) (rw c.new-row.ensures.table at c.in_ok-check.ensures.0) in
    top_plain c.args.table.now.entries c.new-row.ensures.ordered keys.only keys.typed (rw (c.tables-tables.ensures.items, c.new-row.ensures.table) at items)
