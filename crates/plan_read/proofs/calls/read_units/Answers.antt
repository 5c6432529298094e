use Rattle.std.proofs.lemmas.Result.{err_from_is_err_and}
use Rattle.toml.specs.View.{table_view}
use Rattle.plan_read.proofs.KeyTable.{call_halts, call_goes_on}
use Rattle.plan_read.proofs.calls.read_units.Goals as goal

pub returns-in_err-check : goal.returns-in_err-check
returns-in_err-check g c =
    let q = err_from_is_err_and c.from_residual.result c.from_residual.ensures.1 in
    rw (q.1, q.2) (call_halts c.in_err-check.field-0.0 c.args.place c.args.lists.now.version c.args.verb (table_view c.args.row.now.table.now) c.in_err-check.ensures)

pub returns-in-Two : goal.returns-in-Two
returns-in-Two g c =
    rw (call_goes_on c.args.place c.args.lists.now.version c.args.verb (table_view c.args.row.now.table.now) c.in_ok-check.ensures.0, c.in-Two.is) c.read.ensures
