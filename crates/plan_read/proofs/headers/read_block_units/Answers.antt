use Rattle.std.proofs.lemmas.Result.{err_from_is_err_and}
use Rattle.toml.specs.View.{table_view}
use Rattle.plan_read.proofs.KeyTable.{header_halts, header_goes_on}
use Rattle.plan_read.proofs.headers.read_block_units.Goals as goal

pub returns-in_err-check : goal.returns-in_err-check
returns-in_err-check g c =
    let q = err_from_is_err_and c.from_residual.result c.from_residual.ensures.1 in
    rw (q.1, q.2) (header_halts c.in_err-check.field-0.0 c.args.place c.args.lists.now.version (table_view c.args.row.now.table.now) c.in_err-check.ensures)

pub returns-in_err-read-in-Two : goal.returns-in_err-read-in-Two
returns-in_err-read-in-Two g c =
    let q = err_from_is_err_and c.from_residual-in_err-read-in-Two.result c.from_residual-in_err-read-in-Two.ensures.1 in
    rw (q.1, q.2, header_goes_on c.args.place c.args.lists.now.version (table_view c.args.row.now.table.now) c.in_ok-check.ensures.0, c.in-Two.is) c.in_err-read-in-Two.ensures
