use Rattle.std.proofs.Common.{◌∙◌, sym}
use Rattle.worker_pool.proofs.Settling.{told_so}
use Rattle.worker_pool.proofs.results.settle.Goals as goal

pub set_cell-requires-clause-below : goal.set_cell-requires-clause-below
set_cell-requires-clause-below g c =
    let verdict = c.in-Some.verdict in
    let told = told_so c.args.answer verdict (sym c.verdict_of.ensures ∙ c.in-Some.is) in
    c.requires.below verdict.task verdict.ending told.0 told.1 told.2
