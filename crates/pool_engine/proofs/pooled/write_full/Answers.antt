use Rattle.std.proofs.Common.{subst, arith}
use Rattle.std.specs.Prelude.{All}
use Rattle.std.proofs.lemmas.Bool.{not-false}
use Rattle.pool_engine.specs.PoolRuns.{IsByPool}
use Rattle.pool_engine.proofs.Runs.{book_fits, cut_full, filled_by, wrote_full}
use Rattle.pool_engine.proofs.pooled.write_full.Goals as goal

pub returns-then-not-write_lines-clause-wrote : goal.returns-then-not-write_lines-clause-wrote
returns-then-not-write_lines-clause-wrote g c =
    let told = c.look_back-told.ensures in
    let by = subst (λ n. All (IsByPool n) c.happenings.result.now) c.workers.ensures (told.by.0 (not-false _ c.if-not-told-2.false)) in
    let filled = filled_by c.args.book.now c.happenings.result.now c.args.asked.now.limit c.args.asked.now.moments.now c.happenings.ensures.items (told.first.0 (not-false _ c.if-not-told.false)) by (omega (arith, c.if-told-asked.false, told.events)) in
    cut_full g.N.Named.cells c.args.book.now g.N.Named.calls g.N.Named.workers _ c.args.asked.now.moments.now _ _ _ c.lines.ensures.book (book_fits c.args.book.now c.happenings.result.now c.happenings.ensures.items told.fit told.short) (c.lines.ensures.named.0, c.lines.ensures.named.1)
    filled c.lines.ensures.items c.if-not-write_lines.ensures.text

pub returns-clause-wrote : goal.returns-clause-wrote
returns-clause-wrote g c =
    let told = c.look_back-told.ensures in
    let by = subst (λ n. All (IsByPool n) c.happenings.result.now) c.workers.ensures (told.by.0 (not-false _ c.if-not-told-2.false)) in
    let filled = filled_by c.args.book.now c.happenings.result.now c.args.asked.now.limit c.args.asked.now.moments.now c.happenings.ensures.items (told.first.0 (not-false _ c.if-not-told.false)) by (omega (arith, c.if-told-asked.false, told.events)) in
    wrote_full g.N.Named.cells c.args.book.now g.N.Named.calls g.N.Named.workers _ c.args.asked.now.moments.now _ _ _ c.lines.ensures.book (book_fits c.args.book.now c.happenings.result.now c.happenings.ensures.items told.fit told.short) (c.lines.ensures.named.0, c.lines.ensures.named.1)
    filled c.lines.ensures.items c.if-not-write_lines.ensures.text
