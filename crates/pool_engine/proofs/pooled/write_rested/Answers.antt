use Rattle.std.proofs.Common.{refl, ap, ◌∙◌, subst, arith}
use Rattle.std.specs.Prelude.{All}
use Rattle.std.proofs.lemmas.Bool.{false≢true, not-false}
use Rattle.pool_engine.specs.PoolRuns.{IsByPool, event_count}
use Rattle.pool_engine.proofs.Runs.{at_rest_by, book_fits, cut_rested, wrote_rested}
use Rattle.pool_engine.proofs.pooled.write_rested.Goals as goal

pub returns-then-not-write_lines-clause-wrote : goal.returns-then-not-write_lines-clause-wrote
returns-then-not-write_lines-clause-wrote g c =
    let told = c.look_back-told.ensures in
    let happened = c.happenings.ensures.items in
    let by = subst (λ n. All (IsByPool n) c.happenings.result.now) c.workers.ensures (told.by.0 (not-false _ c.if-not-told-2.false)) in
    let at_rest = at_rest_by c.args.book.now c.happenings.result.now c.args.asked.now.moments.now happened (told.shows.0 (not-false _ c.if-not-told.false)) by (λ due. false≢true (c.if-ripe.ensures.ripe.1 due)) (c.if-not-is_idle.ensures.0 refl) in
    cut_rested g.N.Named.cells c.args.book.now g.N.Named.calls g.N.Named.workers _ _ _ _ _ _ c.lines-lines.ensures.book (book_fits c.args.book.now c.happenings.result.now happened told.fit told.short) (c.lines-lines.ensures.named.0, c.lines-lines.ensures.named.1) at_rest
    (told.events ∙ ap event_count happened) (omega (arith, c.if-told-asked.false)) c.lines-lines.ensures.items c.if-not-write_lines.ensures.text

pub returns-clause-wrote : goal.returns-clause-wrote
returns-clause-wrote g c =
    let told = c.look_back-told.ensures in
    let happened = c.happenings.ensures.items in
    let by = subst (λ n. All (IsByPool n) c.happenings.result.now) c.workers.ensures (told.by.0 (not-false _ c.if-not-told-2.false)) in
    let at_rest = at_rest_by c.args.book.now c.happenings.result.now c.args.asked.now.moments.now happened (told.shows.0 (not-false _ c.if-not-told.false)) by (λ due. false≢true (c.if-ripe.ensures.ripe.1 due)) (c.if-not-is_idle.ensures.0 refl) in
    wrote_rested g.N.Named.cells c.args.book.now g.N.Named.calls g.N.Named.workers _ _ _ _ _ _ c.lines-lines.ensures.book (book_fits c.args.book.now c.happenings.result.now happened told.fit told.short) (c.lines-lines.ensures.named.0, c.lines-lines.ensures.named.1) at_rest
    (told.events ∙ ap event_count happened) (omega (arith, c.if-told-asked.false)) c.lines-lines.ensures.items refl c.if-not-write_lines.ensures.text
