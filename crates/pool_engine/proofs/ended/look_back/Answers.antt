use Rattle.std.proofs.Common.{◌≡◌, ◌∙◌, ap, arith, false, subst, sym, true}
use Rattle.std.proofs.lemmas.Bool.{false≢true}
use Rattle.std.proofs.lemmas.List.Elements.{All-more}
use Rattle.std.specs.Prelude.{slice_index_or}
use Rattle.trace_check.specs.Laws.{FitsHappening}
use Rattle.pool_engine.specs.PoolRuns.{IsByPool, is_taken}
use Rattle.pool_engine.proofs.Courses.{all_on, another_on, event_on, not_shown, other_on, run_on, shown_on}
use Rattle.pool_engine.proofs.ended.look_back.Goals as goal
use Rattle.pool_engine.proofs.ended.look_back.Goals.{in-Clock+in-Some, in-Clock+in-None, in-Start, in-Call}

pub loop-kept-preserved : goal.loop-kept-preserved
loop-kept-preserved c =
    let happened = c.args.happened.now in
    let moments = c.args.moments.now in
    let here = c.loop-kept in
    let i = here.kept-index in
    let d = c.kept-item.result in
    let low = c.loop-kept-test.true in
    let happening = c.happening-happening.result in
    let next : happening ≡ slice_index_or happened i d = c.happening-happening.ensures ∙ c.kept-item.is in
    let so_far = here.invariant.shown in
    let fit = All-more FitsHappening happened i d low here.invariant.fit (subst FitsHappening next c.prove_fits.ensures) in
    let by = all_on (IsByPool c.args.workers) happened i d happening here.by_pool c.is_by_pool.result low next here.invariant.by c.is_by_pool.ensures in
    elim c.match-happening.branch [
      | in-Clock+in-Some w ↦ record {
        counted = w.events-is ∙ event_on happened i d happening here.events true low next here.invariant.counted (ap is_taken w.in-Clock.is);
        few = omega (arith, here.invariant.few, w.events-is);
        fit = fit;
        by = by;
        shown = rw (w.shows-is, w.left-is) (shown_on happened i d happening here.shows w.in-Clock.moment here.left.now w.in-Some.rest.now moments low next so_far w.in-Clock.is w.in-Some.ensures);
      }
      | in-Clock+in-None w ↦ record {
        counted = w.events-is ∙ event_on happened i d happening here.events true low next here.invariant.counted (ap is_taken w.in-Clock.is);
        few = omega (arith, here.invariant.few, w.events-is);
        fit = fit;
        by = by;
        shown = rw w.shows-is (another_on happened i d happening here.shows w.in-Clock.moment here.left.now moments low next so_far w.in-Clock.is w.in-None.ensures);
      }
      | in-Start w ↦
          let on = run_on happened i d happening here.shows here.left.now moments low next so_far w.in-Start.is in record {
            counted = w.events-is ∙ event_on happened i d happening here.events true low next here.invariant.counted on.0;
            few = omega (arith, here.invariant.few, w.events-is);
            fit = fit;
            by = by;
            shown = rw (w.shows-is, w.left-is) on.1;
          }
      | in-Call w ↦
          let on = other_on happened i d happening here.shows here.left.now moments low next so_far w.in-Call.is in record {
            counted = omega (arith, w.events-is, event_on happened i d happening here.events false low next here.invariant.counted on.0);
            few = omega (arith, here.invariant.few, w.events-is);
            fit = fit;
            by = by;
            shown = rw (w.shows-is, w.left-is) on.1;
          }
    ]

pub returns-else-shows-clause-shows : goal.returns-else-shows-clause-shows
returns-else-shows-clause-shows c =
    let here = c.loop-kept in (
      λ yes. absurd (false≢true (sym c.if-shows.false ∙ yes)),
      λ same. absurd (not_shown c.args.happened.now here.kept-index here.shows here.left.now c.args.moments.now c.loop-kept-test.false c.if-shows.false here.invariant.shown same),
    )
