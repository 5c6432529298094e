use Rattle.std.proofs.Common.{◌++◌, ◌∷◌, [], drop, sym, ap, ◌∙◌}
use Rattle.std.specs.Prelude.{reverse}
use Rattle.trace_draw.specs.Pictures.{bars_within}
use Rattle.trace_draw.proofs.Backward.{tells, with_bar, missed_bar, no_bar, turned_bar}
use Rattle.trace_draw.proofs.drawing.bars_in.Goals as goal

pub loop-index-preserved-in-Continue-1 : goal.loop-index-preserved-in-Continue-1
loop-index-preserved-in-Continue-1 g c =
    let index = c.loop-index.index in
    let line = c.index-lines-index.result in
    let later = drop index c.args.lines.now in
    record {
      ends = tells c.args.lines.now index line c.read.new.self.finishes c.loop-index-test.true c.loop-index.auto.index c.index-lines-index.is (c.read.ensures.ends later c.loop-index.invariant.ends);
      bars = c.in_ok-push.ensures.items
          ∙ (ap (λ bars. bars ++ c.in-Some.bar ∷ []) c.loop-index.invariant.bars
          ∙ (sym (turned_bar c.in-Some.bar (bars_within c.args.window later))
          ∙ ap (λ bars. reverse bars) (sym (with_bar c.args.window c.args.lines.now index line c.read.result c.in-Some.bar c.loop-index-test.true c.loop-index.auto.index c.index-lines-index.is (c.read.ensures.bar later c.loop-index.invariant.ends) c.in-Some.is (sym c.shows_bar.ensures ∙ c.if-shows_bar.true)))));
    }

pub loop-index-preserved-else-shows_bar : goal.loop-index-preserved-else-shows_bar
loop-index-preserved-else-shows_bar g c =
    let index = c.loop-index.index in
    let line = c.index-lines-index.result in
    let later = drop index c.args.lines.now in
    record {
      ends = tells c.args.lines.now index line c.read.new.self.finishes c.loop-index-test.true c.loop-index.auto.index c.index-lines-index.is (c.read.ensures.ends later c.loop-index.invariant.ends);
      bars = c.loop-index.invariant.bars
          ∙ ap (λ bars. reverse bars) (sym (missed_bar c.args.window c.args.lines.now index line c.read.result c.in-Some.bar c.loop-index-test.true c.loop-index.auto.index c.index-lines-index.is (c.read.ensures.bar later c.loop-index.invariant.ends) c.in-Some.is (sym c.shows_bar.ensures ∙ c.if-shows_bar.false)));
    }

pub loop-index-preserved : goal.loop-index-preserved
loop-index-preserved g c =
    let index = c.loop-index.index in
    let line = c.index-lines-index.result in
    let later = drop index c.args.lines.now in
    record {
      ends = tells c.args.lines.now index line c.read.new.self.finishes c.loop-index-test.true c.loop-index.auto.index c.index-lines-index.is (c.read.ensures.ends later c.loop-index.invariant.ends);
      bars = c.loop-index.invariant.bars
          ∙ ap (λ bars. reverse bars) (sym (no_bar c.args.window c.args.lines.now index line c.read.result c.loop-index-test.true c.loop-index.auto.index c.index-lines-index.is (c.read.ensures.bar later c.loop-index.invariant.ends) c.in_default.is));
    }
