use Rattle.std.proofs.Common.{length, drop, sym, ap, ◌∙◌, arith}
use Rattle.std.proofs.lemmas.List.{length-drop}
use Rattle.trace_draw.proofs.Backward.{tells, with_bar, missed_bar, no_bar, few}
use Rattle.trace_draw.proofs.drawing.count_bars.Goals as goal

pub overflow_add-count : goal.overflow_add-count
overflow_add-count c =
    omega (arith, c.loop-index.invariant.count, few c.args.window (drop c.loop-index.index c.args.lines.now), length-drop c.loop-index.index c.args.lines.now, c.loop-index.auto.index, c.loop-index-test.true)

pub loop-index-preserved-then-shows_bar : goal.loop-index-preserved-then-shows_bar
loop-index-preserved-then-shows_bar c =
    let index = c.loop-index.index in
    let line = c.index-lines-index.result in
    let later = drop index c.args.lines.now in
    record {
      ends = tells c.args.lines.now index line c.read.new.self.finishes c.loop-index-test.true c.loop-index.auto.index c.index-lines-index.is (c.read.ensures.ends later c.loop-index.invariant.ends);
      count = omega (arith, c.loop-index.invariant.count, ap length (with_bar c.args.window c.args.lines.now index line c.read.result c.in-Some.bar c.loop-index-test.true c.loop-index.auto.index c.index-lines-index.is (c.read.ensures.bar later c.loop-index.invariant.ends) c.in-Some.is (sym c.shows_bar.ensures ∙ c.if-shows_bar.true)));
    }

pub loop-index-preserved-else-shows_bar : goal.loop-index-preserved-else-shows_bar
loop-index-preserved-else-shows_bar c =
    let index = c.loop-index.index in
    let line = c.index-lines-index.result in
    let later = drop index c.args.lines.now in
    record {
      ends = tells c.args.lines.now index line c.read.new.self.finishes c.loop-index-test.true c.loop-index.auto.index c.index-lines-index.is (c.read.ensures.ends later c.loop-index.invariant.ends);
      count = c.loop-index.invariant.count ∙ ap length (sym (missed_bar c.args.window c.args.lines.now index line c.read.result c.in-Some.bar c.loop-index-test.true c.loop-index.auto.index c.index-lines-index.is (c.read.ensures.bar later c.loop-index.invariant.ends) c.in-Some.is (sym c.shows_bar.ensures ∙ c.if-shows_bar.false)));
    }

pub loop-index-preserved : goal.loop-index-preserved
loop-index-preserved c =
    let index = c.loop-index.index in
    let line = c.index-lines-index.result in
    let later = drop index c.args.lines.now in
    record {
      ends = tells c.args.lines.now index line c.read.new.self.finishes c.loop-index-test.true c.loop-index.auto.index c.index-lines-index.is (c.read.ensures.ends later c.loop-index.invariant.ends);
      count = c.loop-index.invariant.count ∙ ap length (sym (no_bar c.args.window c.args.lines.now index line c.read.result c.loop-index-test.true c.loop-index.auto.index c.index-lines-index.is (c.read.ensures.bar later c.loop-index.invariant.ends) c.in_default.is));
    }
