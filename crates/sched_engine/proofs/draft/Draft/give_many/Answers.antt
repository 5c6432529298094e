use Rattle.std.proofs.Common.{◌≡◌, ◌++◌, take, drop, subst, rules}
use Rattle.executor_model.specs.declared.Line.{Line}
use Rattle.trace_text.specs.Spelling.{line_text, lines_text}
use Rattle.sched_engine.specs.Pieces.{Output}
use Rattle.sched_engine.proofs.Giving.{gives_front, gives_line, lines_split}
use Rattle.byte_ends.proofs.Tries.{good_then_bad, good_then_good, no_try}
use Rattle.sched_engine.proofs.draft.Draft.give_many.Goals as goal

pub loop-line-init : goal.loop-line-init
loop-line-init g c = record { given = search rules; counts = no_try (g.W.Sink.failed c.args.writer.now) (g.W.Sink.fruitless c.args.writer.now) }

pub returns-then-not-make_room-clause-counts : goal.returns-then-not-make_room-clause-counts
returns-then-not-make_room-clause-counts g c = good_then_bad _ _ _ _ _ _ c.loop-line.invariant.counts c.if-not-make_room.ensures.counts

pub returns-then-not-make_room-clause-text : goal.returns-then-not-make_room-clause-text
returns-then-not-make_room-clause-text g c =
    let lines = c.args.lines.now in
    let i = c.loop-line.line-index in
    let old : Output = record { contents = g.W.Sink.contents c.args.writer.now; text = c.args.self.now } in
    let here : Output = record { contents = g.W.Sink.contents c.loop-line.writer; text = c.loop-line.self } in
    let cut = c.if-not-make_room.ensures.room in
    gives_front old here (g.W.Sink.contents c.make_room.new.writer) (lines_text (take i lines)) (lines_text (drop i lines)) (lines_text lines) cut.0 c.loop-line.invariant.given cut.1 cut.2 (lines_split lines i)

pub loop-line-preserved : goal.loop-line-preserved
loop-line-preserved g c =
    let old : Output = record { contents = g.W.Sink.contents c.args.writer.now; text = c.args.self.now } in
    let here : Output = record { contents = g.W.Sink.contents c.loop-line.writer; text = c.loop-line.self } in
    let roomy : Output = record { contents = g.W.Sink.contents c.make_room.new.writer; text = c.make_room.new.self } in
    let kept = c.loop-line.invariant in
    let is = subst (λ (line : Line). c.put_here.new.self ≡ roomy.text ++ line_text line) c.line-item.is c.put_here.ensures in
    record {
      given = gives_line old here roomy c.put_here.new.self c.args.lines.now c.loop-line.line-index c.line-item.result c.loop-line-test.true kept.given c.if-not-make_room.ensures.room.0 is;
      counts = good_then_good _ _ _ _ _ _ kept.counts c.if-not-make_room.ensures.counts;
    }
