use Rattle.std.proofs.Common.{rules, ◌≡◌, [], ◌∷◌, ◌++◌, true, false, Bool}
use Rattle.byte_ends.specs.Ends.{CountsTries}
use Rattle.byte_ends.proofs.Tries.{good_then_bad, good_then_good}
use Rattle.plan_list.specs.Lines.{submission_line, tasks_text}
use Rattle.plan_list.proofs.Given.{all_given, front_given, line_given, lines_left}
use Rattle.plan_list.proofs.writing.write_lines.Goals as goal

pub returns-then-not-make_room-clause-bytes : goal.returns-then-not-make_room-clause-bytes
returns-then-not-make_room-clause-bytes g c =
    let kept = c.loop-submission.invariant.given in
    let cut = c.if-not-make_room.ensures.room in
    front_given (g.W.Sink.contents c.args.writer.now) (g.W.Sink.contents c.loop-submission.writer) (g.W.Sink.contents c.make_room.new.writer)
    c.loop-submission.page kept.0 _ (tasks_text c.args.plan.now) cut.0 kept.1 kept.2 cut.1 cut.2

pub returns-then-not-make_room-clause-counts : goal.returns-then-not-make_room-clause-counts
returns-then-not-make_room-clause-counts g c = good_then_bad _ _ _ _ _ _ c.loop-submission.invariant.counts c.if-not-make_room.ensures.counts

pub loop-submission-preserved : goal.loop-submission-preserved
loop-submission-preserved g c =
    let kept = c.loop-submission.invariant in
    let line = submission_line c.in-Some.submission in
    let made = c.if-not-make_room.ensures in
    let cut : c.loop-submission.submissions ≡ c.in-Some.submission ∷ c.next.new.self = search rules in
    record {
      given = (
        kept.given.0 ++ line,
        line_given (g.W.Sink.contents c.args.writer.now) (g.W.Sink.contents c.loop-submission.writer) (g.W.Sink.contents c.make_room.new.writer)
            c.loop-submission.page c.make_room.new.page kept.given.0 line c.put_line.new.self kept.given.1 made.room c.put_line.ensures,
        lines_left (tasks_text c.args.plan.now) kept.given.0 c.in-Some.submission c.next.new.self c.loop-submission.submissions kept.given.2 cut,
      );
      counts = good_then_good _ _ _ _ _ _ kept.counts made.counts;
      next = tt;
      finite = tt;
    }

pub returns-clause-bytes : goal.returns-clause-bytes
returns-clause-bytes g c =
    let kept = c.loop-submission.invariant.given in
    let none : c.loop-submission.submissions ≡ [] = search rules in
    all_given c.write_text.result (g.W.Sink.contents c.args.writer.now) (g.W.Sink.contents c.loop-submission.writer) (g.W.Sink.contents c.write_text.new.sink)
    c.loop-submission.page kept.0 (tasks_text c.args.plan.now) kept.1 (rw none at kept.2) (rw c.bytes.ensures at c.write_text.ensures.bytes)

pub returns-clause-counts : goal.returns-clause-counts
returns-clause-counts g c = go c.write_text.result c.write_text.ensures.counts
  where
    go : (result : Bool) → CountsTries result (g.W.Sink.failed c.loop-submission.writer) (g.W.Sink.fruitless c.loop-submission.writer) (g.W.Sink.failed c.write_text.new.sink) (g.W.Sink.fruitless c.write_text.new.sink)
        → CountsTries result (g.W.Sink.failed c.args.writer.now) (g.W.Sink.fruitless c.args.writer.now) (g.W.Sink.failed c.write_text.new.sink) (g.W.Sink.fruitless c.write_text.new.sink)
    go true good = good_then_good _ _ _ _ _ _ c.loop-submission.invariant.counts good
    go false bad = good_then_bad _ _ _ _ _ _ c.loop-submission.invariant.counts bad
