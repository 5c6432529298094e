use Rattle.std.proofs.Common.{◌+◌, false, drop, take, sym, subst}
use Rattle.std.specs.List.{flat_map}
use Rattle.std.specs.Io.KnownBytes.{Appends}
use Rattle.std.proofs.KnownBytes.{Appends-trans}
use Rattle.byte_ends.specs.Ends.{WritesText}
use Rattle.byte_ends.proofs.Tries.{good_then_bad, good_then_good}
use Rattle.command_work.specs.RefusalTexts.{text_of}
use Rattle.sched_program.proofs.Writings.{front_of_more, line_left, line_more, wrote_behind}
use Rattle.sched_program.proofs.error_line.write_lines.Goals as goal

-- the lines so far, and a front of this one
pub returns-then-not-write_text-clause-text : goal.returns-then-not-write_text-clause-text
returns-then-not-write_text-clause-text g c =
    let lines = c.args.lines.now in
    let i = c.loop-line.line-index in
    let line = c.line-item.result in
    let rest = flat_map text_of (drop (i + 1) lines) in
    let start = g.W.Sink.contents c.args.faults.now in
    let here = g.W.Sink.contents c.loop-line.faults in
    let there = g.W.Sink.contents c.write_text.new.sink in
    let wrote : WritesText false here there (text_of line) = rw c.line.ensures.text at c.if-not-write_text.ensures.bytes in
    subst (WritesText false start there) (sym (line_left lines i line c.loop-line-test.true c.line-item.is))
    (wrote_behind false start here there (flat_map text_of (take i lines)) _ c.loop-line.invariant.written (front_of_more here there (text_of line) rest wrote))

pub returns-then-not-write_text-clause-counts : goal.returns-then-not-write_text-clause-counts
returns-then-not-write_text-clause-counts g c = good_then_bad _ _ _ _ _ _ c.loop-line.invariant.counts c.if-not-write_text.ensures.counts

-- the lines so far, and this one
pub loop-line-preserved : goal.loop-line-preserved
loop-line-preserved g c =
    let lines = c.args.lines.now in
    let i = c.loop-line.line-index in
    let line = c.line-item.result in
    let start = g.W.Sink.contents c.args.faults.now in
    let here = g.W.Sink.contents c.loop-line.faults in
    let there = g.W.Sink.contents c.write_text.new.sink in
    let wrote : Appends here there (text_of line) = rw c.line.ensures.text at c.if-not-write_text.ensures.bytes in
    record {
      written = subst (Appends start there) (sym (line_more lines i line c.loop-line-test.true c.line-item.is))
          (Appends-trans start here there (flat_map text_of (take i lines)) (text_of line) c.loop-line.invariant.written wrote);
      counts = good_then_good _ _ _ _ _ _ c.loop-line.invariant.counts c.if-not-write_text.ensures.counts;
    }
