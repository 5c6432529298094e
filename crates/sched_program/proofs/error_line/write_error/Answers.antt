use Rattle.std.proofs.Common.{rules, false, ◌≡◌, option_map}
use Rattle.std.specs.Io.KnownBytes.{Appends}
use Rattle.byte_ends.specs.Ends.{WritesText}
use Rattle.command_work.specs.RefusalTexts.{text_of}
use Rattle.sched_program.specs.Lines.{error_line}
use Rattle.sched_program.specs.Told.{hint_text}
use Rattle.sched_program.proofs.Writings.{counts_behind, front_of_more, wrote_behind}
use Rattle.sched_program.proofs.error_line.write_error.Goals as goal

-- the line, and then the hint or a front of it
pub returns-then-told-clause-text : goal.returns-then-told-clause-text
returns-then-told-clause-text g c =
    let start = g.W.Sink.contents c.args.faults.now in
    let here = g.W.Sink.contents c.write_text-told.new.sink in
    let there = g.W.Sink.contents c.write_text.new.sink in
    let hint = text_of c.in-Some.hint.now in
    let line : c.as_bytes.result.now ≡ error_line c.args.error = search rules in
    let first : Appends start here (error_line c.args.error) = rw line at c.if-told.ensures.bytes in
    let second : WritesText c.write_text.result here there hint = rw c.line.ensures.text at c.write_text.ensures.bytes in
    rw c.in-Some.is (wrote_behind c.write_text.result start here there (error_line c.args.error) hint first second)

pub returns-then-told-clause-counts : goal.returns-then-told-clause-counts
returns-then-told-clause-counts g c = counts_behind c.write_text.result _ _ _ _ _ _ c.if-told.ensures.counts c.write_text.ensures.counts

-- a front of the line
pub returns-else-told-clause-text : goal.returns-else-told-clause-text
returns-else-told-clause-text g c =
    let start = g.W.Sink.contents c.args.faults.now in
    let here = g.W.Sink.contents c.write_text-told.new.sink in
    let line : c.as_bytes.result.now ≡ error_line c.args.error = search rules in
    let front : WritesText false start here (error_line c.args.error) = rw line at c.if-told.ensures.bytes in
    rw c.if-told.false (front_of_more start here (error_line c.args.error) (hint_text (option_map (λ h. h.now) c.args.hint)) front)
