use Rattle.snapshot_text.proofs.Pages.{front_given, page_given}
use Rattle.snapshot_text.proofs.spelled.make_room.Goals as goal

pub returns-then-not-write_text-clause-given : goal.returns-then-not-write_text-clause-given
returns-then-not-write_text-clause-given g c = λ before text given.
    let front = rw c.bytes.ensures at c.if-not-write_text.ensures.bytes in
    front_given before (g.W.Sink.contents c.args.writer.now) (g.W.Sink.contents c.write_text.new.sink) c.args.page.now text front.0 given front.1 front.2

pub returns-clause-given : goal.returns-clause-given
returns-clause-given g c = λ before text given.
    let whole = rw c.bytes.ensures at c.if-not-write_text.ensures.bytes in
    page_given before (g.W.Sink.contents c.args.writer.now) (g.W.Sink.contents c.write_text.new.sink) c.args.page.now c.clear.new.self text given whole c.clear.ensures
