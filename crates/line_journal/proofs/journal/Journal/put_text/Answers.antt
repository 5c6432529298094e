use Rattle.std.proofs.Common.{◌+◌, ap, ◌∙◌, arith, length-append}
use Rattle.std.specs.Hash.DefaultHasher as sip
use Rattle.line_journal.proofs.Staying.{stands_older}
use Rattle.line_journal.proofs.Gates.{closed_older, closed_torn, there_more}
use Rattle.line_journal.proofs.Sums.{write_more}
use Rattle.line_journal.proofs.journal.Journal.put_text.Goals as goal

pub returns-in_err-put_piece-clause-crash : goal.returns-in_err-put_piece-clause-crash
returns-in_err-put_piece-clause-crash g c part text stands drafting e h left right =
    let self = c.args.self.now in
    let was = c.put_piece.ensures.crash h right in
    stands_older g.D.Disk.seen g.D.Disk.may_leave part.head.workers self.current self.other self.last self.limit part stands e h left
    (closed_older h part.head.turn (closed_torn (64 + self.draft) _ was.0 h (omega arith) was.2 (drafting.closed.left was.0 was.1)))

pub returns-clause-crash : goal.returns-clause-crash
returns-clause-crash g c part text stands drafting e h left right =
    let self = c.args.self.now in
    let was = c.put_piece.ensures.crash h right in
    stands_older g.D.Disk.seen g.D.Disk.may_leave part.head.workers self.current self.other self.last self.limit part stands e h left
    (closed_older h part.head.turn (closed_torn (64 + self.draft) _ was.0 h (omega arith) was.2 (drafting.closed.left was.0 was.1)))

pub returns-clause-kept : goal.returns-clause-kept
returns-clause-kept g c part text stands drafting =
    let self = c.args.self.now in (
      record { has = stands.has; half = stands.half; rest = stands.rest; older = λ e right. let was = c.put_piece.ensures.crash e right in closed_older e part.head.turn (closed_torn (64 + self.draft) _ was.0 e (omega arith) was.2 (drafting.closed.left was.0 was.1)) },
      record {
        begun = drafting.begun;
        closed = record {
          now = closed_torn (64 + self.draft) _ _ _ (omega arith) c.put_piece.ensures.others drafting.closed.now;
          left = λ h right. let was = c.put_piece.ensures.crash h right in closed_torn (64 + self.draft) _ was.0 h (omega arith) was.2 (drafting.closed.left was.0 was.1);
        };
        long = omega (arith, drafting.long, length-append text c.args.piece.now);
        there = there_more (g.D.Disk.seen self.other) (g.D.Disk.seen c.put_piece.new.disk) text c.args.piece.now self.draft drafting.long drafting.there c.put_piece.ensures.others c.in_ok-put_piece.ensures.written;
        sum = c.write.ensures ∙ (ap (λ s. sip.write s c.args.piece.now) drafting.sum ∙ write_more text c.args.piece.now);
      },
    )
