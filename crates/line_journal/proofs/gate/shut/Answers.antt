use Rattle.std.proofs.Common.{sym, subst, arith}
use Rattle.line_journal.specs.Gates.{IsClosed}
use Rattle.line_journal.proofs.Gates.{on_ok, closed_put, closed_cut, closed_older, older_shut}
use Rattle.line_journal.proofs.gate.shut.Goals as goal

pub returns-in_err-put_piece-clause-crash : goal.returns-in_err-put_piece-clause-crash
returns-in_err-put_piece-clause-crash g c mixes turn older e left =
    let was = c.put_piece.ensures.mixed (mixes c.args.disk.now) (omega arith) e left in
    older_shut turn was.0 e was.2 (older was.0 was.1)

pub returns-in_err-sync-clause-crash : goal.returns-in_err-sync-clause-crash
returns-in_err-sync-clause-crash g c mixes turn older e left =
    let was = c.put_piece.ensures.mixed (mixes c.args.disk.now) (omega arith) e (c.sync.ensures.leaves e left) in
    older_shut turn was.0 e was.2 (older was.0 was.1)

pub returns-clause-crash : goal.returns-clause-crash
returns-clause-crash g c mixes turn older e left =
    let was = c.cut.ensures.crash e left in
    let now = closed_put (g.D.Disk.seen c.put_piece.new.disk) (c.in_ok-put_piece.ensures.written (omega arith)) in
    closed_older e turn (closed_cut 1 was.0 e (omega arith) was.2 (subst IsClosed (sym (c.in_ok-sync.ensures.durable was.0 was.1)) now))

pub returns-clause-closed : goal.returns-clause-closed
returns-clause-closed g c =
    let now = closed_put (g.D.Disk.seen c.put_piece.new.disk) (c.in_ok-put_piece.ensures.written (omega arith)) in
    let synced = subst IsClosed (sym c.sync.ensures.seen) now in
    on_ok c.cut.result _ (record {
      now = closed_cut 1 (g.D.Disk.seen c.sync.new.disk) (g.D.Disk.seen c.cut.new.disk) (omega arith) c.cut.ensures.others synced;
      left = λ e left.
          let was = c.cut.ensures.crash e left in
          closed_cut 1 was.0 e (omega arith) was.2 (subst IsClosed (sym (c.in_ok-sync.ensures.durable was.0 was.1)) now);
    })
