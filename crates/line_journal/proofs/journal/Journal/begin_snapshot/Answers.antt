use Rattle.std.proofs.Common.{refl, ◌∙◌, arith}
use Rattle.line_journal.proofs.Staying.{stands_older}
use Rattle.line_journal.proofs.Gates.{closed_older}
use Rattle.line_journal.proofs.Sums.{write_none}
use Rattle.line_journal.proofs.journal.Journal.begin_snapshot.Goals as goal

pub returns-in_err-shut-clause-crash : goal.returns-in_err-shut-clause-crash
returns-in_err-shut-clause-crash g c mixes part stands e h left right =
    let self = c.args.self.now in
    stands_older g.D.Disk.seen g.D.Disk.may_leave part.head.workers self.current self.other self.last self.limit part stands e h left (c.shut.ensures.crash mixes part.head.turn stands.older h right)

pub returns-clause-crash : goal.returns-clause-crash
returns-clause-crash g c mixes part stands e h left right =
    let self = c.args.self.now in
    stands_older g.D.Disk.seen g.D.Disk.may_leave part.head.workers self.current self.other self.last self.limit part stands e h left (c.shut.ensures.crash mixes part.head.turn stands.older h right)

pub returns-clause-kept : goal.returns-clause-kept
returns-clause-kept g c part stands =
    let closed = c.in_ok-shut.ensures.closed in (
      record { has = stands.has; half = stands.half; rest = stands.rest; older = λ e left. closed_older e part.head.turn (closed.left e left) },
      record { begun = refl; closed = closed; long = refl; there = λ i low. absurd (omega (arith, low)); sum = c.new-self.ensures ∙ write_none },
    )
