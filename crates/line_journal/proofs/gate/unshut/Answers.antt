use Rattle.std.proofs.Common.{inl, inr, arith}
use Rattle.line_journal.proofs.Gates.{gate, opened}
use Rattle.line_journal.proofs.gate.unshut.Goals as goal

pub returns-in_err-fill-clause-crash : goal.returns-in_err-fill-clause-crash
returns-in_err-fill-clause-crash g c mixes closed text long there e left = inl (inr (c.fill.ensures.crash closed e left).1)

pub returns-in_err-open_gate-clause-crash : goal.returns-in_err-open_gate-clause-crash
returns-in_err-open_gate-clause-crash g c mixes closed text long there e left =
    gate (g.D.Disk.seen c.fill.new.disk) e c.args.head.now text (c.in_ok-fill.ensures.ready closed text long there) long c.requires.fits (c.open_gate.ensures.crash mixes c.in_ok-fill.ensures.durable e left)

pub returns-clause-crash : goal.returns-clause-crash
returns-clause-crash g c mixes closed text long there e left =
    gate (g.D.Disk.seen c.fill.new.disk) e c.args.head.now text (c.in_ok-fill.ensures.ready closed text long there) long c.requires.fits (c.open_gate.ensures.crash mixes c.in_ok-fill.ensures.durable e left)

pub returns-clause-has : goal.returns-clause-has
returns-clause-has g c closed text long there =
    let put = c.in_ok-open_gate.ensures.opened in
    let is = opened (g.D.Disk.seen c.fill.new.disk) (g.D.Disk.seen c.open_gate.new.disk) c.args.head.now text (c.in_ok-fill.ensures.ready closed text long there) long c.requires.fits put.0 (put.1.each 0 (omega arith)) in
    (is.0, record { durable = c.in_ok-open_gate.ensures.durable; keeps = is.0.keeps; ends = omega arith; zeros = is.1 })
