use Rattle.std.proofs.Common.{arith}
use Rattle.line_journal.proofs.Rests.{below_self, below_torn, blank_none, follows_self, rest_after, crash_after}
use Rattle.line_journal.proofs.tail.append_here.Goals as goal

pub returns-clause-kept : goal.returns-clause-kept
returns-clause-kept g c start groups rest =
    let d = g.D.Disk in
    rest_after d.seen d.may_leave c.args.disk.now c.args.disk.now c.put_group.new.disk start groups c.args.end c.args.limit c.args.limit c.args.group.now rest
    (omega (arith, c.requires.zeros, c.requires.group.few)) (omega arith) (below_self c.args.limit (d.seen c.args.disk.now)) (blank_none (d.seen c.args.disk.now) c.args.limit)
    c.put_group.ensures.others c.in_ok-put_group.ensures.written c.in_ok-put_group.ensures.durable

pub returns-in_err-put_group-clause-crash : goal.returns-in_err-put_group-clause-crash
returns-in_err-put_group-clause-crash g c mixes start groups rest left may =
    let d = g.D.Disk in
    crash_after d.seen d.may_leave c.args.disk.now start groups c.args.end c.args.limit c.args.group.now (d.may_leave c.args.disk.now) (d.may_leave c.put_group.new.disk) rest
    c.requires.group (omega (arith, c.requires.zeros, c.requires.group.few)) (follows_self d.seen d.may_leave c.args.disk.now c.args.limit) (c.put_group.ensures.crash mixes) left may

pub returns-clause-crash : goal.returns-clause-crash
returns-clause-crash g c mixes start groups rest left may =
    let d = g.D.Disk in
    crash_after d.seen d.may_leave c.args.disk.now start groups c.args.end c.args.limit c.args.group.now (d.may_leave c.args.disk.now) (d.may_leave c.put_group.new.disk) rest
    c.requires.group (omega (arith, c.requires.zeros, c.requires.group.few)) (follows_self d.seen d.may_leave c.args.disk.now c.args.limit) (c.put_group.ensures.crash mixes) left may

pub returns-in_err-put_group-clause-front : goal.returns-in_err-put_group-clause-front
returns-in_err-put_group-clause-front g c = below_torn _ _ _ _ c.put_group.ensures.others

pub returns-clause-front : goal.returns-clause-front
returns-clause-front g c = below_torn _ _ _ _ c.put_group.ensures.others

pub returns-in_err-put_group-clause-fronts : goal.returns-in_err-put_group-clause-fronts
returns-in_err-put_group-clause-fronts g c e left = let was = c.put_group.ensures.torn e left in (was.0, was.1, below_torn _ _ _ _ was.2)

pub returns-clause-fronts : goal.returns-clause-fronts
returns-clause-fronts g c e left = let was = c.put_group.ensures.torn e left in (was.0, was.1, below_torn _ _ _ _ was.2)
