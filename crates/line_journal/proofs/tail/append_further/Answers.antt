use Rattle.std.proofs.Common.{ℕ, ◌+◌, ◌<◌, ◌≤◌, ◌∙◌, inl, arith}
use Rattle.line_journal.proofs.Rests.{below_less, both_below, rest_after, crash_ahead, crash_after}
use Rattle.line_journal.proofs.tail.append_further.Goals as goal

pub returns-clause-kept : goal.returns-clause-kept
returns-clause-kept g c start groups rest =
    let d = g.D.Disk in
    rest_after d.seen d.may_leave c.args.disk.now c.put_zeros.new.disk c.put_group.new.disk start groups c.args.end c.args.limit (c.args.limit + 1048576) c.args.group.now rest
    (omega (arith, c.requires.zeros, c.requires.group.few)) (omega arith) c.put_zeros.ensures.below c.in_ok-put_zeros.ensures.blank
    c.put_group.ensures.others c.in_ok-put_group.ensures.written c.in_ok-put_group.ensures.durable

pub returns-in_err-put_zeros-clause-crash : goal.returns-in_err-put_zeros-clause-crash
returns-in_err-put_zeros-clause-crash g c mixes start groups rest left may =
    let d = g.D.Disk in
    inl (crash_ahead d.seen d.may_leave c.args.disk.now start groups c.args.end c.args.limit (d.may_leave c.put_zeros.new.disk) rest (omega (arith, c.requires.zeros)) c.put_zeros.ensures.crash left may).0

pub returns-in_err-put_group-clause-crash : goal.returns-in_err-put_group-clause-crash
returns-in_err-put_group-clause-crash g c mixes start groups rest left may =
    let d = g.D.Disk in
    crash_after d.seen d.may_leave c.args.disk.now start groups c.args.end c.args.limit c.args.group.now (d.may_leave c.put_zeros.new.disk) (d.may_leave c.put_group.new.disk) rest
    c.requires.group (omega (arith, c.requires.zeros, c.requires.group.few)) c.put_zeros.ensures.crash (c.put_group.ensures.crash (c.put_zeros.ensures.mixing ∙ mixes)) left may

pub returns-clause-crash : goal.returns-clause-crash
returns-clause-crash g c mixes start groups rest left may =
    let d = g.D.Disk in
    crash_after d.seen d.may_leave c.args.disk.now start groups c.args.end c.args.limit c.args.group.now (d.may_leave c.put_zeros.new.disk) (d.may_leave c.put_group.new.disk) rest
    c.requires.group (omega (arith, c.requires.zeros, c.requires.group.few)) c.put_zeros.ensures.crash (c.put_group.ensures.crash (c.put_zeros.ensures.mixing ∙ mixes)) left may

low : (end limit : ℕ) → end + 65549 < limit → end ≤ limit
low end limit room = omega (arith, room)

pub returns-in_err-put_zeros-clause-front : goal.returns-in_err-put_zeros-clause-front
returns-in_err-put_zeros-clause-front g c = below_less _ _ _ _ (low c.args.end c.args.limit c.requires.zeros) c.put_zeros.ensures.below

pub returns-in_err-put_group-clause-front : goal.returns-in_err-put_group-clause-front
returns-in_err-put_group-clause-front g c = both_below _ _ _ _ _ _ (low c.args.end c.args.limit c.requires.zeros) c.put_zeros.ensures.below c.put_group.ensures.others

pub returns-clause-front : goal.returns-clause-front
returns-clause-front g c = both_below _ _ _ _ _ _ (low c.args.end c.args.limit c.requires.zeros) c.put_zeros.ensures.below c.put_group.ensures.others

pub returns-in_err-put_zeros-clause-fronts : goal.returns-in_err-put_zeros-clause-fronts
returns-in_err-put_zeros-clause-fronts g c e left =
    let was = c.put_zeros.ensures.crash e left in
    (was.0, was.1, below_less _ _ _ _ (low c.args.end c.args.limit c.requires.zeros) was.2)

pub returns-in_err-put_group-clause-fronts : goal.returns-in_err-put_group-clause-fronts
returns-in_err-put_group-clause-fronts g c e left =
    let was = c.put_group.ensures.torn e left in
    let first = c.put_zeros.ensures.crash was.0 was.1 in
    (first.0, first.1, both_below _ _ _ _ _ _ (low c.args.end c.args.limit c.requires.zeros) first.2 was.2)

pub returns-clause-fronts : goal.returns-clause-fronts
returns-clause-fronts g c e left =
    let was = c.put_group.ensures.torn e left in
    let first = c.put_zeros.ensures.crash was.0 was.1 in
    (first.0, first.1, both_below _ _ _ _ _ _ (low c.args.end c.args.limit c.requires.zeros) first.2 was.2)
