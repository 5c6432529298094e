use Rattle.std.proofs.Common.{◌+◌, ◌≤◌, length, sym, subst, arith}
use Rattle.line_journal.specs.Finding.{HasAll}
use Rattle.line_journal.proofs.Placing.{part_read}
use Rattle.line_journal.proofs.files.read_groups.Goals as goal

pub returns-else-branch-clause-found : goal.returns-else-branch-clause-found
returns-else-branch-clause-found g c clean len front fits =
    let d = g.D.Disk in
    let file = d.seen c.args.disk.now in
    let head = c.args.head.now in
    let groups = c.in-Ok.groups in
    let all = rw c.in-Ok.is at c.in_ok-groups.ensures.all in
    let room : 64 + head.text ≤ length file = omega (arith, len, c.requires.text) in
    let same = c.sum_of_text.ensures.seen in
    let start : 64 + head.text ≤ length (d.seen c.sum_of_text.new.disk) = subst (λ f. 64 + head.text ≤ length f) (sym same) room in
    let found : HasAll file (64 + head.text) groups.end groups.lines = subst (λ f. HasAll f (64 + head.text) groups.end groups.lines) same (all (c.has_group_behind.ensures.clean clean) start) in
    part_read file head groups room front fits found
