use Rattle.std.proofs.Common.{ℕ, ◌≤◌, List, length, take, ap, ◌∙◌, arith}
use Rattle.std.proofs.lemmas.List.{with_items_is}
use Rattle.line_journal.proofs.Placing.{end_place, next_found}
use Rattle.line_journal.proofs.journal.Journal.read_last_group.Goals as goal

pub returns-then-at-end-clause-group : goal.returns-then-at-end-clause-group
returns-then-at-end-clause-group g c clean part stands k few place = end_place part k c.args.at c.args.self.now.last.groups.end stands.half.ends c.if-at-end.true few place

pub returns-in-Group-clause-group : goal.returns-in-Group-clause-group
returns-in-Group-clause-group g c clean part stands k few place =
    let within = rw c.in-Group.is at c.in_ok-n.ensures.within in
    let found = rw c.in-Group.is at (c.in_ok-n.ensures.found clean) in
    let low : c.in-Group.n ≤ length c.read_group.new.buffer = omega (arith, within.1, c.read_group.auto.buffer) in
    let read = next_found (g.D.Disk.seen c.args.self.now.current) part k c.args.at c.in-Group.n c.args.self.now.last.groups.end c.read_group.new.buffer stands.has stands.half.ends c.if-at-end.false low found few place in
    let items = with_items_is c.args.self.now.buffer c.read_group.new.buffer (omega (arith, c.read_group.auto.buffer, c.args.self.now.buffer.ok.0)) in
    (read.0, ap (λ (t : List ℕ). take c.in-Group.n t) items ∙ read.1, read.2)
