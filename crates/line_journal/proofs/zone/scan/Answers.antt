-- one group more
use Rattle.std.proofs.Common.{ℕ, ◌+◌, ◌≤◌, length, min, ap, sym, subst, ◌∙◌, arith}
use Rattle.line_journal.specs.Finding.{HasSome}
use Rattle.line_journal.proofs.Reading.{some_found}
use Rattle.line_journal.proofs.zone.scan.Goals as goal

pub groups-preserved : goal.groups-preserved
groups-preserved g c =
    let was = c.groups.invariant in
    let within = rw c.in-Group.is at c.in_ok-n.ensures.within in
    let low : c.in-Group.n ≤ length c.read_group.new.buffer = omega (arith, within.1, c.read_group.auto.buffer) in
    record {
      begins = omega (arith, was.begins);
      ends = omega (arith, within.0);
      same = c.read_group.ensures.seen ∙ was.same;
      cleaner = λ clean. was.cleaner (c.read_group.ensures.clean clean);
      leaves = λ e left. was.leaves e (c.read_group.ensures.leaves e left);
      some = λ clean first.
          let what = rw c.in-Group.is at (c.in_ok-n.ensures.found clean) in
          let here = rw was.same at what in
          let counted = c.saturating_add.ensures ∙ ap (λ (k : ℕ). min (c.groups.groups.lines + k) 18446744073709551615) c.lines_in.ensures in
          subst (λ (k : ℕ). HasSome (g.D.Disk.seen c.args.disk.now) c.args.start (c.groups.groups.end + (13 + c.in-Group.n)) k) (sym counted)
          (some_found (g.D.Disk.seen c.args.disk.now) c.args.start c.groups.groups.end c.groups.groups.lines 18446744073709551615 c.in-Group.n c.read_group.new.buffer low (was.some (c.read_group.ensures.clean clean) first) here (omega (arith, within.0, c.ranges.len)));
    }
