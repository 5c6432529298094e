-- the groups that are read so far
use Rattle.std.proofs.Common.{◌≡◌, ℕ, ◌-◌, ◌≤◌, Bool, IsTrue, List, length}
use Rattle.line_journal.specs.Finding.{HasSome}
use Rattle.line_journal.proofs.zone.scan.Given as goal

pub record IsSoFar {D : Type 0} (seen : D → List ℕ) (is_clean : D → Bool) (may_leave : D → List ℕ → Type 0) (old now : D) (start end lines len : ℕ) : Type 0 where
  pub begins : start ≤ end
  pub ends : end ≤ len
  pub same : seen now ≡ seen old
  pub cleaner : IsTrue (is_clean now) → IsTrue (is_clean old)
  pub some : IsTrue (is_clean now) → start ≤ length (seen old) → HasSome (seen old) start end lines
  pub leaves : (c : List ℕ) → may_leave now c → may_leave old c

abbrev pub invariant-groups : goal.invariant-groups
invariant-groups g l = IsSoFar g.D.Disk.seen g.D.Disk.is_clean g.D.Disk.may_leave l.fn.disk l.disk l.start l.groups.end l.groups.lines l.len

abbrev pub decreases-groups : goal.decreases-groups
decreases-groups g l = l.len - l.groups.end
