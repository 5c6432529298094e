use Rattle.std.proofs.Common.{◌≡◌, ℕ, ◌-◌, Bool, IsTrue, List}
use Rattle.line_journal.proofs.zone.has_group_behind.Given as goal

-- nothing was done but to read
pub record IsRead {D : Type 0} (seen : D → List ℕ) (is_clean : D → Bool) (may_leave : D → List ℕ → Type 0) (old now : D) : Type 0 where
  pub same : seen now ≡ seen old
  pub clean : IsTrue (is_clean now) → IsTrue (is_clean old)
  pub leaves : (c : List ℕ) → may_leave now c → may_leave old c

abbrev pub invariant-blocks-2 : goal.invariant-blocks-2
invariant-blocks-2 g l = IsRead g.D.Disk.seen g.D.Disk.is_clean g.D.Disk.may_leave l.fn.disk l.disk

abbrev pub invariant-loop-i : goal.invariant-loop-i
invariant-loop-i g l = IsRead g.D.Disk.seen g.D.Disk.is_clean g.D.Disk.may_leave l.fn.disk l.disk

abbrev pub decreases-blocks-2 : goal.decreases-blocks-2
decreases-blocks-2 g l = l.len - l.at
