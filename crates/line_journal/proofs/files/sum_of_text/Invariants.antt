use Rattle.std.proofs.Common.{◌≡◌, ℕ, ◌-◌, Bool, IsTrue, List}
use Rattle.line_journal.proofs.files.sum_of_text.Given as goal

-- nothing was done but to read
pub record IsRead {D : Type 0} (seen : D → List ℕ) (is_clean : D → Bool) (may_leave : D → List ℕ → Type 0) (old now : D) : Type 0 where
  pub same : seen now ≡ seen old
  pub clean : IsTrue (is_clean now) → IsTrue (is_clean old)
  pub leaves : (c : List ℕ) → may_leave now c → may_leave old c

abbrev pub invariant-pieces : goal.invariant-pieces
invariant-pieces g l = IsRead g.D.Disk.seen g.D.Disk.is_clean g.D.Disk.may_leave l.fn.disk l.disk

abbrev pub decreases-pieces : goal.decreases-pieces
decreases-pieces g l = l.bytes - l.at
