-- the pieces that are written so far
use Rattle.std.proofs.Common.{◌≡◌, ℕ, ◌-◌, ◌≤◌, Bool, IsTrue, List}
use Rattle.sqlite_disk.specs.Disk.{Follows}
use Rattle.line_journal.specs.Resting.{KeepsBelow, IsBlank, Blanks, Mixes}
use Rattle.line_journal.proofs.tail.put_zeros.Given as goal

pub record IsSoFar {D : Type 0} (seen : D → List ℕ) (may_leave : D → List ℕ → Type 0) (is_mixing is_usable is_clean : D → Bool) (old now : D) (from at : ℕ) : Type 0 where
  pub place : from ≤ at
  pub usable : IsTrue (is_usable now)
  pub mixing : is_mixing now ≡ is_mixing old
  pub below : KeepsBelow from (seen old) (seen now)
  pub crash : Follows (KeepsBelow from) (may_leave old) (may_leave now)
  pub blank : IsBlank (seen now) from at
  pub blanks : Mixes is_mixing → Follows (Blanks from) (may_leave old) (may_leave now)
  pub clean : is_clean now ≡ is_clean old

abbrev pub invariant-pieces : goal.invariant-pieces
invariant-pieces g l = IsSoFar g.D.Disk.seen g.D.Disk.may_leave g.D.Disk.is_mixing g.D.Disk.is_usable g.D.Disk.is_clean l.fn.disk l.disk l.from l.at

abbrev pub decreases-pieces : goal.decreases-pieces
decreases-pieces g l = l.to - l.at
