-- Reading: a text is that of one snapshot (this project's rule).
use Rattle.std.specs.Prelude.{◌≡◌}
use Rattle.snapshot_text.specs.Snapshots.{SnapshotView}
use Rattle.snapshot_text.specs.Spelling.{FitsSnapshot, snapshot_text}

-- one text is that of one snapshot alone
abbrev pub SnapshotsAreOne : Type 0
SnapshotsAreOne = (a b : SnapshotView) → FitsSnapshot a → FitsSnapshot b → snapshot_text a ≡ snapshot_text b → a ≡ b
