-- Fronts: a text that does not begin as a snapshot does is none.
use Rattle.std.proofs.Common.{◌≡◌, List, ℕ, ◌∙◌}
use Rattle.trace_text.specs.Reading.{IsUnread}
use Rattle.snapshot_text.specs.Snapshots.{SnapshotView}
use Rattle.snapshot_text.specs.Spelling.{FitsHead, FitsSnapshot, head_text, snapshot_text}
use Rattle.snapshot_text.proofs.Wholes.{behind_head}

pub no_front : (text : List ℕ) (s : SnapshotView) → IsUnread head_text FitsHead text → FitsSnapshot s → text ≡ snapshot_text s → ⊥
no_front text s never fits is = never s.head (behind_head s).0 fits.head (is ∙ (behind_head s).1)
