-- Written: the text of a snapshot, as its parts are given out one behind the other.
use Rattle.std.proofs.Common.{◌≡◌, ℕ, List, ◌++◌, length, ap, sym, ◌∙◌, append_assoc}
use Rattle.std.specs.Prelude.{flat_map}
use Rattle.snapshot_text.specs.Snapshots.{SnapshotView}
use Rattle.snapshot_text.specs.Spelling.{body_text, empty_text, end_text, given_text, head_text, snapshot_text, task_text}
use Rattle.snapshot_text.specs.Sums.{sum_of}

-- the last line
abbrev pub last_line : SnapshotView → List ℕ
last_line s = end_text (length s.tasks, sum_of (body_text s))

-- up to the tasks, to the given numbers, and to the empty slots
abbrev pub to_tasks : SnapshotView → List ℕ
to_tasks s = head_text s.head ++ flat_map task_text s.tasks

abbrev pub to_given : SnapshotView → List ℕ
to_given s = to_tasks s ++ flat_map given_text s.given

abbrev pub to_empty : SnapshotView → List ℕ
to_empty s = to_given s ++ flat_map empty_text s.empty

-- all but the last line
pub is_body : (s : SnapshotView) → to_empty s ≡ body_text s
is_body s =
    append_assoc (to_tasks s) (flat_map given_text s.given) (flat_map empty_text s.empty)
    ∙ append_assoc (head_text s.head) (flat_map task_text s.tasks) (flat_map given_text s.given ++ flat_map empty_text s.empty)

-- what follows each of them
pub behind_empty : (s : SnapshotView) → snapshot_text s ≡ to_empty s ++ last_line s
behind_empty s = ap (λ l. l ++ last_line s) (sym (is_body s))

pub behind_given : (s : SnapshotView) → snapshot_text s ≡ to_given s ++ (flat_map empty_text s.empty ++ last_line s)
behind_given s = behind_empty s ∙ append_assoc (to_given s) (flat_map empty_text s.empty) (last_line s)

pub behind_tasks : (s : SnapshotView) → snapshot_text s ≡ to_tasks s ++ (flat_map given_text s.given ++ (flat_map empty_text s.empty ++ last_line s))
behind_tasks s = behind_given s ∙ append_assoc (to_tasks s) (flat_map given_text s.given) (flat_map empty_text s.empty ++ last_line s)
