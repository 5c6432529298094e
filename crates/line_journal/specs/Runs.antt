-- What a journal keeps over a whole run, with crashes and errors anywhere (this project's rule).
use Rattle.std.specs.Prelude.{◌≡◌, ◌⊎◌, ℕ, ◌-◌, ◌^◌, List, [], ◌∷◌, ◌++◌, min}
use Rattle.line_journal.specs.Groups.{lines_of}
use Rattle.line_journal.specs.Parts.{Part, with_group, snapshot_of, next_head}

-- a group that was handed in, or a snapshot that was ended, and was answered `Ok`; or it was not, since it failed or the machine stopped
pub data Event : Type 0 where
  answered : List ℕ → Event
  unanswered : List ℕ → Event
  covered : List ℕ → Event
  uncovered : List ℕ → Event

-- what the files stand for then; to open them changes nothing of it, however often that is tried
abbrev pub May : Part → Event → Part → Type 0
May p (answered group) q = q ≡ with_group p group
May p (unanswered group) q = (q ≡ p) ⊎ (q ≡ with_group p group)
May p (covered text) q = q ≡ snapshot_of (next_head p text) text
May p (uncovered text) q = (q ≡ p) ⊎ (q ≡ snapshot_of (next_head p text) text)

abbrev pub Leads : Part → List Event → Part → Type 0
Leads p [] q = q ≡ p
Leads p (event ∷ events) q = (m : Part) × May p event m × Leads m events q

-- of the groups that were handed in all that were answered, and any of the others, in order
abbrev pub KeepsAnswered : List Event → List (List ℕ) → Type 0
KeepsAnswered [] kept = kept ≡ []
KeepsAnswered (answered group ∷ events) kept = (rest : List (List ℕ)) × (kept ≡ group ∷ rest) × KeepsAnswered events rest
KeepsAnswered (unanswered group ∷ events) kept = KeepsAnswered events kept ⊎ ((rest : List (List ℕ)) × (kept ≡ group ∷ rest) × KeepsAnswered events rest)
KeepsAnswered (covered text ∷ events) kept = KeepsAnswered events kept
KeepsAnswered (uncovered text ∷ events) kept = KeepsAnswered events kept

-- a part has these groups from the first on: the snapshot covers those that do not stand behind it
abbrev pub IsOf : Part → List (List ℕ) → Type 0
IsOf part groups = (before : List (List ℕ)) × (groups ≡ before ++ part.groups) × (part.head.covers ≡ min (lines_of before) (2 ^ 64 - 1))

-- handed in without an error, and then one group more, of which nothing is known
abbrev pub one_run : List (List ℕ) → List ℕ → List Event
one_run [] last = unanswered last ∷ []
one_run (group ∷ groups) last = answered group ∷ one_run groups last
