-- Which words may be meant by another.
use Rattle.std.specs.Prelude.{◌≡◌, ◌⊎◌, ℕ, ◌≤◌, List, length, map, nat_eq, Any}
use Rattle.std.specs.Borrow.{Bor}
use Rattle.std.specs.Char.{to_ascii_lowercase}
use Rattle.std.specs.Str.{chars}
use Rattle.strsim.specs.Edits.{levenshtein_row}

-- how many edits lead from a word to another: characters that are added, left out or changed
abbrev pub edits_between : List ℕ → List ℕ → ℕ
edits_between word other = levenshtein_row nat_eq (chars word) (chars other) (length (chars other))

-- a word is the same as another but for the case of ASCII letters
abbrev pub IsSameBut : List ℕ → List ℕ → Type 0
IsSameBut word other = map to_ascii_lowercase word ≡ map to_ascii_lowercase other

-- a text is one of some words, and at most two edits lead to it, or it is the same but for the case of ASCII letters
pub record IsNear (word : List ℕ) (words : List (Bor (List ℕ))) (text : List ℕ) : Type 0 where
  pub among : Any (λ other. other.now ≡ text) words
  pub near : (edits_between word text ≤ 2) ⊎ IsSameBut word text
