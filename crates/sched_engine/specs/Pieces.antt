-- Pieces: what a refill of the bytes at hand did, and what was given out.
-- All of it is this project's rule.
use Rattle.std.specs.Prelude.{◌≡◌, ℕ, Bool, true, false, List, ◌++◌, Option, take}
use Rattle.std.specs.Io.KnownBytes.{Appends}

-- what was given out: what the writer has, and the text behind it that was not written yet
pub record Output : Type 0 where
  pub contents : Option (List ℕ)
  pub text : List ℕ

-- a text was given out: some of the text at hand, and of this text behind it, was written, and the rest is at hand
abbrev pub Gives : Output → Output → List ℕ → Type 0
Gives old new more = (written : List ℕ) × Appends old.contents new.contents written × (old.text ++ more ≡ written ++ new.text)

-- `true`: a text was given out; `false`: a front of the text at hand, and of this text behind it, was written
abbrev pub GivesText : Bool → Output → Output → List ℕ → Type 0
GivesText true old new more = Gives old new more
GivesText false old new more = (n : ℕ) × Appends old.contents new.contents (take n (old.text ++ more))
