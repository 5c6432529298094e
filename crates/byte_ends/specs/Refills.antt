-- Refills: what a refill of the bytes that are held did.
-- All of it is this project's rule.
use Rattle.std.specs.Prelude.{◌≡◌, ℕ, ◌<◌, List, [], ◌++◌, Option, length}
use Rattle.std.specs.Io.KnownBytes.{Consumes, IsAtEnd, Keeps}
use Rattle.byte_ends.specs.declared.held.Filled.{Filled}
use Rattle.byte_ends.specs.declared.held.Filled.TheVariants.{More, End, Fault}
use Rattle.byte_ends.specs.Ends.{IsBadTry, IsGoodTry}

-- how many bytes are held at most (this project's limit)
abbrev pub piece : ℕ
piece = 65536

-- `More`: bytes came in behind those held, one at least; `End`: none is left; `Fault`: nothing changed
abbrev pub Fills : Filled → Option (List ℕ) → Option (List ℕ) → List ℕ → List ℕ → Type 0
Fills More old new held held' = (bytes : List ℕ) × Consumes old new bytes × (held' ≡ held ++ bytes) × (0 < length bytes)
Fills End old new held held' = Consumes old new [] × IsAtEnd new × (held' ≡ held)
Fills Fault old new held held' = Keeps old new × (held' ≡ held)

-- a refill is one try, a bad one at `Fault`, and else a good one
abbrev pub CountsFill : Filled → ℕ → ℕ → ℕ → ℕ → Type 0
CountsFill Fault failed fruitless failed' fruitless' = IsBadTry failed fruitless failed' fruitless'
CountsFill More failed fruitless failed' fruitless' = IsGoodTry failed fruitless failed' fruitless'
CountsFill End failed fruitless failed' fruitless' = IsGoodTry failed fruitless failed' fruitless'
