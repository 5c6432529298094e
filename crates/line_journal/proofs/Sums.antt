-- Sums: the sum of a text does not depend on its pieces.
use Rattle.std.proofs.Common.{◌≡◌, ℕ, List, [], ◌++◌, refl, sym}
use Rattle.std.specs.Hash.DefaultHasher.{write, write_byte, initial}
use Rattle.std.proofs.lemmas.List.Sums.{fold-append}

pub write_none : initial ≡ write initial []
unfolding write
write_none = refl

pub write_more : (bytes piece : List ℕ) → write (write initial bytes) piece ≡ write initial (bytes ++ piece)
unfolding write
write_more bytes piece = sym (fold-append write_byte initial bytes piece)
