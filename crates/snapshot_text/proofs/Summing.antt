-- Summing: the sum of a text, byte by byte and piece by piece.
use Rattle.std.proofs.Common.{◌≡◌, ℕ, ◌+◌, ◌*◌, ◌%◌, ◌^◌, ◌<◌, List, [], ◌∷◌, ◌++◌, length, take, ap, ◌∙◌, refl}
use Rattle.std.specs.Prelude.{slice_index_or}
use Rattle.std.proofs.lemmas.List.{take_more}
use Rattle.snapshot_text.specs.Sums.{factor, sum_from}

-- one byte more
sum_last : (so_far : ℕ) (bytes : List ℕ) (byte : ℕ) → sum_from so_far (bytes ++ byte ∷ []) ≡ (sum_from so_far bytes * factor % 2 ^ 64 + byte) % 2 ^ 64
sum_last so_far [] byte = refl
sum_last so_far (b ∷ bytes) byte = sum_last ((so_far * factor % 2 ^ 64 + b) % 2 ^ 64) bytes byte

-- the next byte of a text
pub sums_more : (so_far : ℕ) (bytes : List ℕ) (i : ℕ) → i < length bytes
    → sum_from so_far (take (i + 1) bytes) ≡ (sum_from so_far (take i bytes) * factor % 2 ^ 64 + slice_index_or bytes i 0) % 2 ^ 64
sums_more so_far bytes i l = ap (sum_from so_far) (take_more bytes i 0 l) ∙ sum_last so_far (take i bytes) (slice_index_or bytes i 0)

-- two texts, one behind the other
pub sum_behind : (so_far : ℕ) (one other : List ℕ) → sum_from so_far (one ++ other) ≡ sum_from (sum_from so_far one) other
sum_behind so_far [] other = refl
sum_behind so_far (b ∷ one) other = sum_behind ((so_far * factor % 2 ^ 64 + b) % 2 ^ 64) one other
