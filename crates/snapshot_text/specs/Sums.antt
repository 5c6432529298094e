-- Sums: the number that is written behind a text, so that decay of it is found (this project's rule).
use Rattle.std.specs.Prelude.{ℕ, ◌+◌, ◌*◌, ◌%◌, ◌^◌, List, [], ◌∷◌}

-- what a sum is multiplied by at each byte: odd, so that no two sums come to one
abbrev pub factor : ℕ
factor = 6364136223846793005

-- the sum of bytes behind a text that has this sum
abbrev pub sum_from : ℕ → List ℕ → ℕ
sum_from so_far [] = so_far
sum_from so_far (byte ∷ bytes) = sum_from ((so_far * factor % 2 ^ 64 + byte) % 2 ^ 64) bytes

-- the sum of a text
abbrev pub sum_of : List ℕ → ℕ
sum_of bytes = sum_from 1 bytes
