-- How long a text may be. It is this project's rule.
use Rattle.std.specs.Prelude.{ℕ}

-- the greatest number of bytes of a text (this project's limit)
abbrev pub most_bytes : ℕ
most_bytes = 67108864
