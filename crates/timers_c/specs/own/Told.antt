-- Numbers that are too large for timers. (This project's rule.)
use Rattle.std.specs.Prelude.{◌≡◌, ℕ, ◌≤◌, ◌⊎◌}

-- a number is told as itself below the bound, and as 0 from it on
abbrev pub IsToldAs : ℕ → ℕ → ℕ → Type 0
IsToldAs bound number told = (told ≡ number) ⊎ ((bound ≤ number) × (told ≡ 0))
