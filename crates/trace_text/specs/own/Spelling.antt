-- Beside `specs/Spelling`: what only private contracts and proofs cite.
-- All of it is this project's rule.
use Rattle.std.specs.Prelude.{◌≡◌, ℕ, ◌^◌, ◌<◌, ◌≤◌, length}
use Rattle.std.specs.Fmt.{decimal}
use Rattle.executor_model.specs.declared.CancelEffect.{CancelEffect}

-- a task below 2^32
abbrev pub FitsCancel : ℕ × CancelEffect → Type 0
FitsCancel v = v.0 < 2 ^ 32

-- each number from one on and below another has so many digits
abbrev pub HaveDigits : ℕ → ℕ → ℕ → Type 0
HaveDigits count least behind = (n : ℕ) → least ≤ n → n < behind → length (decimal n) ≡ count
