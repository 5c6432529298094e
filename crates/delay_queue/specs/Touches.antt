-- How often a call touches a queue: it compares two entries, or changes the index of one that stays.
-- All of it is this project's rule.
use Rattle.std.specs.Prelude.{◌≡◌, ℕ, ◌+◌, ◌-◌, ◌*◌, ◌^◌, ◌≤◌, min, length}
use Rattle.std.specs.Int.Digits.{digits_of}

-- how many binary digits a number has, and none for 0
unfoldable pub binary_digits : ℕ → ℕ
binary_digits n = length (digits_of 2 n)

-- how often a call touches a queue with this number of entries, at most
abbrev pub most_touches : ℕ → ℕ
most_touches count = 4 * binary_digits count + 2

-- the count of touches where it stays
abbrev pub greatest_count : ℕ
greatest_count = 2 ^ 64 - 1

-- a call touched the queue at least `least` and at most `most` times, and each time counts, up to the greatest count
pub record Touches (before after least most : ℕ) : Type 0 where
  pub times : ℕ
  pub many : least ≤ times
  pub few : times ≤ most
  pub counted : after ≡ min (before + times) greatest_count
