-- Where a moment stands in a picture. All of it is this project's rule.
use Rattle.std.specs.Prelude.{ℕ, ◌-◌, ◌*◌, ◌/◌, ◌==◌, min, max, if◌then◌else◌}
use Rattle.trace_draw.specs.declared.window.Window.{Window}

-- how much of the window has passed at a moment: none before it, and all behind it
abbrev pub passed : Window → ℕ → ℕ
passed window moment = min (max moment window.from) window.to - window.from

-- where a moment stands in a picture of this width: what has passed of the window, as a part of the width, rounded down, and 0 in
-- a window of one moment
abbrev pub place_of : Window → ℕ → ℕ → ℕ
place_of window width moment = if window.from == window.to then 0 else passed window moment * width / (window.to - window.from)
