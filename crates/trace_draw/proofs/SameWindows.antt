-- Windows from and to the same moments are the same.
use Rattle.std.proofs.Common.{◌≡◌, ◌≤◌}
use mathlib.Core.HLevel.{is_prop→PathP}
use native.Mathlib.Bridge.{le_prop}
use Rattle.trace_draw.specs.declared.window.Window.{Window}

pub same_window : (a b : Window) → a.from ≡ b.from → a.to ≡ b.to → a ≡ b
same_window a b from to = λ i. record { from = from i; to = to i; ordered = is_prop→PathP (λ j. from j ≤ to j) (λ j. le_prop) a.ordered b.ordered i }
