-- The number is sought between two places: those before are below it, and those behind are above.
use Rattle.std.proofs.Common.{◌≡◌, ℕ, ◌-◌, ◌<◌, ◌≤◌, Some, length}
use Rattle.std.specs.Prelude.{slice_get}
use Rattle.live_core.proofs.index.place_of.Given as goal

abbrev pub invariant-loop-low : goal.invariant-loop-low
invariant-loop-low l = record {
  within : l.high ≤ length l.numbers;
  below : (i x : ℕ) → i < l.low → slice_get l.numbers i ≡ Some x → x < l.number;
  above : (i x : ℕ) → l.high ≤ i → slice_get l.numbers i ≡ Some x → l.number < x;
}

abbrev pub decreases-loop-low : goal.decreases-loop-low
decreases-loop-low l = l.high - l.low
