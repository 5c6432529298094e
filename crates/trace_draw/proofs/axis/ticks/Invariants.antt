use Rattle.std.proofs.Common.{◌≡◌, ◌+◌, ◌≤◌, map, nat_le}
use Rattle.std.specs.List.{filter, range_with_len}
use Rattle.trace_draw.specs.Ticks.{tick_at}
use Rattle.trace_draw.proofs.axis.ticks.Given as goal

abbrev pub invariant-loop-number : goal.invariant-loop-number
invariant-loop-number g l = record {
  near : l.number ≤ l.number-end + 1;
  ticks : l.ticks.items ≡ filter (λ tick. nat_le l.from tick.moment) (map (tick_at (l.count, l.unit)) (range_with_len 0 l.number));
}
