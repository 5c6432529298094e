use Rattle.std.proofs.Common.{◌≡◌, ◌-◌, ◌≤◌, drop, length}
use Rattle.std.specs.Prelude.{vec_len}
use Rattle.pool_engine.specs.own.ClockLines.{TakesClocks}
use Rattle.pool_engine.proofs.clocks.take_clocks.Given as goal

-- the clock lines in front of `rest` were taken
abbrev pub invariant-loop-split : goal.invariant-loop-split
invariant-loop-split g l = record {
  taken : TakesClocks l.held (length l.held - length l.rest) l.fn.moments.items l.moments.items;
  behind : l.rest ≡ drop (length l.held - length l.rest) l.held;
  bound : length l.rest ≤ length l.held;
  few : vec_len l.moments ≤ l.limit;
}

abbrev pub decreases-loop-split : goal.decreases-loop-split
decreases-loop-split g l = length l.rest
