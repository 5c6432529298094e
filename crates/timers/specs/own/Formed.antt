-- What stays true of timers. No contract of a public call cites it but through their invariant.
-- All of it is this project's rule.
use Rattle.std.specs.Prelude.{◌≡◌, ℕ, List, length}
use Rattle.timers.specs.Timers.{TimersView, WereGiven}

-- there are data for each slot; and some data were given, one with each submission
pub record IsKept (m : TimersView) : Type 0 where
  pub size : length m.user_data ≡ length m.live.table.slots
  pub given : List ℕ
  pub were_given : WereGiven m given
