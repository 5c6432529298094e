-- Which messages most lines of a trace have.
-- All of it is this project's rule.
use Rattle.std.specs.Prelude.{Bool, true, false}
use Rattle.executor_model.specs.declared.said.Said.{Said}
use Rattle.executor_model.specs.declared.said.Said.TheVariants as s

-- a task is accepted or cancelled, a clock moves, a worker starts a run or finds none, a run is done or is followed by the
-- next, or an event has no effect
abbrev pub is_common : Said → Bool
is_common (s.Submit _ _ _) = true
is_common (s.Cancel _ _) = true
is_common (s.Outside _ _) = true
is_common s.Clock = true
is_common (s.Start _ _ _ _) = true
is_common (s.Idle _) = true
is_common (s.Done _ _ _ _) = true
is_common (s.Again _ _ _ _) = true
is_common (s.Error _) = true
is_common _ = false
