-- What contracts see of the calls of a code that are made one after the other. All of it is this project's rule.
use Rattle.std.specs.Prelude.{ℕ, List}
use Rattle.queue_code.specs.Calls.{Planned}

-- some calls, and how many of them were made
pub record Course : Type 0 where
  pub items : List Planned
  pub made : ℕ
