-- What contracts see of a pool. All of it is this project's rule.
use Rattle.std.specs.Prelude.{ℕ}
use Rattle.worker_pool.specs.Shares.{SharedView}

-- which words and cells it shares with its handles, and how many events the book takes with which it was made
pub record PoolView : Type 0 where
  pub shared : SharedView
  pub limit : ℕ
