-- What the core's seat tells of the word that a look met. This project's rule.
use Rattle.std.specs.Prelude.{◌≡◌, ℕ, ◌+◌, ◌<◌, ◌≤◌, slice_index}
use Rattle.task_word.specs.Words.{Parts, is_cancelled, rank}
use Rattle.task_word.specs.Views.{times}
use Rattle.task_word.specs.Rule.{flag}
use Rattle.task_word.specs.declared.views.CoreSeatView.{CoreSeatView}

-- what the core's own list and the joined handles' say of a task whose word is w
pub record CoreTells (v : CoreSeatView) (k : ℕ) (w : Parts) : Type 0 where
  -- a task stands in them once at most, and only where it is cancelled
  pub once : times k v.own + times k v.joined ≤ flag (is_cancelled w)
  -- while no handle is out, each cancelled task stands in them
  pub alone : v.out ≡ 0 → times k v.own + times k v.joined ≡ flag (is_cancelled w)
  -- a joined handle met no higher rank
  pub met : slice_index v.ranks k ≤ rank w
  -- and one that cancelled the task met this very rank
  pub still : 0 < times k v.joined → slice_index v.ranks k ≡ rank w
