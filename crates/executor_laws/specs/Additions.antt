-- When calls may be added behind others, once things have happened: as where calls are made while the executor runs.
-- All of it is this project's rule.
use Rattle.std.specs.Prelude.{◌≡◌, ℕ, ◌<◌, ◌≤◌, ◌⊎◌, List, [], ◌∷◌, ◌++◌}
use Rattle.std.specs.List.{All}
use Rattle.executor_model.specs.declared.types.Happening.{Happening}
use Rattle.executor_model.specs.declared.types.Happening.TheVariants as h
use Rattle.executor_model.specs.declared.types.Answer.{Answer}
use Rattle.executor_model.specs.declared.types.Answer.TheVariants as a
use Rattle.queue_code.specs.Calls.{Planned, IsOrderly, task_count}
use Rattle.executor_model.specs.Histories.{HistoryEntry, happenings, now_of, IsHistoryOf}
use Rattle.executor_model.specs.State.{after}
use Rattle.executor_model.specs.Flows.{lines_of}

-- what happened, and was answered so, looks at no call of this moment or a later one, and at no task from the number `count` on:
-- a clock that was accepted is before the moment, and a cancel from outside names a task below `count`, or a number from
-- `never` on, which no call ever has (as 2^64, where tasks are numbered by 64 bits)
abbrev pub LooksBelow : ℕ → ℕ → ℕ → Happening → Answer → Type 0
LooksBelow moment count never (h.Clock t) answer = answer ≡ a.Clock → t < moment
LooksBelow moment count never (h.Cancel k) answer = (k < count) ⊎ (never ≤ k)
LooksBelow moment count never _ answer = Unit {0}

-- nothing that happened looks at them
abbrev pub AllLookBelow : ℕ → ℕ → ℕ → List HistoryEntry → Type 0
AllLookBelow moment count never past = All (λ e. LooksBelow moment count never e.happening e.answer) past

-- after a history of some calls one call more may be added behind them: they are in order with it, their tasks have numbers
-- below `never`, and nothing that happened looks at it
pub record IsOpenFor (calls : List Planned) (past : List HistoryEntry) (never : ℕ) (p : Planned) : Type 0 where
  pub orderly : IsOrderly (calls ++ p ∷ [])
  pub numbers : task_count (calls ++ p ∷ []) ≤ never
  pub below : AllLookBelow p.0 (task_count calls) never past

-- after a history of some calls more of them may be added: all are in order, their tasks have numbers below `never`, and
-- nothing that happened looks at one of those that are added
pub record IsOpenForAll (calls : List Planned) (past : List HistoryEntry) (never : ℕ) (more : List Planned) : Type 0 where
  pub orderly : IsOrderly (calls ++ more)
  pub numbers : task_count (calls ++ more) ≤ never
  pub below : All (λ p. AllLookBelow p.0 (task_count calls) never past) more

-- a history of some calls is one of the longer ones too, has the same lines, and leads to the same state and moment
pub record StandsFor (calls longer : List Planned) (workers : ℕ) (past : List HistoryEntry) : Type 0 where
  pub means : IsHistoryOf longer workers past
  pub lines : lines_of longer past ≡ lines_of calls past
  pub state : after longer workers (happenings past) ≡ after calls workers (happenings past)
  pub now : now_of longer (happenings past) ≡ now_of calls (happenings past)

-- a history of some calls is one of them and one call more
abbrev pub CallsMayBeAdded : Type 0
CallsMayBeAdded = (calls : List Planned) (workers : ℕ) (past : List HistoryEntry) (never : ℕ) (p : Planned) → IsHistoryOf calls workers past
    → IsOpenFor calls past never p → StandsFor calls (calls ++ p ∷ []) workers past

-- a history of some calls is one of them and many calls more
abbrev pub ManyCallsMayBeAdded : Type 0
ManyCallsMayBeAdded = (calls : List Planned) (workers : ℕ) (past : List HistoryEntry) (never : ℕ) (more : List Planned) → IsHistoryOf calls workers past
    → IsOpenForAll calls past never more → StandsFor calls (calls ++ more) workers past
