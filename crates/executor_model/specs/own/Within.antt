-- Beside `specs/Within`: what only private contracts and proofs cite.
-- All of it is this project's rule.
use Rattle.std.specs.Prelude.{ℕ, ◌≤◌, List}
use Rattle.queue_code.specs.Calls.{Planned}
use Rattle.executor_model.specs.Histories.{HistoryEntry, due_of}
use Rattle.executor_model.specs.Within.{latest_due}

-- no due moment that a history shows is later than the latest one
abbrev pub IsWithin : List Planned → List HistoryEntry → Type 0
IsWithin calls past = (k : ℕ) → due_of calls past k ≤ latest_due
