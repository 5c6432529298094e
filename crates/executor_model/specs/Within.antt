-- Histories that are answered by the table, whatever may come in them, and their due moments.
-- All of it is this project's rule.
use Rattle.std.specs.Prelude.{◌≡◌, ℕ, ◌+◌, List, [], ◌∷◌}
use Rattle.sched_time.specs.Times.{longest}
use Rattle.queue_code.specs.Calls.{Planned}
use Rattle.executor_model.specs.Histories.{HistoryEntry, answer}

-- each answer of a history is the table's for what stands before it, whatever may come there
abbrev pub IsAnsweredByTable : List Planned → ℕ → List HistoryEntry → Type 0
IsAnsweredByTable calls workers [] = Unit {0}
IsAnsweredByTable calls workers (e ∷ past) = IsAnsweredByTable calls workers past × (e.answer ≡ (answer calls workers past e.happening).answer) × (e.ends ≡ (answer calls workers past e.happening).ends)

-- the latest due moment: the latest moment and the longest span
abbrev pub latest_due : ℕ
latest_due = longest + longest
