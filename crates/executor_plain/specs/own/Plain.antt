-- What contracts of the plain program ask of calls and of histories.
-- All of it is this project's rule.
use Rattle.std.specs.Prelude.{ℕ, List}
use Rattle.queue_code.specs.Calls.{Planned, IsOrderlyFrom}
use Rattle.executor_model.specs.Histories.{HistoryEntry}
use Rattle.executor_model.specs.Within.{IsAnsweredByTable}

-- the calls are in order after some others
abbrev pub IsOrderlyPart : List Planned → Type 0
IsOrderlyPart calls = (count : ℕ) × (moment : ℕ) × IsOrderlyFrom count moment calls

-- each answer of a history is the table's, for some number of workers
abbrev pub IsAnsweredBySome : List Planned → List HistoryEntry → Type 0
IsAnsweredBySome calls past = (workers : ℕ) × IsAnsweredByTable calls workers past
