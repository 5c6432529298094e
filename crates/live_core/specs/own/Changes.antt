-- What each call makes of an executor, exactly, where its table is so. No contract of a public call cites it.
-- All of it is this project's rule.
use Rattle.std.specs.Prelude.{ℕ, ◌+◌, []}
use Rattle.task_table.specs.Tables.{TableView}
use Rattle.live_core.specs.Lives.{LiveView}

-- a submission is accepted
abbrev pub accepting : LiveView → TableView → LiveView
accepting m table = record { table = table; count = m.count + 1; accepted = m.accepted + 1; earliest = m.earliest; ended = [] }

-- a submission is rejected
abbrev pub rejecting : LiveView → TableView → LiveView
rejecting m table = record { table = table; count = m.count + 1; accepted = m.accepted; earliest = m.earliest; ended = [] }

-- a clock that shows t is accepted: the call that comes next is behind it
abbrev pub clocking : LiveView → TableView → ℕ → LiveView
clocking m table t = record { table = table; count = m.count; accepted = m.accepted; earliest = t + 1; ended = [] }
