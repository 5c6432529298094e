-- What contracts see of a journal of calls, and a journal with one call more.
-- All of it is this project's rule.
use Rattle.std.specs.Prelude.{◌≡◌, ℕ, ◌<◌, ◌≤◌, ◌&&◌, nat_lt, Bool, true, false, if◌then◌else◌, List, [], ◌∷◌, ◌++◌, length}
use Rattle.plan_read.specs.Plans.{most_calls}
use Rattle.call_journal.specs.declared.journal.MadeCall.{MadeCall}

-- the calls that were made, in order; whether they are wanted; whether there were more; and how many calls there is room for
pub record JournalView : Type 0 where
  pub calls : List MadeCall
  pub is_wanted : Bool
  pub is_over : Bool
  pub room : ℕ

-- What holds of each journal: it has no more calls than a plan, none where they are not wanted, and there were more only where it
-- has as many as a plan.
pub record IsJournal (j : JournalView) : Type 0 where
  pub few : length j.calls ≤ most_calls
  pub wanted : j.is_wanted ≡ false → j.calls ≡ []
  pub full : j.is_over ≡ true → length j.calls ≡ most_calls

-- one more call is kept: calls are wanted, and there are fewer than a plan may have
abbrev pub keeps_more : JournalView → Bool
keeps_more j = j.is_wanted && nat_lt (length j.calls) most_calls

-- there is room for one more call, where one more is kept
abbrev pub HasRoom : JournalView → Type 0
HasRoom j = keeps_more j ≡ true → length j.calls < j.room

-- the journal once a call was made: with it, where it is kept, and else with the note that there were more, where calls are wanted
abbrev pub noted : JournalView → MadeCall → JournalView
noted j call =
    if keeps_more j then record j { calls = j.calls ++ call ∷ [] } else
    (if j.is_wanted then record j { is_over = true } else j)
