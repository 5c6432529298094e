-- What an ask tells of the history before it, by position.
-- Where a definition names a class, its source is the Java SE 17 documentation of that class.
-- Where it names no source, it is this project's rule.
use Rattle.std.specs.Prelude.{◌≡◌, ℕ, ◌==◌, ◌++◌, ◌∷◌, ◌⊎◌, ◌↔◌, Bool, true, false, List, length}
use Rattle.std.specs.List.{list_any}
use Rattle.executor_model.specs.declared.types.Answer.TheVariants as a
use Rattle.queue_code.specs.Calls.{Planned, IsOrderly}
use Rattle.executor_model.specs.Histories.{HistoryEntry, IsHistoryOf, starts, finishes, was_accepted, was_cancelled, was_done, was_failed}
use Rattle.executor_laws.specs.Policies.{AscendsFrom, KeptSince, ShutdownWasMade}

-- task k waits: it was accepted and has finished as often as it started, and it was not cancelled, is not done and has
-- not failed
pub record Waits (past : List HistoryEntry) (k : ℕ) : Type 0 where
  pub accepted : was_accepted k past ≡ true
  pub rests : starts k past ≡ finishes k past
  pub uncancelled : was_cancelled k past ≡ false
  pub undone : was_done k past ≡ false
  pub unfailed : was_failed k past ≡ false

-- a run of task k is under way: it has not finished as often as it started
abbrev pub IsUnderWay : List HistoryEntry → ℕ → Type 0
IsUnderWay past k = starts k past ≡ finishes k past → ⊥

-- exactly `count` numbers are so: a list of this length has each of them once, ascending, and no other
pub record IsCountOf (IsSo : ℕ → Type 0) (count : ℕ) : Type 0 where
  pub those : List ℕ
  pub ascending : AscendsFrom 0 those
  pub exact : (k : ℕ) → ((list_any (λ j. j == k) those ≡ true) ↔ IsSo k)
  pub number : length those ≡ count

-- what an ask tells after a history: the size of the queue, how many runs are under way, and whether the executor is
-- shut and is terminated
pub record TellsByPosition (calls : List Planned) (past : List HistoryEntry) (queue running : ℕ) (shut terminated : Bool) : Type 0 where
  -- the tasks that wait, and those that were cancelled while they waited and are kept
  -- (this project's rule, after ScheduledThreadPoolExecutor: "By default, such a cancelled task is not automatically
  -- removed from the work queue until its delay elapses.")
  pub queued : IsCountOf (λ k. Waits past k ⊎ KeptSince calls past k) queue
  pub unfinished : IsCountOf (IsUnderWay past) running
  -- (this project's rule, after ExecutorService.isShutdown: "Returns true if this executor has been shut down.")
  pub shut_down : (shut ≡ true) ↔ ShutdownWasMade calls past
  -- (this project's rule, after ExecutorService.isTerminated: "Returns true if all tasks have completed following shut
  -- down.")
  pub ended : (terminated ≡ true) ↔ (ShutdownWasMade calls past × (queue ≡ 0) × (running ≡ 0))

-- each answer to an ask is so, by the positions before it
abbrev pub AsksByPosition : Type 0
AsksByPosition = (calls : List Planned) (workers : ℕ) (later past : List HistoryEntry) (e : HistoryEntry) (queue running : ℕ) (shut terminated : Bool) → IsOrderly calls
    → IsHistoryOf calls workers (later ++ e ∷ past) → e.answer ≡ a.Ask queue running shut terminated → TellsByPosition calls past queue running shut terminated
