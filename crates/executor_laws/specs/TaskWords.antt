-- What the words of a core say of a history. All of it is this project's rule.
use Rattle.std.specs.Prelude.{◌≡◌, ℕ, ◌+◌, ◌≤◌, ◌↔◌, true, false, List, ◌∷◌}
use Rattle.task_word.specs.declared.phases.Phase.{Phase as WordPhase}
use Rattle.task_word.specs.declared.phases.Phase.TheVariants as w
use Rattle.task_word.specs.Words.{Parts, rank, is_cancelled}
use Rattle.executor_model.specs.declared.types.EventError.{EventError}
use Rattle.executor_model.specs.declared.types.Happening.{Happening}
use Rattle.executor_model.specs.declared.types.Answer.TheVariants as a
use Rattle.queue_code.specs.Calls.{Planned}
use Rattle.executor_model.specs.View.{is_waiting, is_running}
use Rattle.executor_model.specs.Histories.{HistoryEntry, IsHistoryOf, view_of_history, happenings, starts, was_accepted, was_cancelled, was_done, was_failed}
use Rattle.executor_model.specs.State.{State, after, next, reply_of}
use Rattle.executor_model.specs.Tasks.{word_of_task}

-- the word of task k in the state that a history leads to
abbrev pub word_after : List Planned → ℕ → List HistoryEntry → ℕ → Parts
word_after calls workers past k = word_of_task ((after calls workers (happenings past)).tasks k)

-- how often a task has started, by the phase and the run of its word: a vacant one never, one that waits once for
-- each run before `run`, and any other one for that run too
abbrev pub starts_of_word : WordPhase → ℕ → ℕ
starts_of_word w.Vacant run = 0
starts_of_word w.New run = run
starts_of_word w.Running run = 1 + run
starts_of_word w.Done run = 1 + run
starts_of_word w.Failed run = 1 + run

-- a word says of task k what the history shows: whether it was accepted, waits, is run, is done, has failed, was
-- cancelled or ended, and how often it started
pub record TellsHistory (calls : List Planned) (past : List HistoryEntry) (k : ℕ) (word : Parts) : Type 0 where
  pub vacant : (word.phase ≡ w.Vacant) ↔ (was_accepted k past ≡ false)
  -- where the word is not cancelled, it is new exactly when the task waits, and running exactly when a run of it is under
  -- way
  pub waiting : is_cancelled word ≡ false → ((word.phase ≡ w.New) ↔ (is_waiting ((view_of_history calls past).fate k) ≡ true))
  pub running : is_cancelled word ≡ false → ((word.phase ≡ w.Running) ↔ (is_running ((view_of_history calls past).fate k) ≡ true))
  pub done : (word.phase ≡ w.Done) ↔ (was_done k past ≡ true)
  pub failed : (word.phase ≡ w.Failed) ↔ (was_failed k past ≡ true)
  pub cancelled : is_cancelled word ≡ was_cancelled k past
  pub started : starts_of_word word.phase word.run ≡ starts k past
  -- the word of a task that was not accepted is the vacant one
  pub fresh : word.phase ≡ w.Vacant → (word.run ≡ 0) × (word.marked ≡ false)

-- the word of each task says what the history shows
abbrev pub WordsTellTheHistory : Type 0
WordsTellTheHistory = (calls : List Planned) (workers : ℕ) (past : List HistoryEntry) (k : ℕ) → IsHistoryOf calls workers past → TellsHistory calls past k (word_after calls workers past k)

-- no answer lowers the rank of a word
abbrev pub RanksDoNotFall : Type 0
RanksDoNotFall = (calls : List Planned) (workers : ℕ) (past : List HistoryEntry) (e : HistoryEntry) (k : ℕ) → IsHistoryOf calls workers (e ∷ past)
    → rank (word_after calls workers past k) ≤ rank (word_after calls workers (e ∷ past) k)

-- a cancelled word stands still
abbrev pub CancelledWordsStay : Type 0
CancelledWordsStay = (calls : List Planned) (workers : ℕ) (past : List HistoryEntry) (e : HistoryEntry) (k : ℕ) → IsHistoryOf calls workers (e ∷ past)
    → is_cancelled (word_after calls workers past k) ≡ true → word_after calls workers (e ∷ past) k ≡ word_after calls workers past k

-- a happening that is answered by an error leaves the state as it is
abbrev pub ErrorsChangeNothing : Type 0
ErrorsChangeNothing = (calls : List Planned) (workers : ℕ) (s : State) (happening : Happening) (error : EventError)
    → (reply_of calls workers s happening).answer ≡ a.Error error → next calls workers s happening ≡ s
