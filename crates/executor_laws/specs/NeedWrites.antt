-- The writes of words that the need of a step names. All of it is this project's rule.
use Rattle.std.specs.Prelude.{◌≡◌, ℕ, ◌<◌, ◌==◌, false, List, [], ◌∷◌, map}
use Rattle.std.specs.List.{All, list_any}
use Rattle.task_word.specs.Words.{Parts, is_cancelled}
use Rattle.task_word.specs.Writes.{Kind, submit, start, done, fail, rearm, core_cancel, ChangesWord, sets_bit}
use Rattle.queue_code.specs.Calls.{Planned, IsOrderly, task_count}
use Rattle.executor_model.specs.declared.types.Happening.{Happening}
use Rattle.executor_model.specs.declared.types.Need.{Need}
use Rattle.executor_model.specs.declared.types.Need.TheVariants as n
use Rattle.executor_model.specs.Histories.{HistoryEntry, IsHistoryOf, happenings}
use Rattle.executor_model.specs.State.{State, after, next, reply_of}
use Rattle.executor_model.specs.Tasks.{word_of_task}
use Rattle.executor_model.specs.Needs.{need_of}

-- the writes that a need names, each of the word of a task and of a kind, where the step ends these tasks: a sweep
-- cancels them
abbrev pub writes_of : Need → List ℕ → List (ℕ × Kind)
writes_of n.Nothing ends = []
writes_of (n.Submit k) ends = (k, submit) ∷ []
writes_of (n.Start k) ends = (k, start) ∷ []
writes_of (n.Done k) ends = (k, done) ∷ []
writes_of (n.Fail k) ends = (k, fail) ∷ []
writes_of (n.Rearm k) ends = (k, rearm) ∷ []
writes_of (n.Cancel k) ends = (k, core_cancel) ∷ []
writes_of n.Sweep ends = map (λ k. (k, core_cancel)) ends

-- task k is one of the calls, and a write of the kind takes its word w, which is not cancelled, to the word u, which is
-- cancelled exactly where the write is a cancel
abbrev pub IsWritten : List Planned → ℕ → Kind → Parts → Parts → Type 0
IsWritten calls k kind w u = (k < task_count calls) × ChangesWord kind w u × (is_cancelled w ≡ false) × (is_cancelled u ≡ sets_bit kind)

-- the step of a happening makes each of these writes, and leaves each word as it is of which they name none
pub record MakesWrites (calls : List Planned) (workers : ℕ) (s : State) (happening : Happening) (writes : List (ℕ × Kind)) : Type 0 where
  pub made : All (λ (x : ℕ × Kind). IsWritten calls x.0 x.1 (word_of_task (s.tasks x.0)) (word_of_task ((next calls workers s happening).tasks x.0))) writes
  pub rest : (k : ℕ) → list_any (λ (x : ℕ × Kind). x.0 == k) writes ≡ false → word_of_task ((next calls workers s happening).tasks k) ≡ word_of_task (s.tasks k)

-- after each history of some calls a step makes the writes that its need names
abbrev pub NeedsMoveWords : Type 0
NeedsMoveWords = (calls : List Planned) (workers : ℕ) (past : List HistoryEntry) (happening : Happening) → IsOrderly calls → IsHistoryOf calls workers past
    → let s = after calls workers (happenings past) in
    MakesWrites calls workers s happening (writes_of (need_of calls workers s happening) (reply_of calls workers s happening).ends)
