-- What becomes of the verdict that an answer tells.
use Rattle.std.specs.Prelude.{◌≡◌, ℕ, Bool, true, false, List, Option, Some, None, option_map, slice_index, slice_index_or}
use Rattle.once_cell.specs.declared.race.note.Note.{Note}
use Rattle.sched_time.specs.declared.timing.Ending.{Ending}
use Rattle.result_cell.specs.declared.verdict.Verdict.{Verdict}
use Rattle.executor_model.specs.declared.types.Answer.{Answer}
use Rattle.executor_model.specs.declared.types.Answer.TheVariants as a
use Rattle.executor_model.specs.declared.types.Need.{Need}
use Rattle.executor_model.specs.declared.types.Need.TheVariants as n
use Rattle.worker_pool.specs.Books.{ending_in, ending_of_outcome}

-- the verdict that an answer tells: of a task that is done, or has failed
abbrev pub verdict_in : Answer → Option Verdict
verdict_in (a.Finish worker task run outcome) = option_map (λ ending. record { task = task; ending = ending }) (ending_of_outcome outcome)
verdict_in _ = None

abbrev pub verdict_told : Option Answer → Option Verdict
verdict_told None = None
verdict_told (Some answer) = verdict_in answer

-- a finish with this need puts a verdict: its task is done, or has failed
abbrev pub puts_verdict : Need → Bool
puts_verdict (n.Done k) = true
puts_verdict (n.Fail k) = true
puts_verdict _ = false

-- there is a note of the cell of a verdict's task, and it knows that verdict
abbrev pub HasNoteOf : List ℕ → List (Option (Note Verdict)) → Verdict → Type 0
HasNoteOf cells notes verdict = (note : Note Verdict) × (slice_index_or notes verdict.task None ≡ Some note) × (note.cell ≡ slice_index cells verdict.task) × (note.known ≡ Some verdict)

-- a note is of the cell of task k, and knows the verdict on it that an answer tells
pub record TookVerdict (cells : List ℕ) (answer : Option Answer) (k : ℕ) (note : Note Verdict) : Type 0 where
  pub said : Answer
  pub answered : answer ≡ Some said
  pub ending : Ending
  pub tells : ending_in k said ≡ Some ending
  pub cell : note.cell ≡ slice_index cells k
  pub known : note.known ≡ Some (record { task = k; ending = ending })
