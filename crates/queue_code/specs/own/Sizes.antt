-- How large the numbers of a check grow while it meets no fault: a means of proof, in the check's own types.
use Rattle.std.specs.Prelude.{ℕ, ◌+◌, ◌^◌, ◌<◌, ◌≤◌, Option, Some, None}
use Rattle.queue_code.specs.declared.progress.OpenLoop.{OpenLoop}
use Rattle.queue_code.specs.declared.progress.Progress.{Progress}
use Rattle.queue_code.specs.Calls.{most_calls_of_code}

-- after n instructions, those of the open loop: it was begun with numbers in range, and each of its tasks is a call
abbrev pub IsLoopBounded : ℕ → Progress → Option OpenLoop → Type 0
IsLoopBounded n p None = p.tasks ≤ p.calls
IsLoopBounded n p (Some inner) =
    (inner.times ≤ most_calls_of_code) × (inner.every < 2 ^ 64) × (inner.first < 2 ^ 64) × (inner.start ≤ p.calls) × (inner.calls ≤ n) ×
    (inner.start ≤ p.tasks) × (p.tasks ≤ inner.start + inner.calls) × (1 ≤ inner.calls → p.last < 2 ^ 64)

-- after n instructions
pub record IsBounded (n : ℕ) (p : Progress) : Type 0 where
  pub calls : p.calls ≤ most_calls_of_code
  pub last : p.last < 2 ^ 100
  pub open_loop : IsLoopBounded n p p.open_loop
