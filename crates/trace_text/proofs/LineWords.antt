-- The numbers and the words of a trace's lines, and the outcome of a run: each is read once.
use Rattle.std.proofs.Common.{◌≡◌, ℕ, ◌^◌, true, false, List, [], ◌++◌, ap, sym, ◌∙◌, refl, arith, append_assoc, codes}
use Rattle.std.specs.Fmt.{decimal}
use Rattle.std.proofs.lemmas.List.{append_cancel_left}
use Rattle.sched_time.specs.declared.policies.Which.TheVariants as which
use Rattle.executor_model.specs.declared.Kind.TheVariants as kind
use Rattle.executor_model.specs.declared.Refusal.TheVariants as refusal
use Rattle.executor_model.specs.declared.EventError.TheVariants as error
use Rattle.executor_model.specs.declared.CancelEffect.TheVariants as effect
use Rattle.executor_model.specs.declared.Outcome.{Outcome}
use Rattle.executor_model.specs.declared.Outcome.TheVariants as outcome
use Rattle.trace_text.specs.Spelling.{kind_text, refusal_text, error_text, effect_text, whether_text, outcome_text, FitsOutcome}
use Rattle.sched_time.specs.Policies.{policy_text, truth_text}
use Rattle.trace_text.specs.Reading.{IsUnread, Below, Any, text_then}
use Rattle.trace_text.proofs.Clashes.{clashes}
use Rattle.trace_text.proofs.Parts.{IsOnce, number_once}

-- ---- numbers

-- a worker before ` task ` is read once
pub worker_task_once : IsOnce (text_then decimal (codes " task ")) (Below (2 ^ 8))
worker_task_once = number_once (2 ^ 8) (codes " task ") (omega arith) (λ r. omega (arith, r)) (omega arith)

-- a worker before a space
pub worker_once : IsOnce (text_then decimal (codes " ")) (Below (2 ^ 8))
worker_once = number_once (2 ^ 8) (codes " ") (omega arith) (λ r. omega (arith, r)) (omega arith)

-- a task before ` run `
pub task_run_once : IsOnce (text_then decimal (codes " run ")) (Below (2 ^ 32))
task_run_once = number_once (2 ^ 32) (codes " run ") (omega arith) (λ r. omega (arith, r)) (omega arith)

-- a task before a space
pub task_once : IsOnce (text_then decimal (codes " ")) (Below (2 ^ 32))
task_once = number_once (2 ^ 32) (codes " ") (omega arith) (λ r. omega (arith, r)) (omega arith)

-- a task before the newline
pub last_task_once : IsOnce (text_then decimal (codes "\n")) (Below (2 ^ 32))
last_task_once = number_once (2 ^ 32) (codes "\n") (omega arith) (λ r. omega (arith, r)) (omega arith)

-- a run before ` due `
pub run_due_once : IsOnce (text_then decimal (codes " due ")) (Below (2 ^ 64))
run_due_once = number_once (2 ^ 64) (codes " due ") (omega arith) (λ r. omega (arith, r)) (omega arith)

-- a run before a space
pub run_once : IsOnce (text_then decimal (codes " ")) (Below (2 ^ 64))
run_once = number_once (2 ^ 64) (codes " ") (omega arith) (λ r. omega (arith, r)) (omega arith)

-- a number before the newline
pub last_number_once : IsOnce (text_then decimal (codes "\n")) (Below (2 ^ 64))
last_number_once = number_once (2 ^ 64) (codes "\n") (omega arith) (λ r. omega (arith, r)) (omega arith)

-- a number of tasks before ` running `
pub queue_once : IsOnce (text_then decimal (codes " running ")) (Below (2 ^ 32))
queue_once = number_once (2 ^ 32) (codes " running ") (omega arith) (λ r. omega (arith, r)) (omega arith)

-- a number of tasks before ` shutdown `
pub running_once : IsOnce (text_then decimal (codes " shutdown ")) (Below (2 ^ 32))
running_once = number_once (2 ^ 32) (codes " shutdown ") (omega arith) (λ r. omega (arith, r)) (omega arith)

-- ---- words

-- the kind of a task before ` due `
pub kind_once : IsOnce (text_then kind_text (codes " due ")) Any
kind_once kind.Schedule kind.Schedule s t p q h = (refl, append_cancel_left (codes "schedule due ") s t h)
kind_once kind.Rate kind.Rate s t p q h = (refl, append_cancel_left (codes "rate due ") s t h)
kind_once kind.Fixed kind.Fixed s t p q h = (refl, append_cancel_left (codes "fixed due ") s t h)
kind_once kind.Schedule f s t p q h = absurd (clashes (codes "schedule due ") (text_then kind_text (codes " due ") f) s t refl h)
kind_once kind.Rate f s t p q h = absurd (clashes (codes "rate due ") (text_then kind_text (codes " due ") f) s t refl h)
kind_once kind.Fixed f s t p q h = absurd (clashes (codes "fixed due ") (text_then kind_text (codes " due ") f) s t refl h)

-- a reason before the newline
pub refusal_once : IsOnce (text_then refusal_text (codes "\n")) Any
refusal_once refusal.Illegal refusal.Illegal s t p q h = (refl, append_cancel_left (codes "illegal\n") s t h)
refusal_once refusal.Rejected refusal.Rejected s t p q h = (refl, append_cancel_left (codes "rejected\n") s t h)
refusal_once refusal.Illegal f s t p q h = absurd (clashes (codes "illegal\n") (text_then refusal_text (codes "\n") f) s t refl h)
refusal_once refusal.Rejected f s t p q h = absurd (clashes (codes "rejected\n") (text_then refusal_text (codes "\n") f) s t refl h)

-- an effect before the newline
pub effect_once : IsOnce (text_then effect_text (codes "\n")) Any
effect_once effect.Yes effect.Yes s t p q h = (refl, append_cancel_left (codes "yes\n") s t h)
effect_once effect.No effect.No s t p q h = (refl, append_cancel_left (codes "no\n") s t h)
effect_once effect.Absent effect.Absent s t p q h = (refl, append_cancel_left (codes "none\n") s t h)
effect_once effect.Yes f s t p q h = absurd (clashes (codes "yes\n") (text_then effect_text (codes "\n") f) s t refl h)
effect_once effect.No f s t p q h = absurd (clashes (codes "no\n") (text_then effect_text (codes "\n") f) s t refl h)
effect_once effect.Absent f s t p q h = absurd (clashes (codes "none\n") (text_then effect_text (codes "\n") f) s t refl h)

-- a policy
pub policy_word_once : IsOnce policy_text Any
policy_word_once which.Continue which.Continue s t p q h = (refl, append_cancel_left (policy_text which.Continue) s t h)
policy_word_once which.Execute which.Execute s t p q h = (refl, append_cancel_left (policy_text which.Execute) s t h)
policy_word_once which.Remove which.Remove s t p q h = (refl, append_cancel_left (policy_text which.Remove) s t h)
policy_word_once which.Continue f s t p q h = absurd (clashes (policy_text which.Continue) (policy_text f) s t refl h)
policy_word_once which.Execute f s t p q h = absurd (clashes (policy_text which.Execute) (policy_text f) s t refl h)
policy_word_once which.Remove f s t p q h = absurd (clashes (policy_text which.Remove) (policy_text f) s t refl h)

-- a policy before a space
pub policy_once : IsOnce (text_then policy_text (codes " ")) Any
policy_once v u s t p q h =
    let r = policy_word_once v u (codes " " ++ s) (codes " " ++ t) p q (sym (append_assoc (policy_text v) (codes " ") s) ∙ (h ∙ append_assoc (policy_text u) (codes " ") t)) in
    (r.0, append_cancel_left (codes " ") s t r.1)

-- what a policy is set to, before the newline
pub truth_once : IsOnce (text_then truth_text (codes "\n")) Any
truth_once true true s t p q h = (refl, append_cancel_left (codes "true\n") s t h)
truth_once false false s t p q h = (refl, append_cancel_left (codes "false\n") s t h)
truth_once true false s t p q h = absurd (clashes (codes "true\n") (codes "false\n") s t refl h)
truth_once false true s t p q h = absurd (clashes (codes "false\n") (codes "true\n") s t refl h)

-- whether something is so, before any word
pub whether_once : (word : List ℕ) → IsOnce (text_then whether_text word) Any
whether_once word true true s t p q h = (refl, append_cancel_left (codes "yes" ++ word) s t h)
whether_once word false false s t p q h = (refl, append_cancel_left (codes "no" ++ word) s t h)
whether_once word true false s t p q h = absurd (clashes (codes "yes") (codes "no") (word ++ s) (word ++ t) refl h)
whether_once word false true s t p q h = absurd (clashes (codes "no") (codes "yes") (word ++ s) (word ++ t) refl h)

-- why an event had no effect, before the newline
pub error_once : IsOnce (text_then error_text (codes "\n")) Any
error_once error.Backward error.Backward s t p q h = (refl, append_cancel_left (codes "backward\n") s t h)
error_once error.TooFar error.TooFar s t p q h = (refl, append_cancel_left (codes "too far\n") s t h)
error_once error.NoWorker error.NoWorker s t p q h = (refl, append_cancel_left (codes "no worker\n") s t h)
error_once error.Busy error.Busy s t p q h = (refl, append_cancel_left (codes "busy\n") s t h)
error_once error.NotRunning error.NotRunning s t p q h = (refl, append_cancel_left (codes "not running\n") s t h)
error_once error.NoTask error.NoTask s t p q h = (refl, append_cancel_left (codes "no task\n") s t h)
error_once error.Backward f s t p q h = absurd (clashes (codes "backward\n") (text_then error_text (codes "\n") f) s t refl h)
error_once error.TooFar f s t p q h = absurd (clashes (codes "too far\n") (text_then error_text (codes "\n") f) s t refl h)
error_once error.NoWorker f s t p q h = absurd (clashes (codes "no worker\n") (text_then error_text (codes "\n") f) s t refl h)
error_once error.Busy f s t p q h = absurd (clashes (codes "busy\n") (text_then error_text (codes "\n") f) s t refl h)
error_once error.NotRunning f s t p q h = absurd (clashes (codes "not running\n") (text_then error_text (codes "\n") f) s t refl h)
error_once error.NoTask f s t p q h = absurd (clashes (codes "no task\n") (text_then error_text (codes "\n") f) s t refl h)

-- ---- the outcome of a run, behind its space

-- what a finished run led to, behind its space
abbrev pub outcome_words : Outcome → List ℕ
outcome_words (outcome.Done v) = codes "done " ++ text_then decimal (codes "\n") v
outcome_words (outcome.Failed c) = codes "failed " ++ text_then decimal (codes "\n") c
outcome_words (outcome.Again d) = codes "again due " ++ text_then decimal (codes "\n") d
outcome_words outcome.Dropped = codes "dropped\n"
outcome_words outcome.Ended = codes "ended\n"

-- an outcome begins with a space
pub outcome_is : (o : Outcome) → outcome_text o ≡ codes " " ++ outcome_words o
outcome_is (outcome.Done v) = refl
outcome_is (outcome.Failed c) = refl
outcome_is (outcome.Again d) = refl
outcome_is outcome.Dropped = refl
outcome_is outcome.Ended = refl

-- the word that an outcome begins with, and what follows it
abbrev outcome_word : Outcome → List ℕ
outcome_word (outcome.Done v) = codes "done "
outcome_word (outcome.Failed c) = codes "failed "
outcome_word (outcome.Again d) = codes "again due "
outcome_word outcome.Dropped = codes "dropped\n"
outcome_word outcome.Ended = codes "ended\n"

abbrev after_outcome_word : Outcome → List ℕ
after_outcome_word (outcome.Done v) = text_then decimal (codes "\n") v
after_outcome_word (outcome.Failed c) = text_then decimal (codes "\n") c
after_outcome_word (outcome.Again d) = text_then decimal (codes "\n") d
after_outcome_word outcome.Dropped = []
after_outcome_word outcome.Ended = []

-- an outcome is read once
pub outcome_once : IsOnce outcome_words FitsOutcome
outcome_once (outcome.Done v) (outcome.Done u) s t p q h =
    let r = last_number_once v u s t p q (append_cancel_left (codes "done ") (text_then decimal (codes "\n") v ++ s) (text_then decimal (codes "\n") u ++ t) h) in (ap outcome.Done r.0, r.1)
outcome_once (outcome.Failed v) (outcome.Failed u) s t p q h =
    let r = last_task_once v u s t p q (append_cancel_left (codes "failed ") (text_then decimal (codes "\n") v ++ s) (text_then decimal (codes "\n") u ++ t) h) in (ap outcome.Failed r.0, r.1)
outcome_once (outcome.Again v) (outcome.Again u) s t p q h =
    let r = last_number_once v u s t p q (append_cancel_left (codes "again due ") (text_then decimal (codes "\n") v ++ s) (text_then decimal (codes "\n") u ++ t) h) in (ap outcome.Again r.0, r.1)
outcome_once outcome.Dropped outcome.Dropped s t p q h = (refl, append_cancel_left (codes "dropped\n") s t h)
outcome_once outcome.Ended outcome.Ended s t p q h = (refl, append_cancel_left (codes "ended\n") s t h)
outcome_once (outcome.Done v) o s t p q h = absurd (clashes (codes "done ") (outcome_word o) (text_then decimal (codes "\n") v ++ s) (after_outcome_word o ++ t) refl h)
outcome_once (outcome.Failed v) o s t p q h = absurd (clashes (codes "failed ") (outcome_word o) (text_then decimal (codes "\n") v ++ s) (after_outcome_word o ++ t) refl h)
outcome_once (outcome.Again v) o s t p q h = absurd (clashes (codes "again due ") (outcome_word o) (text_then decimal (codes "\n") v ++ s) (after_outcome_word o ++ t) refl h)
outcome_once outcome.Dropped o s t p q h = absurd (clashes (codes "dropped\n") (outcome_word o) s (after_outcome_word o ++ t) refl h)
outcome_once outcome.Ended o s t p q h = absurd (clashes (codes "ended\n") (outcome_word o) s (after_outcome_word o ++ t) refl h)

-- where no outcome stands behind a space, none stands there
pub unread_outcome : (rest : List ℕ) → IsUnread outcome_text FitsOutcome (codes " " ++ rest) → IsUnread outcome_words FitsOutcome rest
unread_outcome rest never o tail f h = never o tail f (ap (λ l. codes " " ++ l) h ∙ ap (λ l. l ++ tail) (sym (outcome_is o)))
