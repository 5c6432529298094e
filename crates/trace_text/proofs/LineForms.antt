-- What follows the first word of a trace's lines, as parts.
use Rattle.std.proofs.Common.{◌≡◌, ℕ, ◌^◌, Bool, Option, Some, None, List, ◌++◌, ap, sym, ◌∙◌, refl, codes}
use Rattle.std.specs.Fmt.{decimal}
use Rattle.std.proofs.lemmas.List.{append_cancel_left}
use Rattle.sched_time.specs.declared.policies.Which.{Which}
use Rattle.executor_model.specs.declared.Kind.{Kind}
use Rattle.executor_model.specs.declared.Refusal.{Refusal}
use Rattle.executor_model.specs.declared.Outcome.{Outcome}
use Rattle.trace_text.specs.Spelling.{kind_text, refusal_text, effect_text, whether_text, cancel_text, FitsOutcome}
use Rattle.trace_text.specs.own.Spelling.{FitsCancel}
use Rattle.sched_time.specs.Policies.{policy_text, truth_text}
use Rattle.trace_text.specs.Reading.{IsRead, IsUnread, Below, Any, text_then}
use Rattle.trace_text.proofs.Clashes.{clashes}
use Rattle.trace_text.proofs.Parts.{IsOnce, text_and, BothFit, then_part, once_part}
use Rattle.trace_text.proofs.LineWords.{worker_task_once, worker_once, task_run_once, task_once, run_due_once, run_once, last_number_once, queue_once, running_once, kind_once, refusal_once, effect_once, policy_once, truth_once, whether_once, outcome_words, outcome_once}

-- ---- the parts of lines

-- a run and its due moment
abbrev pub due_text : ℕ × ℕ → List ℕ
due_text = text_and decimal (codes " due ") (text_then decimal (codes "\n"))

abbrev pub FitsDue : ℕ × ℕ → Type 0
FitsDue = BothFit (Below (2 ^ 64)) (Below (2 ^ 64))

-- a task, a run and its due moment
abbrev pub run_text : ℕ × (ℕ × ℕ) → List ℕ
run_text = text_and decimal (codes " run ") due_text

abbrev pub FitsRun : ℕ × (ℕ × ℕ) → Type 0
FitsRun = BothFit (Below (2 ^ 32)) FitsDue

-- what a worker gets that asks for work
abbrev pub given_text : Option (ℕ × (ℕ × ℕ)) → List ℕ
given_text None = codes "idle\n"
given_text (Some v) = codes "task " ++ run_text v

abbrev pub FitsGiven : Option (ℕ × (ℕ × ℕ)) → Type 0
FitsGiven None = Unit {0}
FitsGiven (Some v) = FitsRun v

-- a worker and what it gets
abbrev pub start_text : ℕ × Option (ℕ × (ℕ × ℕ)) → List ℕ
start_text = text_and decimal (codes " ") given_text

abbrev pub FitsStart : ℕ × Option (ℕ × (ℕ × ℕ)) → Type 0
FitsStart = BothFit (Below (2 ^ 8)) FitsGiven

-- a run and its outcome
abbrev pub ended_text : ℕ × Outcome → List ℕ
ended_text = text_and decimal (codes " ") outcome_words

abbrev pub FitsEnded : ℕ × Outcome → Type 0
FitsEnded = BothFit (Below (2 ^ 64)) FitsOutcome

-- a task, a run and its outcome
abbrev pub task_ended_text : ℕ × (ℕ × Outcome) → List ℕ
task_ended_text = text_and decimal (codes " run ") ended_text

abbrev pub FitsTaskEnded : ℕ × (ℕ × Outcome) → Type 0
FitsTaskEnded = BothFit (Below (2 ^ 32)) FitsEnded

-- a worker, its task, a run and its outcome
abbrev pub finish_text : ℕ × (ℕ × (ℕ × Outcome)) → List ℕ
finish_text = text_and decimal (codes " task ") task_ended_text

abbrev pub FitsFinish : ℕ × (ℕ × (ℕ × Outcome)) → Type 0
FitsFinish = BothFit (Below (2 ^ 8)) FitsTaskEnded

-- a kind and a due moment
abbrev pub kind_due_text : Kind × ℕ → List ℕ
kind_due_text = text_and kind_text (codes " due ") (text_then decimal (codes "\n"))

abbrev pub FitsKindDue : Kind × ℕ → Type 0
FitsKindDue = BothFit Any (Below (2 ^ 64))

-- a task, its kind and its due moment
abbrev pub submit_text : ℕ × (Kind × ℕ) → List ℕ
submit_text = text_and decimal (codes " ") kind_due_text

abbrev pub FitsSubmit : ℕ × (Kind × ℕ) → Type 0
FitsSubmit = BothFit (Below (2 ^ 32)) FitsKindDue

-- a task and why it was refused
abbrev pub refuse_text : ℕ × Refusal → List ℕ
refuse_text = text_and decimal (codes " ") (text_then refusal_text (codes "\n"))

abbrev pub FitsRefuse : ℕ × Refusal → Type 0
FitsRefuse = BothFit (Below (2 ^ 32)) Any

-- a policy and what it is set to
abbrev pub set_text : Which × Bool → List ℕ
set_text = text_and policy_text (codes " ") (text_then truth_text (codes "\n"))

abbrev pub FitsSet : Which × Bool → Type 0
FitsSet = BothFit Any Any

-- whether the executor is shut, and whether it is terminated
abbrev pub ends_text : Bool × Bool → List ℕ
ends_text = text_and whether_text (codes " terminated ") (text_then whether_text (codes "\n"))

abbrev pub FitsEnds : Bool × Bool → Type 0
FitsEnds = BothFit Any Any

-- how many tasks are run, and how far the executor has ended
abbrev pub running_text : ℕ × (Bool × Bool) → List ℕ
running_text = text_and decimal (codes " shutdown ") ends_text

abbrev pub FitsRunning : ℕ × (Bool × Bool) → Type 0
FitsRunning = BothFit (Below (2 ^ 32)) FitsEnds

-- how many tasks are queued, and what follows
abbrev pub ask_text : ℕ × (ℕ × (Bool × Bool)) → List ℕ
ask_text = text_and decimal (codes " running ") running_text

abbrev pub FitsAsk : ℕ × (ℕ × (Bool × Bool)) → Type 0
FitsAsk = BothFit (Below (2 ^ 32)) FitsRunning

-- ---- each is read once

-- a run with its due moment
pub due_once : IsOnce due_text FitsDue
due_once = once_part decimal (Below (2 ^ 64)) (codes " due ") (text_then decimal (codes "\n")) (Below (2 ^ 64)) run_due_once last_number_once

-- a task with its run
pub runs_once : IsOnce run_text FitsRun
runs_once = once_part decimal (Below (2 ^ 32)) (codes " run ") due_text FitsDue task_run_once due_once

given_once : IsOnce given_text FitsGiven
given_once None None s t p q h = (refl, append_cancel_left (codes "idle\n") s t h)
given_once (Some v) (Some u) s t p q h = let r = runs_once v u s t p q (append_cancel_left (codes "task ") (run_text v ++ s) (run_text u ++ t) h) in (ap Some r.0, r.1)
given_once None (Some u) s t p q h = absurd (clashes (codes "idle\n") (codes "task ") s (run_text u ++ t) refl h)
given_once (Some v) None s t p q h = absurd (clashes (codes "task ") (codes "idle\n") (run_text v ++ s) t refl h)

-- a worker with what it gets
pub start_once : IsOnce start_text FitsStart
start_once = once_part decimal (Below (2 ^ 8)) (codes " ") given_text FitsGiven worker_once given_once

-- a worker with its run and the outcome
pub finish_once : IsOnce finish_text FitsFinish
finish_once =
    once_part decimal (Below (2 ^ 8)) (codes " task ") task_ended_text FitsTaskEnded worker_task_once
    (once_part decimal (Below (2 ^ 32)) (codes " run ") ended_text FitsEnded task_run_once (once_part decimal (Below (2 ^ 64)) (codes " ") outcome_words FitsOutcome run_once outcome_once))

-- a task with its kind and due moment
pub submit_once : IsOnce submit_text FitsSubmit
submit_once =
    once_part decimal (Below (2 ^ 32)) (codes " ") kind_due_text FitsKindDue task_once
    (once_part kind_text Any (codes " due ") (text_then decimal (codes "\n")) (Below (2 ^ 64)) kind_once last_number_once)

-- a task with a reason
pub refuse_once : IsOnce refuse_text FitsRefuse
refuse_once = once_part decimal (Below (2 ^ 32)) (codes " ") (text_then refusal_text (codes "\n")) Any task_once refusal_once

-- a task with an effect
pub cancel_once : IsOnce cancel_text FitsCancel
cancel_once v u s t p q h = once_part decimal (Below (2 ^ 32)) (codes " ") (text_then effect_text (codes "\n")) Any task_once effect_once v u s t (p, tt) (q, tt) h

-- a policy with what it is set to
pub set_once : IsOnce set_text FitsSet
set_once = once_part policy_text Any (codes " ") (text_then truth_text (codes "\n")) Any policy_once truth_once

-- how far the executor is
pub ask_once : IsOnce ask_text FitsAsk
ask_once =
    once_part decimal (Below (2 ^ 32)) (codes " running ") running_text FitsRunning queue_once
    (once_part decimal (Below (2 ^ 32)) (codes " shutdown ") ends_text FitsEnds running_once
    (once_part whether_text Any (codes " terminated ") (text_then whether_text (codes "\n")) Any (whether_once (codes " terminated ")) (whether_once (codes "\n"))))

-- ---- no part

-- a worker gets nothing
pub unread_given : (bytes : List ℕ) → ((t : List ℕ) → bytes ≡ codes "idle\n" ++ t → ⊥) → ((t : List ℕ) → bytes ≡ codes "task " ++ t → ⊥) → IsUnread given_text FitsGiven bytes
unread_given bytes idle task None tail f h = idle tail h
unread_given bytes idle task (Some v) tail f h = task (run_text v ++ tail) h

-- the word of a task, and no run behind it
pub unread_task : (bytes rest : List ℕ) → bytes ≡ codes "task " ++ rest → IsUnread run_text FitsRun rest → IsUnread given_text FitsGiven bytes
unread_task bytes rest is never None tail f h = absurd (clashes (codes "task ") (codes "idle\n") rest tail refl (sym is ∙ h))
unread_task bytes rest is never (Some v) tail f h = never v tail f (append_cancel_left (codes "task ") rest (run_text v ++ tail) (sym is ∙ h))

-- ---- a part that is there, and what is to follow is not

-- the worker is there, and what it gets is not
pub behind_worker : (bytes rest : List ℕ) (v : ℕ) → IsRead (text_then decimal (codes " ")) (Below (2 ^ 8)) bytes v rest → IsUnread given_text FitsGiven rest → IsUnread start_text FitsStart bytes
behind_worker bytes rest v front never = then_part decimal (Below (2 ^ 8)) (codes " ") given_text FitsGiven bytes rest v worker_once front.0 front.1 never

-- a task, and not its run
pub behind_task : (bytes rest : List ℕ) (v : ℕ) → IsRead (text_then decimal (codes " run ")) (Below (2 ^ 32)) bytes v rest → IsUnread due_text FitsDue rest → IsUnread run_text FitsRun bytes
behind_task bytes rest v front never = then_part decimal (Below (2 ^ 32)) (codes " run ") due_text FitsDue bytes rest v task_run_once front.0 front.1 never

-- a run, and not its due moment
pub behind_run : (bytes rest : List ℕ) (v : ℕ) → IsRead (text_then decimal (codes " due ")) (Below (2 ^ 64)) bytes v rest → IsUnread (text_then decimal (codes "\n")) (Below (2 ^ 64)) rest → IsUnread due_text FitsDue bytes
behind_run bytes rest v front never = then_part decimal (Below (2 ^ 64)) (codes " due ") (text_then decimal (codes "\n")) (Below (2 ^ 64)) bytes rest v run_due_once front.0 front.1 never

-- the worker whose run ended, and not its task
pub behind_ended_worker : (bytes rest : List ℕ) (v : ℕ) → IsRead (text_then decimal (codes " task ")) (Below (2 ^ 8)) bytes v rest → IsUnread task_ended_text FitsTaskEnded rest → IsUnread finish_text FitsFinish bytes
behind_ended_worker bytes rest v front never = then_part decimal (Below (2 ^ 8)) (codes " task ") task_ended_text FitsTaskEnded bytes rest v worker_task_once front.0 front.1 never

-- its task, and not the run
pub behind_ended_task : (bytes rest : List ℕ) (v : ℕ) → IsRead (text_then decimal (codes " run ")) (Below (2 ^ 32)) bytes v rest → IsUnread ended_text FitsEnded rest → IsUnread task_ended_text FitsTaskEnded bytes
behind_ended_task bytes rest v front never = then_part decimal (Below (2 ^ 32)) (codes " run ") ended_text FitsEnded bytes rest v task_run_once front.0 front.1 never

-- the run, and not its outcome
pub behind_ended_run : (bytes rest : List ℕ) (v : ℕ) → IsRead (text_then decimal (codes " ")) (Below (2 ^ 64)) bytes v rest → IsUnread outcome_words FitsOutcome rest → IsUnread ended_text FitsEnded bytes
behind_ended_run bytes rest v front never = then_part decimal (Below (2 ^ 64)) (codes " ") outcome_words FitsOutcome bytes rest v run_once front.0 front.1 never

-- a task that was accepted, and not its kind
pub behind_submitted : (bytes rest : List ℕ) (v : ℕ) → IsRead (text_then decimal (codes " ")) (Below (2 ^ 32)) bytes v rest → IsUnread kind_due_text FitsKindDue rest → IsUnread submit_text FitsSubmit bytes
behind_submitted bytes rest v front never = then_part decimal (Below (2 ^ 32)) (codes " ") kind_due_text FitsKindDue bytes rest v task_once front.0 front.1 never

-- its kind, and not its due moment
pub behind_kind : (bytes rest : List ℕ) (v : Kind) → IsRead (text_then kind_text (codes " due ")) Any bytes v rest → IsUnread (text_then decimal (codes "\n")) (Below (2 ^ 64)) rest → IsUnread kind_due_text FitsKindDue bytes
behind_kind bytes rest v front never = then_part kind_text Any (codes " due ") (text_then decimal (codes "\n")) (Below (2 ^ 64)) bytes rest v kind_once front.0 front.1 never

-- a task that was refused, and not why
pub behind_refused : (bytes rest : List ℕ) (v : ℕ) → IsRead (text_then decimal (codes " ")) (Below (2 ^ 32)) bytes v rest → IsUnread (text_then refusal_text (codes "\n")) Any rest → IsUnread refuse_text FitsRefuse bytes
behind_refused bytes rest v front never = then_part decimal (Below (2 ^ 32)) (codes " ") (text_then refusal_text (codes "\n")) Any bytes rest v task_once front.0 front.1 never

-- a task, and not what a cancel did to it
pub behind_cancelled : (bytes rest : List ℕ) (v : ℕ) → IsRead (text_then decimal (codes " ")) (Below (2 ^ 32)) bytes v rest → IsUnread (text_then effect_text (codes "\n")) Any rest → IsUnread cancel_text FitsCancel bytes
behind_cancelled bytes rest v front never = λ u tail f h. then_part decimal (Below (2 ^ 32)) (codes " ") (text_then effect_text (codes "\n")) Any bytes rest v task_once front.0 front.1 never u tail (f, tt) h

-- how many tasks are queued, and not how many are run
pub behind_queue : (bytes rest : List ℕ) (v : ℕ) → IsRead (text_then decimal (codes " running ")) (Below (2 ^ 32)) bytes v rest → IsUnread running_text FitsRunning rest → IsUnread ask_text FitsAsk bytes
behind_queue bytes rest v front never = then_part decimal (Below (2 ^ 32)) (codes " running ") running_text FitsRunning bytes rest v queue_once front.0 front.1 never

-- how many are run, and not whether the executor is shut
pub behind_running : (bytes rest : List ℕ) (v : ℕ) → IsRead (text_then decimal (codes " shutdown ")) (Below (2 ^ 32)) bytes v rest → IsUnread ends_text FitsEnds rest → IsUnread running_text FitsRunning bytes
behind_running bytes rest v front never = then_part decimal (Below (2 ^ 32)) (codes " shutdown ") ends_text FitsEnds bytes rest v running_once front.0 front.1 never

-- that it is shut, or not, and not whether it is terminated
pub behind_shutdown : (bytes rest : List ℕ) (v : Bool) → IsRead (text_then whether_text (codes " terminated ")) Any bytes v rest → IsUnread (text_then whether_text (codes "\n")) Any rest → IsUnread ends_text FitsEnds bytes
behind_shutdown bytes rest v front never = then_part whether_text Any (codes " terminated ") (text_then whether_text (codes "\n")) Any bytes rest v (whether_once (codes " terminated ")) front.0 front.1 never
