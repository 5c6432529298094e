-- A cancelled word stands still.
use Rattle.std.proofs.Common.{◌≡◌, ℕ, ◌||◌, ◌==◌, Bool, true, false, cond, refl, sym, ap, ◌∙◌, subst}
use Rattle.std.proofs.lemmas.Bool.{false≢true, and_parts}
use Rattle.task_word.specs.Words.{is_cancelled, is_live}
use Rattle.sched_time.specs.declared.timing.Timing.{Timing}
use Rattle.executor_model.specs.declared.types.Outcome.TheVariants as o
use Rattle.executor_model.specs.declared.types.Answer.{Answer}
use Rattle.executor_model.specs.declared.types.Answer.TheVariants as a
use Rattle.executor_model.specs.declared.task.Stage.{Stage}
use Rattle.executor_model.specs.declared.task.Stage.TheVariants as ph
use Rattle.executor_model.specs.declared.task.Task.{Task}
use Rattle.queue_code.specs.Calls.{terms_of}
use Rattle.executor_model.specs.Histories.{happenings, cancels, kept_after}
use Rattle.executor_model.specs.State.{view_of_state, reply_of, after, move_task, submit_phase, finish_task}
use Rattle.executor_model.specs.Tasks.{word_phase, word_of_task}
use Rattle.executor_model.proofs.Moves.{moved_task}
use Rattle.executor_model.proofs.Agree.{after_agrees}
use Rattle.executor_laws.specs.TaskWords.{CancelledWordsStay}
use Rattle.executor_laws.proofs.WordAnswers.{Meets, meets}

-- a cancelled word has the bit, and its phase is live
cancelled_parts : (task : Task) → is_cancelled (word_of_task task) ≡ true → (is_live (word_phase task.phase) ≡ true) × (task.cancelled ≡ true)
cancelled_parts task q = and_parts (is_live (word_phase task.phase)) task.cancelled q

-- a task has the phase of its word and the run that it had
abbrev Stands : Task → Task → Type 0
Stands before after = (word_phase after.phase ≡ word_phase before.phase) × (after.run ≡ before.run)

submit_stays : (timing : Timing) (due : ℕ) (p : Stage) (task : Task) → is_live (word_phase p) ≡ true → Stands task (submit_phase timing due p task)
submit_stays timing due ph.Vacant task q = absurd (false≢true q)
submit_stays timing due ph.Waiting task q = (refl, refl)
submit_stays timing due ph.Running task q = (refl, refl)
submit_stays timing due ph.Done task q = (refl, refl)
submit_stays timing due ph.Failed task q = (refl, refl)
submit_stays timing due ph.Dropped task q = (refl, refl)

-- an answer leaves a task whose word is cancelled
cancelled_stands : (timing : Timing) (now k : ℕ) (task : Task) (answer : Answer) → Meets k task answer → is_live (word_phase task.phase) ≡ true → task.cancelled ≡ true → Stands task (move_task timing now k answer task)
cancelled_stands timing now k task (a.Submit j kind due) met live q =
    let pick : (b : Bool) → Stands task (cond b (submit_phase timing due task.phase task) task) = elim [ true ↦ submit_stays timing due task.phase task live | false ↦ (refl, refl) ] in
    pick (j == k)
cancelled_stands timing now k task (a.Start u j run due) met live q =
    let pick : (b : Bool) → (b ≡ true → (task.phase ≡ ph.Waiting) × (task.cancelled ≡ false)) → Stands task (cond b (record task { phase = ph.Running }) task) =
    elim [ true ↦ λ met. absurd (false≢true (sym (met refl).1 ∙ q)) | false ↦ λ met. (refl, refl) ]
    in
    pick (j == k) met
cancelled_stands timing now k task (a.Finish u j run outcome) met live q =
    let pick : (b : Bool) → (b ≡ true → (task.phase ≡ ph.Running) × (task.cancelled ≡ true → outcome ≡ o.Dropped)) → Stands task (cond b (finish_task timing now outcome task) task) =
    elim [
      | true ↦ λ met. subst (λ x. Stands task (finish_task timing now x task)) (sym ((met refl).1 q)) (ap word_phase (sym (met refl).0), refl)
      | false ↦ λ met. (refl, refl)
    ]
    in
    pick (j == k) met
cancelled_stands timing now k task _ met live q = (refl, refl)

marks_stay : (b marked : Bool) → marked ≡ true → (b || marked) ≡ marked
marks_stay true marked q = sym q
marks_stay false marked q = refl

word_stays : (timing : Timing) (now k : ℕ) (task : Task) (answer : Answer) (cancelled kept : Bool) → Meets k task answer → is_cancelled (word_of_task task) ≡ true → word_of_task (moved_task timing now k answer cancelled kept task) ≡ word_of_task task
word_stays timing now k task answer cancelled kept met q =
    let parts = cancelled_parts task q in
    let stands = cancelled_stands timing now k task answer met parts.0 parts.1 in
    λ i. record { phase = stands.0 i; run = stands.1 i; marked = marks_stay cancelled task.cancelled parts.1 i }

-- the law that a cancelled word stands still
pub cancelled_words_stay : CancelledWordsStay
cancelled_words_stay calls workers past e k m =
    let s = after calls workers (happenings past) in
    let r = reply_of calls workers s e.happening in
    word_stays (terms_of calls k).timing s.moment k (s.tasks k) r.answer (cancels k r.answer r.ends) (kept_after (view_of_state calls s) k r.answer) (meets calls workers s e.happening (after_agrees calls workers past m.0).sound k)
