-- What an answer does to what is seen of one task.
use Rattle.std.proofs.Common.{◌≡◌, ℕ, ◌+◌, ◌&&◌, ◌||◌, ◌==◌, Bool, true, false, cond, None, refl, sym, ap, subst}
use Rattle.std.specs.Prelude.{if◌then◌else◌}
use Rattle.sched_time.specs.declared.timing.Timing.{Timing}
use Rattle.sched_time.specs.declared.timing.Timing.TheVariants as t
use Rattle.executor_model.specs.declared.types.Outcome.{Outcome}
use Rattle.executor_model.specs.declared.types.Outcome.TheVariants as o
use Rattle.executor_model.specs.declared.types.Answer.{Answer}
use Rattle.executor_model.specs.declared.types.Answer.TheVariants as a
use Rattle.executor_model.specs.declared.task.Stage.{Stage}
use Rattle.executor_model.specs.declared.task.Stage.TheVariants as ph
use Rattle.executor_model.specs.declared.task.Task.{Task}
use Rattle.queue_code.specs.Calls.{Terms, due_at}
use Rattle.executor_model.specs.View.{Fate}
use Rattle.executor_model.specs.Histories.{is_submit, is_start, is_finish, is_finish_with, is_done, is_failed}
use Rattle.executor_model.specs.State.{seen_task, seen_phase, due_ahead, due_past, finish_task, move_task, submit_phase}

-- the due moment that a finish at some moment makes of the one ahead
abbrev pub due_landed : Timing → ℕ → ℕ → ℕ
due_landed t.Once due now = due
due_landed (t.Rate period) due now = due
due_landed (t.Fixed delay) due now = now + delay

-- the due moment that is seen of a task, after a start and a finish of it or none
abbrev pub due_after : Timing → ℕ → ℕ → Bool → Bool → ℕ
due_after timing due now starts finishes =
    let ahead = if starts then due_ahead timing due else due in
    if finishes then due_landed timing ahead now else ahead

-- what is known of a task after it was submitted, cancelled, started, finished, done or failed, and is kept or not
abbrev pub moved_fate : Timing → Fate → ℕ → Bool → Bool → Bool → Bool → Bool → Bool → Bool → Fate
moved_fate timing f now submits cancelled starts finishes does fails kept = record {
  accepted = submits || f.accepted;
  cancelled = cancelled || f.cancelled;
  done = does || f.done;
  failed = fails || f.failed;
  starts = if starts then 1 + f.starts else f.starts;
  finishes = if finishes then 1 + f.finishes else f.finishes;
  due = due_after timing f.due now starts finishes;
  kept = kept;
}

-- what an answer needs of a task
abbrev pub Fits : Terms → ℕ → ℕ → Task → Answer → Type 0
Fits terms now k task (a.Submit j kind due) = (j == k) ≡ true → due ≡ due_at terms 0 None
Fits terms now k task (a.Start w j n due) = (j == k) ≡ true → task.phase ≡ ph.Waiting
Fits terms now k task (a.Finish w j n outcome) = (j == k) ≡ true → task.phase ≡ ph.Running
Fits terms now k task _ = Unit {0}

-- a task that is known to be cancelled or not, and to be kept or not
abbrev with_marks : Fate → Bool → Bool → Fate
with_marks f cancelled kept = record f { cancelled = cancelled; kept = kept }

still : (terms : Terms) (now : ℕ) (p : Stage) (run due : ℕ) (b held cancelled kept : Bool) →
    with_marks (seen_phase terms p run due b held) (cancelled || b) kept ≡ moved_fate terms.timing (seen_phase terms p run due b held) now false cancelled false false false false kept
still terms now ph.Vacant run due b held cancelled kept = refl
still terms now ph.Waiting run due b held cancelled kept = refl
still terms now ph.Running run due b held cancelled kept = refl
still terms now ph.Done run due b held cancelled kept = refl
still terms now ph.Failed run due b held cancelled kept = refl
still terms now ph.Dropped run due b held cancelled kept = refl

-- a task with another phase
abbrev in_phase : Stage → Task → Task
in_phase p task = record task { phase = p }

submits : (terms : Terms) (now : ℕ) (p : Stage) (task : Task) (cancelled kept : Bool) →
    with_marks (seen_task terms (submit_phase terms.timing (due_at terms 0 None) p (in_phase p task))) (cancelled || task.cancelled) kept
    ≡ moved_fate terms.timing (seen_task terms (in_phase p task)) now true cancelled false false false false kept
submits terms now ph.Vacant task cancelled kept = refl
submits terms now ph.Waiting task cancelled kept = refl
submits terms now ph.Running task cancelled kept = refl
submits terms now ph.Done task cancelled kept = refl
submits terms now ph.Failed task cancelled kept = refl
submits terms now ph.Dropped task cancelled kept = refl

-- the due moment that a finish leaves is that of the run ahead, once it has ended
pub past_is_landed : (timing : Timing) (due now : ℕ) → due_past timing due now ≡ due_landed timing (due_ahead timing due) now
past_is_landed t.Once due now = refl
past_is_landed (t.Rate period) due now = refl
past_is_landed (t.Fixed delay) due now = refl

abbrev with_due : Fate → ℕ → Fate
with_due f due = record f { due = due }

finishes : (terms : Terms) (now : ℕ) (task : Task) (outcome : Outcome) (cancelled kept : Bool) →
    with_marks (seen_task terms (finish_task terms.timing now outcome (in_phase ph.Running task))) (cancelled || task.cancelled) kept
    ≡ moved_fate terms.timing (seen_task terms (in_phase ph.Running task)) now false cancelled false true (is_done outcome) (is_failed outcome) kept
finishes terms now task (o.Done value) cancelled kept = ap (with_due (seen_phase terms ph.Done task.run task.due (cancelled || task.cancelled) kept)) (past_is_landed terms.timing task.due now)
finishes terms now task (o.Failed code) cancelled kept = ap (with_due (seen_phase terms ph.Failed task.run task.due (cancelled || task.cancelled) kept)) (past_is_landed terms.timing task.due now)
finishes terms now task o.Dropped cancelled kept = ap (with_due (seen_phase terms ph.Dropped task.run task.due (cancelled || task.cancelled) kept)) (past_is_landed terms.timing task.due now)
finishes terms now task o.Ended cancelled kept = ap (with_due (seen_phase terms ph.Dropped task.run task.due (cancelled || task.cancelled) kept)) (past_is_landed terms.timing task.due now)
finishes terms now task (o.Again next) cancelled kept = ap (with_due (seen_phase terms ph.Waiting (1 + task.run) task.due (cancelled || task.cancelled) kept)) (past_is_landed terms.timing task.due now)

-- a task after an answer, with which it is cancelled or not, and kept or not
abbrev pub moved_task : Timing → ℕ → ℕ → Answer → Bool → Bool → Task → Task
moved_task timing now k answer cancelled kept task = record (move_task timing now k answer task) { cancelled = cancelled || task.cancelled; kept = kept }

-- what is seen of a task after an answer is what was seen of it, moved
pub task_moves : (terms : Terms) (now k : ℕ) (task : Task) (answer : Answer) (cancelled kept : Bool) → Fits terms now k task answer →
    seen_task terms (moved_task terms.timing now k answer cancelled kept task)
    ≡ moved_fate terms.timing (seen_task terms task) now (is_submit k answer) cancelled (is_start k answer) (is_finish k answer) (is_finish_with is_done k answer) (is_finish_with is_failed k answer) kept
task_moves terms now k task (a.Submit j kind due) cancelled kept fits =
    let pick : (b : Bool) → (b ≡ true → due ≡ due_at terms 0 None) →
    with_marks (seen_task terms (cond b (submit_phase terms.timing due task.phase task) task)) (cancelled || task.cancelled) kept
    ≡ moved_fate terms.timing (seen_task terms task) now b cancelled false false false false kept =
    elim [
      | true ↦ λ q. subst (λ d. with_marks (seen_task terms (submit_phase terms.timing d task.phase task)) (cancelled || task.cancelled) kept ≡ moved_fate terms.timing (seen_task terms task) now true cancelled false false false false kept) (sym (q refl))
          (submits terms now task.phase task cancelled kept)
      | false ↦ λ q. still terms now task.phase task.run task.due task.cancelled task.kept cancelled kept
    ]
    in
    pick (j == k) fits
task_moves terms now k task (a.Start w j n due) cancelled kept fits =
    let pick : (b : Bool) → (b ≡ true → task.phase ≡ ph.Waiting) →
    with_marks (seen_task terms (cond b (record task { phase = ph.Running }) task)) (cancelled || task.cancelled) kept
    ≡ moved_fate terms.timing (seen_task terms task) now false cancelled b false false false kept =
    elim [
      | true ↦ λ q. subst (λ p. with_marks (seen_task terms (in_phase ph.Running task)) (cancelled || task.cancelled) kept ≡ moved_fate terms.timing (seen_task terms (in_phase p task)) now false cancelled true false false false kept) (sym (q refl)) refl
      | false ↦ λ q. still terms now task.phase task.run task.due task.cancelled task.kept cancelled kept
    ]
    in
    pick (j == k) fits
task_moves terms now k task (a.Finish w j n outcome) cancelled kept fits =
    let pick : (b : Bool) → (b ≡ true → task.phase ≡ ph.Running) →
    with_marks (seen_task terms (cond b (finish_task terms.timing now outcome task) task)) (cancelled || task.cancelled) kept
    ≡ moved_fate terms.timing (seen_task terms task) now false cancelled false b (b && is_done outcome) (b && is_failed outcome) kept =
    elim [
      | true ↦ λ q. subst (λ p. with_marks (seen_task terms (finish_task terms.timing now outcome (in_phase p task))) (cancelled || task.cancelled) kept
          ≡ moved_fate terms.timing (seen_task terms (in_phase p task)) now false cancelled false true (is_done outcome) (is_failed outcome) kept) (sym (q refl))
          (finishes terms now task outcome cancelled kept)
      | false ↦ λ q. still terms now task.phase task.run task.due task.cancelled task.kept cancelled kept
    ]
    in
    pick (j == k) fits
task_moves terms now k task answer cancelled kept fits = still terms now task.phase task.run task.due task.cancelled task.kept cancelled kept
