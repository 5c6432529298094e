-- What is seen of tasks that wait or are run.
use Rattle.std.proofs.Common.{◌≡◌, ℕ, ◌+◌, ◌==◌, ◌&&◌, Bool, true, false, refl, ap, arith}
use Rattle.std.specs.Prelude.{not}
use Rattle.std.proofs.lemmas.Bool.{false≢true, eq-eqb}
use Rattle.std.proofs.lemmas.Bool.Decides.{nat_tests}
use Rattle.executor_model.specs.declared.task.Stage.{Stage}
use Rattle.executor_model.specs.declared.task.Stage.TheVariants as ph
use Rattle.executor_model.specs.declared.task.Task.{Task}
use Rattle.queue_code.specs.Calls.{Terms}
use Rattle.executor_model.specs.View.{is_running, is_waiting}
use Rattle.executor_model.specs.State.{seen_task, seen_phase}
use Rattle.executor_model.specs.own.Phases.{is_running_phase, is_waiting_phase, waits_with}

-- a number and the next one differ
pub next_eqb : (n : ℕ) → (1 + n == n) ≡ false
next_eqb n = grind (arith, nat_tests)

-- a number is itself
pub same_eqb : (n : ℕ) → (n == n) ≡ true
same_eqb n = eq-eqb n n refl

-- a run is seen under way exactly of a task in that phase
pub seen_runs : (terms : Terms) (t : Task) → is_running (seen_task terms t) ≡ is_running_phase t.phase
seen_runs terms t = by t.phase
  where
    by : (p : Stage) → is_running (seen_phase terms p t.run t.due t.cancelled t.kept) ≡ is_running_phase p
    by ph.Vacant = refl
    by ph.Waiting = ap not (same_eqb t.run)
    by ph.Running = ap not (next_eqb t.run)
    by ph.Done = ap not (same_eqb (1 + t.run))
    by ph.Failed = ap not (same_eqb (1 + t.run))
    by ph.Dropped = ap not (same_eqb (1 + t.run))

-- a task is seen to wait exactly where it is in that phase and not cancelled
pub seen_waits : (terms : Terms) (t : Task) → (t.phase ≡ ph.Dropped → t.cancelled ≡ true) → is_waiting (seen_task terms t) ≡ waits_with t
seen_waits terms t over = by t.phase t.cancelled over
  where
    by : (p : Stage) (b : Bool) → (p ≡ ph.Dropped → b ≡ true) → is_waiting (seen_phase terms p t.run t.due b t.kept) ≡ (is_waiting_phase p && not b)
    by ph.Vacant b over = refl
    by ph.Waiting true over = ap (λ x. not (not x) && false) (same_eqb t.run)
    by ph.Waiting false over = ap (λ x. not (not x) && true) (same_eqb t.run)
    by ph.Running true over = ap (λ x. not (not x) && false) (next_eqb t.run)
    by ph.Running false over = ap (λ x. not (not x) && true) (next_eqb t.run)
    by ph.Done true over = ap (λ x. not (not x) && false) (same_eqb (1 + t.run))
    by ph.Done false over = ap (λ x. not (not x) && false) (same_eqb (1 + t.run))
    by ph.Failed true over = ap (λ x. not (not x) && false) (same_eqb (1 + t.run))
    by ph.Failed false over = ap (λ x. not (not x) && false) (same_eqb (1 + t.run))
    by ph.Dropped true over = ap (λ x. not (not x) && false) (same_eqb (1 + t.run))
    by ph.Dropped false over = absurd (false≢true (over refl))
