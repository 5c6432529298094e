-- What a cancel does to a task, by its phase.
use Rattle.std.proofs.Common.{◌≡◌, ◌≢◌, ℕ, ◌+◌, ◌<◌, ◌≤◌, ◌==◌, ◌&&◌, ◌||◌, Bool, true, false, cond, List, refl, sym, ap, ◌∙◌}
use Rattle.std.specs.Prelude.{not}
use Rattle.std.proofs.lemmas.Bool.{lt-ltb, le-ltb, false_from_ne_true}
use Rattle.executor_model.specs.declared.types.CancelEffect.{CancelEffect}
use Rattle.executor_model.specs.declared.types.CancelEffect.TheVariants as f
use Rattle.executor_model.specs.declared.types.EventError.TheVariants as x
use Rattle.executor_model.specs.declared.types.Happening.TheVariants as h
use Rattle.executor_model.specs.declared.types.Answer.TheVariants as a
use Rattle.executor_model.specs.declared.task.Stage.{Stage}
use Rattle.executor_model.specs.declared.task.Stage.TheVariants as ph
use Rattle.executor_model.specs.declared.task.Task.{Task}
use Rattle.queue_code.specs.Calls.{Planned, Terms, task_count}
use Rattle.executor_model.specs.View.{is_cancellable, is_running}
use Rattle.executor_model.specs.Answers.{bare, effect_on}
use Rattle.executor_model.specs.State.{State, view_of_state, seen_task, seen_phase, reply_of}
use Rattle.executor_model.proofs.Sound.{is_seen_waiting}
use Rattle.executor_model.proofs.Seen.{next_eqb, same_eqb}

-- what a cancel does, by the phase of a task
abbrev effect_of : Bool → Bool → CancelEffect
effect_of accepted live = cond accepted (cond live f.Yes f.No) f.Absent

-- what a cancel does to a vacant task
pub of_vacant : (terms : Terms) (t : Task) → t.phase ≡ ph.Vacant → f.Absent ≡ effect_on (seen_task terms t)
of_vacant terms t q = ap (λ p. effect_on (seen_phase terms p t.run t.due t.cancelled t.kept)) (sym q)

-- what a cancel does to a task that waits
pub of_waiting : (terms : Terms) (t : Task) → t.phase ≡ ph.Waiting → t.cancelled ≡ false → f.Yes ≡ effect_on (seen_task terms t)
of_waiting terms t q live =
    let here : is_cancellable (seen_phase terms ph.Waiting t.run t.due false t.kept) ≡ true = ap (λ b. b || (is_running (seen_phase terms ph.Waiting t.run t.due false t.kept) && true)) (is_seen_waiting terms t.run t.due t.kept) in
    sym (ap (effect_of true) here) ∙ (λ i. effect_on (seen_phase terms (sym q i) t.run t.due (sym live i) t.kept))

-- what a cancel does to a task whose run is under way
pub of_running : (terms : Terms) (t : Task) → t.phase ≡ ph.Running → t.cancelled ≡ false → f.Yes ≡ effect_on (seen_task terms t)
of_running terms t q live =
    let apart = next_eqb t.run in
    let here : is_cancellable (seen_phase terms ph.Running t.run t.due false t.kept) ≡ true = ap (λ b. (not (not b) && true) || (not b && true)) apart in
    sym (ap (effect_of true) here) ∙ (λ i. effect_on (seen_phase terms (sym q i) t.run t.due (sym live i) t.kept))

-- a cancelled task is not live
not_live : (accepted running : Bool) → ((accepted && (not running && false)) || (running && false)) ≡ false
not_live true true = refl
not_live true false = refl
not_live false true = refl
not_live false false = refl

abbrev running_of : Terms → Stage → ℕ → ℕ → Bool → Bool
running_of terms p run due kept = is_running (seen_phase terms p run due true kept)

-- what a cancel does to a cancelled task
pub of_cancelled : (terms : Terms) (t : Task) → t.phase ≢ ph.Vacant → t.cancelled ≡ true → f.No ≡ effect_on (seen_task terms t)
of_cancelled terms t used is = sym (by t.phase refl) ∙ ap (λ b. effect_on (seen_phase terms t.phase t.run t.due b t.kept)) (sym is)
  where
    by : (p : Stage) → t.phase ≡ p → effect_on (seen_phase terms p t.run t.due true t.kept) ≡ f.No
    by ph.Vacant q = absurd (used q)
    by ph.Waiting q = ap (effect_of true) (not_live true (running_of terms ph.Waiting t.run t.due t.kept))
    by ph.Running q = ap (effect_of true) (not_live true (running_of terms ph.Running t.run t.due t.kept))
    by ph.Done q = ap (effect_of true) (not_live true (running_of terms ph.Done t.run t.due t.kept))
    by ph.Failed q = ap (effect_of true) (not_live true (running_of terms ph.Failed t.run t.due t.kept))
    by ph.Dropped q = ap (effect_of true) (not_live true (running_of terms ph.Dropped t.run t.due t.kept))

-- a task that is done, or has failed, is not live
ended_eqb : (n : ℕ) (rest : Bool) → ((not (not (n == n)) && false) || (not (n == n) && rest)) ≡ false
ended_eqb n rest = ap (λ b. (not (not b) && false) || (not b && rest)) (same_eqb n)

-- what a cancel does to a task that is done
pub of_done : (terms : Terms) (t : Task) → t.phase ≡ ph.Done → f.No ≡ effect_on (seen_task terms t)
of_done terms t q = sym (by t.cancelled) ∙ ap (λ p. effect_on (seen_phase terms p t.run t.due t.cancelled t.kept)) (sym q)
  where
    by : (b : Bool) → effect_on (seen_phase terms ph.Done t.run t.due b t.kept) ≡ f.No
    by true = ap (effect_of true) (ended_eqb (1 + t.run) false)
    by false = ap (effect_of true) (ended_eqb (1 + t.run) true)

-- what a cancel does to a task that has failed
pub of_failed : (terms : Terms) (t : Task) → t.phase ≡ ph.Failed → f.No ≡ effect_on (seen_task terms t)
of_failed terms t q = sym (by t.cancelled) ∙ ap (λ p. effect_on (seen_phase terms p t.run t.due t.cancelled t.kept)) (sym q)
  where
    by : (b : Bool) → effect_on (seen_phase terms ph.Failed t.run t.due b t.kept) ≡ f.No
    by true = ap (effect_of true) (ended_eqb (1 + t.run) false)
    by false = ap (effect_of true) (ended_eqb (1 + t.run) true)

-- only a task that waits or is run is cancelled
pub live_is_used : (terms : Terms) (t : Task) → f.Yes ≡ effect_on (seen_task terms t) → t.phase ≢ ph.Vacant
live_is_used terms t live q = let clash : f.Yes ≡ f.Absent = live ∙ sym (of_vacant terms t q) in absurd cc

-- a cancel that has an effect finds the task not cancelled
pub live_is_uncancelled : (terms : Terms) (t : Task) → f.Yes ≡ effect_on (seen_task terms t) → t.cancelled ≡ false
live_is_uncancelled terms t live =
    false_from_ne_true t.cancelled (λ is. let clash : f.Yes ≡ f.No = live ∙ sym (of_cancelled terms t (live_is_used terms t live) is) in absurd cc)

pub outside_reply : (calls : List Planned) (workers k : ℕ) (s : State) → k < task_count calls → reply_of calls workers s (h.Cancel k) ≡ bare (a.Outside k (effect_on ((view_of_state calls s).fate k)))
outside_reply calls workers k s l = ap (λ b. bare (cond b (a.Outside k (effect_on ((view_of_state calls s).fate k))) (a.Error x.NoTask))) (lt-ltb k (task_count calls) l)

-- the reply to a cancel from outside of a task that the plan does not have
pub no_task_reply : (calls : List Planned) (workers k : ℕ) (s : State) → task_count calls ≤ k → reply_of calls workers s (h.Cancel k) ≡ bare (a.Error x.NoTask)
no_task_reply calls workers k s l = ap (λ b. bare (cond b (a.Outside k (effect_on ((view_of_state calls s).fate k))) (a.Error x.NoTask))) (le-ltb k (task_count calls) l)
