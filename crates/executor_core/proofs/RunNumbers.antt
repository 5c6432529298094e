-- The numbers of runs, which only a finish makes greater.
use Rattle.std.proofs.Common.{◌≡◌, ℕ, ◌≤◌, ◌==◌, nat_lt, max, Bool, true, false, cond, List, [], ◌∷◌, Option, Some, None, refl, ap, arith}
use Rattle.std.specs.Prelude.{slice_get}
use Rattle.std.specs.Option.{option_map_or}
use Rattle.sched_time.specs.declared.timing.Timing.{Timing}
use Rattle.queue_code.specs.declared.call.CodeCall.{CodeCall}
use Rattle.queue_code.specs.Calls.{Planned, terms_of, task_count}
use Rattle.executor_model.specs.declared.task.Stage.{Stage}
use Rattle.executor_model.specs.declared.task.Stage.TheVariants as ph
use Rattle.executor_model.specs.declared.task.Task.{Task}
use Rattle.executor_model.specs.declared.types.Answer.{Answer}
use Rattle.executor_model.specs.declared.types.Answer.TheVariants as a
use Rattle.executor_model.specs.declared.types.EventError.TheVariants as x
use Rattle.executor_model.specs.declared.types.Happening.{Happening}
use Rattle.executor_model.specs.declared.types.Happening.TheVariants as h
use Rattle.executor_model.specs.declared.types.Line.{Line}
use Rattle.executor_model.specs.View.{View}
use Rattle.executor_model.specs.Answers.{bare, called, effect_on}
use Rattle.executor_model.specs.State.{State, view_of_state, move_task, submit_phase, reply_of}
use Rattle.executor_core.specs.CoreView.{CoreView, workers_of, state_of, Steps, IsCounted}
use Rattle.executor_model.proofs.Replies.{IsAnswerTo, by_answer}

-- an answer says that some run was finished
abbrev pub finishes_some : Answer → Bool
finishes_some (a.Finish worker task run outcome) = true
finishes_some _ = false

submitted_run : (timing : Timing) (due : ℕ) (p : Stage) (task : Task) → (submit_phase timing due p task).run ≤ task.run
submitted_run timing due ph.Vacant task = omega arith
submitted_run timing due ph.Waiting task = omega arith
submitted_run timing due ph.Running task = omega arith
submitted_run timing due ph.Done task = omega arith
submitted_run timing due ph.Failed task = omega arith
submitted_run timing due ph.Dropped task = omega arith

either : (b : Bool) (one other : Task) (n : ℕ) → one.run ≤ n → other.run ≤ n → (cond b one other).run ≤ n
either true one other n l m = l
either false one other n l m = m

-- an answer that finishes no run leaves no task with a greater one
run_stays : (timing : Timing) (now k : ℕ) (task : Task) (answer : Answer) → finishes_some answer ≡ false → (move_task timing now k answer task).run ≤ task.run
run_stays timing now k task (a.Submit j kind due) q = either (j == k) (submit_phase timing due task.phase task) task task.run (submitted_run timing due task.phase task) (omega arith)
run_stays timing now k task (a.Start w j run due) q = either (j == k) (record task { phase = ph.Running }) task task.run (omega arith) (omega arith)
run_stays timing now k task (a.Finish w j run outcome) q = absurd cc
run_stays timing now k task answer q = omega arith

-- a call finishes no run
call_finishes : (calls : List Planned) (v : View) (call : CodeCall) → finishes_some (called calls v call).answer ≡ false
call_finishes calls v call = by_answer (λ x. finishes_some x ≡ false) calls v call (finishes call)
  where
    finishes : (call : CodeCall) (x : Answer) → IsAnswerTo x call → finishes_some x ≡ false
    finishes call (a.Finish w k run outcome) is = absurd is
    finishes call x is = refl

next_finishes : (calls : List Planned) (workers : ℕ) (s : State) → finishes_some (reply_of calls workers s h.Call).answer ≡ false
next_finishes calls workers s = by (slice_get calls s.made)
  where
    by : (next : Option Planned) → finishes_some (option_map_or (λ p. called calls (record (view_of_state calls s) { moment = max s.moment p.0 }) p.1) next (bare a.Clock)).answer ≡ false
    by None = refl
    by (Some p) = call_finishes calls (record (view_of_state calls s) { moment = max s.moment p.0 }) p.1

-- nor does a cancel from outside
cancel_finishes : (calls : List Planned) (workers k : ℕ) (s : State) → finishes_some (reply_of calls workers s (h.Cancel k)).answer ≡ false
cancel_finishes calls workers k s =
    let pick : (b : Bool) → finishes_some (cond b (a.Outside k (effect_on ((view_of_state calls s).fate k))) (a.Error x.NoTask)) ≡ false = elim [ true ↦ refl | false ↦ refl ] in
    pick (nat_lt k (task_count calls))

counted_on : (old new : CoreView) (before lines : List Line) (happening : Happening) → finishes_some (reply_of old.calls (workers_of old) (state_of old) happening).answer ≡ false → new.taken ≡ old.taken →
    Steps old new before lines (happening ∷ []) → IsCounted old → IsCounted new
counted_on old new before lines happening none taken steps counted k =
    let calls = old.calls in
    let s = state_of old in
    let stays = run_stays (terms_of calls k).timing s.moment k (s.tasks k) (reply_of calls (workers_of old) s happening).answer none in
    omega (arith, ap (λ (t : State). (t.tasks k).run) steps.state, stays, counted k, taken)

-- events stay counted at a call
pub call_counted : (old new : CoreView) (before lines : List Line) → new.taken ≡ old.taken → Steps old new before lines (h.Call ∷ []) → IsCounted old → IsCounted new
call_counted old new before lines = counted_on old new before lines h.Call (next_finishes old.calls (workers_of old) (state_of old))

-- and at a cancel from outside
pub cancel_counted : (old new : CoreView) (before lines : List Line) (k : ℕ) → new.taken ≡ old.taken → Steps old new before lines (h.Cancel k ∷ []) → IsCounted old → IsCounted new
cancel_counted old new before lines k = counted_on old new before lines (h.Cancel k) (cancel_finishes old.calls (workers_of old) k (state_of old))

-- and at a purge
pub purge_counted : (old new : CoreView) (before lines : List Line) → new.taken ≡ old.taken → Steps old new before lines (h.Purge ∷ []) → IsCounted old → IsCounted new
purge_counted old new before lines = counted_on old new before lines h.Purge refl
