-- States that differ in the kept tasks alone: whatever happens is answered alike in both, but for what an ask says of the queue.
use Rattle.std.proofs.Common.{◌≡◌, ℕ, ◌==◌, ◌||◌, nat_lt, max, Bool, true, false, cond, List, [], ◌∷◌, Option, Some, None, refl, sym, ap, ◌∙◌}
use Rattle.std.specs.Prelude.{slice_get}
use Rattle.std.specs.Option.{option_map_or}
use Rattle.sched_time.specs.declared.timing.Timing.{Timing}
use Rattle.queue_code.specs.declared.call.CodeCall.{CodeCall}
use Rattle.queue_code.specs.declared.call.CodeCall.TheVariants as c
use Rattle.queue_code.specs.Calls.{Planned, numbers, terms_of}
use Rattle.executor_model.specs.declared.types.Happening.{Happening}
use Rattle.executor_model.specs.declared.types.Happening.TheVariants as h
use Rattle.executor_model.specs.declared.types.EventError.TheVariants as x
use Rattle.executor_model.specs.declared.types.Outcome.{Outcome}
use Rattle.executor_model.specs.declared.types.Outcome.TheVariants as o
use Rattle.executor_model.specs.declared.types.Answer.{Answer}
use Rattle.executor_model.specs.declared.types.Answer.TheVariants as a
use Rattle.executor_model.specs.declared.task.Stage.{Stage}
use Rattle.executor_model.specs.declared.task.Stage.TheVariants as ph
use Rattle.executor_model.specs.declared.task.Task.{Task}
use Rattle.executor_model.specs.View.{earlier, first_enabled, is_enabled}
use Rattle.executor_model.specs.Answers.{Reply, bare, called, finish_answer, moment_after, start_answer}
use Rattle.executor_model.specs.Histories.{cancels, is_shutdown, is_stop, made_after, policies_after, work_after}
use Rattle.executor_model.specs.State.{State, after_from, finish_task, move_task, next, reply_of, submit_phase, view_of_state}
use Rattle.executor_model.proofs.Keeping.{kept_purged}
use Rattle.executor_laws.specs.Purges.{PurgesTakeTheKept, PurgesChangeAsksAlone, but_queue}

-- a state in which these tasks are kept
abbrev rekept : State → (ℕ → Bool) → State
rekept s kept = record s { tasks = λ k. record (s.tasks k) { kept = kept k } }

-- two replies are alike but for what an ask says of the queue
record Alike (r q : Reply) : Type 0 where
  answer : but_queue r.answer ≡ but_queue q.answer
  ends : r.ends ≡ q.ends

-- ---- the replies

call_alike : (calls : List Planned) (s : State) (kept : ℕ → Bool) (moment : ℕ) (call : CodeCall) → Alike (called calls (record (view_of_state calls (rekept s kept)) { moment = moment }) call) (called calls (record (view_of_state calls s) { moment = moment }) call)
call_alike calls s kept moment (c.Submit task timing delay) = record { answer = refl; ends = refl }
call_alike calls s kept moment (c.Illegal task) = record { answer = refl; ends = refl }
call_alike calls s kept moment (c.Cancel task) = record { answer = refl; ends = refl }
call_alike calls s kept moment (c.SetPolicy which value) = record { answer = refl; ends = refl }
call_alike calls s kept moment c.Shutdown = record { answer = refl; ends = refl }
call_alike calls s kept moment c.ShutdownNow = record { answer = refl; ends = refl }
call_alike calls s kept moment c.Ask = record { answer = refl; ends = refl }

-- a start finds the same task
first_alike : (calls : List Planned) (s : State) (kept : ℕ → Bool) (ks : List ℕ) → first_enabled (view_of_state calls (rekept s kept)) ks ≡ first_enabled (view_of_state calls s) ks
first_alike calls s kept [] = refl
first_alike calls s kept (k ∷ ks) =
    let t = view_of_state calls (rekept s kept) in
    let v = view_of_state calls s in
    let rest = first_alike calls s kept ks in
    let one : (o : Option ℕ) → earlier t k o ≡ earlier v k o = elim [ None ↦ refl | Some j ↦ refl ] in
    λ i. cond (is_enabled v k) (Some ((ap (earlier t k) rest ∙ one (first_enabled v ks)) i)) (rest i)

reply_alike : (calls : List Planned) (workers : ℕ) (s : State) (kept : ℕ → Bool) (y : Happening) → Alike (reply_of calls workers (rekept s kept) y) (reply_of calls workers s y)
reply_alike calls workers s kept h.Call = pick (slice_get calls s.made)
  where
    made : State → Option Planned → Reply
    made s q = option_map_or (λ p. called calls (record (view_of_state calls s) { moment = max s.moment p.0 }) p.1) q (bare a.Clock)

    pick : (q : Option Planned) → Alike (made (rekept s kept) q) (made s q)
    pick None = record { answer = refl; ends = refl }
    pick (Some p) = call_alike calls s kept (max s.moment p.0) p.1
reply_alike calls workers s kept (h.Clock t) = record { answer = refl; ends = refl }
reply_alike calls workers s kept (h.Start w) =
    let t = view_of_state calls (rekept s kept) in
    let v = view_of_state calls s in
    let one : (o : Option ℕ) → start_answer t w o ≡ start_answer v w o = elim [ None ↦ refl | Some j ↦ refl ] in
    let first = ap (start_answer t w) (first_alike calls s kept (numbers calls)) ∙ one (first_enabled v (numbers calls)) in
    record {
      answer = λ i. but_queue (cond (nat_lt w workers) (option_map_or (λ _. a.Error x.Busy) (s.workers w) (first i)) (a.Error x.NoWorker));
      ends = refl;
    }
reply_alike calls workers s kept (h.Finish w ending) =
    let t = view_of_state calls (rekept s kept) in
    let v = view_of_state calls s in
    let one : (o : Option ℕ) → finish_answer calls t w ending o ≡ finish_answer calls v w ending o = elim [ None ↦ refl | Some j ↦ refl ] in
    record { answer = λ i. but_queue (cond (nat_lt w workers) (one (s.workers w) i) (a.Error x.NoWorker)); ends = refl }
reply_alike calls workers s kept (h.Cancel k) = record { answer = refl; ends = refl }
reply_alike calls workers s kept h.Purge = record { answer = refl; ends = refl }

-- ---- the steps

-- what looks at nothing that an ask says of the queue is alike of answers that are
looks_alike : {X : Type 0} (look : Answer → X) (r q : Answer) → ((y : Answer) → look (but_queue y) ≡ look y) → but_queue r ≡ but_queue q → look r ≡ look q
looks_alike look r q each same = sym (each r) ∙ (ap look same ∙ each q)

-- a task but for whether it is kept
abbrev bared : Task → Task
bared task = record task { kept = false }

-- an answer does the same to a task that is kept and to one that is not
move_bared : (timing : Timing) (now k : ℕ) (answer : Answer) (task : Task) (kept : Bool) → bared (move_task timing now k answer (record task { kept = kept })) ≡ bared (move_task timing now k answer task)
move_bared timing now k (a.Submit j kind due) task kept = by (j == k) task.phase
  where
    by : (b : Bool) (p : Stage) → bared (cond b (submit_phase timing due p (record task { kept = kept })) (record task { kept = kept })) ≡ bared (cond b (submit_phase timing due p task) task)
    by true ph.Vacant = refl
    by true p = refl
    by false p = refl
move_bared timing now k (a.Start w j run due) task kept = by (j == k)
  where
    by : (b : Bool) → bared (cond b (record task { phase = ph.Running; kept = kept }) (record task { kept = kept })) ≡ bared (cond b (record task { phase = ph.Running }) task)
    by true = refl
    by false = refl
move_bared timing now k (a.Finish w j run outcome) task kept = by (j == k) outcome
  where
    by : (b : Bool) (outcome : Outcome) → bared (cond b (finish_task timing now outcome (record task { kept = kept })) (record task { kept = kept })) ≡ bared (cond b (finish_task timing now outcome task) task)
    by true (o.Done value) = refl
    by true (o.Failed code) = refl
    by true (o.Again due) = refl
    by true o.Dropped = refl
    by true o.Ended = refl
    by false outcome = refl
move_bared timing now k answer task kept = refl

moves_each : (timing : Timing) (now k : ℕ) (task : Task) (y : Answer) → move_task timing now k (but_queue y) task ≡ move_task timing now k y task
moves_each timing now k task (a.Ask queue running shut terminated) = refl
moves_each timing now k task y = refl

cancels_each : (k : ℕ) (ends : List ℕ) (y : Answer) → cancels k (but_queue y) ends ≡ cancels k y ends
cancels_each k ends (a.Ask queue running shut terminated) = refl
cancels_each k ends y = refl

-- a step leaves them different in the kept tasks alone
step_alike : (calls : List Planned) (workers : ℕ) (s : State) (kept : ℕ → Bool) (y : Happening) →
    next calls workers (rekept s kept) y ≡ rekept (next calls workers s y) (λ k. ((next calls workers (rekept s kept) y).tasks k).kept)
step_alike calls workers s kept y = λ i. record {
  made = made_after s.made y;
  moment = moment_after s.moment (slice_get calls s.made) y;
  tasks = λ k. record (moved k i) { cancelled = cancelled k i || (s.tasks k).cancelled; kept = ((next calls workers (rekept s kept) y).tasks k).kept };
  workers = λ w. looks_alike (λ z. work_after w z (s.workers w)) r.answer q.answer (work_each w) same.answer i;
  policies = looks_alike (λ z. policies_after z s.policies) r.answer q.answer policies_each same.answer i;
  shut = looks_alike is_shutdown r.answer q.answer shut_each same.answer i || s.shut;
  stopped = looks_alike is_stop r.answer q.answer stop_each same.answer i || s.stopped;
}
  where
    r : Reply
    r = reply_of calls workers (rekept s kept) y

    q : Reply
    q = reply_of calls workers s y

    same : Alike r q
    same = reply_alike calls workers s kept y

    moved : (k : ℕ) → bared (move_task (terms_of calls k).timing s.moment k r.answer (record (s.tasks k) { kept = kept k })) ≡ bared (move_task (terms_of calls k).timing s.moment k q.answer (s.tasks k))
    moved k =
        let timing = (terms_of calls k).timing in
        move_bared timing s.moment k r.answer (s.tasks k) (kept k) ∙ ap bared (looks_alike (λ z. move_task timing s.moment k z (s.tasks k)) r.answer q.answer (moves_each timing s.moment k (s.tasks k)) same.answer)

    cancelled : (k : ℕ) → cancels k r.answer r.ends ≡ cancels k q.answer q.ends
    cancelled k = looks_alike (λ z. cancels k z r.ends) r.answer q.answer (cancels_each k r.ends) same.answer ∙ ap (cancels k q.answer) same.ends

    work_each : (w : ℕ) (z : Answer) → work_after w (but_queue z) (s.workers w) ≡ work_after w z (s.workers w)
    work_each w (a.Ask queue running shut terminated) = refl
    work_each w z = refl

    policies_each : (z : Answer) → policies_after (but_queue z) s.policies ≡ policies_after z s.policies
    policies_each (a.Ask queue running shut terminated) = refl
    policies_each z = refl

    shut_each : (z : Answer) → is_shutdown (but_queue z) ≡ is_shutdown z
    shut_each (a.Ask queue running shut terminated) = refl
    shut_each z = refl

    stop_each : (z : Answer) → is_stop (but_queue z) ≡ is_stop z
    stop_each (a.Ask queue running shut terminated) = refl
    stop_each z = refl

-- so do many
record IsRekept (t s : State) : Type 0 where
  kept : ℕ → Bool
  is : t ≡ rekept s kept

steps_alike : (calls : List Planned) (workers : ℕ) (t s : State) (later : List Happening) → IsRekept t s → IsRekept (after_from calls workers t later) (after_from calls workers s later)
steps_alike calls workers t s [] same = same
steps_alike calls workers t s (y ∷ later) same =
    let before = steps_alike calls workers t s later same in
    let there = after_from calls workers s later in
    record {
      kept = λ k. ((next calls workers (rekept there before.kept) y).tasks k).kept;
      is = ap (λ z. next calls workers z y) before.is ∙ step_alike calls workers there before.kept y;
    }

-- ---- the laws

-- the law that a purge takes the kept tasks
pub purges_take_the_kept : PurgesTakeTheKept
purges_take_the_kept calls workers s = λ i. record s { tasks = λ k. record (s.tasks k) { kept = kept_purged (view_of_state calls s) k i } }

-- the law that it changes what an ask says of the queue alone
pub purges_change_asks_alone : PurgesChangeAsksAlone
purges_change_asks_alone calls workers s later y =
    let at = steps_alike calls workers (next calls workers s h.Purge) s later (record { kept = λ k. false; is = purges_take_the_kept calls workers s }) in
    let there = after_from calls workers s later in
    let alike = reply_alike calls workers there at.kept y in (
      ap (λ z. but_queue (reply_of calls workers z y).answer) at.is ∙ alike.answer,
      ap (λ z. (reply_of calls workers z y).ends) at.is ∙ alike.ends,
    )
