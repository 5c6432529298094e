-- What is answered after a cancel from outside that has an effect.
use Rattle.std.proofs.Common.{◌≡◌, ℕ, ◌==◌, ◌&&◌, nat_lt, Bool, true, false, cond, List, Option, Some, None, refl, sym, ap, ◌∙◌, subst}
use Rattle.std.specs.Prelude.{slice_get, max, not, ◌-◌}
use Rattle.std.specs.Option.{option_map_or}
use Rattle.std.proofs.lemmas.Bool.{false≢true, and_parts, and_from, not_from_false, ne_eqb, eq-eqb}
use Rattle.std.proofs.lemmas.Option.{none-some, same_Some}
use Rattle.sched_time.specs.declared.timing.Ending.{Ending}
use Rattle.queue_code.specs.declared.call.CodeCall.{CodeCall}
use Rattle.queue_code.specs.declared.call.CodeCall.TheVariants as c
use Rattle.queue_code.specs.Calls.{Planned, numbers, task_count, terms_of}
use Rattle.executor_model.specs.declared.types.EventError.TheVariants as x
use Rattle.executor_model.specs.declared.types.Happening.{Happening}
use Rattle.executor_model.specs.declared.types.Happening.TheVariants as h
use Rattle.executor_model.specs.declared.types.Answer.{Answer}
use Rattle.executor_model.specs.declared.types.Answer.TheVariants as a
use Rattle.executor_model.specs.View.{is_enabled, first_enabled}
use Rattle.executor_model.specs.Answers.{called, start_answer, finish_answer, queue_size, running_count, is_terminated, outcome_in, stops_periodic, due_next, effect_on}
use Rattle.executor_model.specs.State.{State, view_of_state, seen_task, reply_of}
use Rattle.executor_laws.specs.Cancels.{tells_of}
use Rattle.executor_laws.proofs.Replies.{IsAsk, asks}
use Rattle.executor_laws.proofs.Places.{first_is_the_least, none_is_enabled}
use Rattle.executor_laws.proofs.CancelledTasks.{eqb_turns, cancelled_at, marks, others_stay, enabled_but, at, reply_where, call_reply}

-- the first enabled task stays, where it is not that one
pub first_stays : (calls : List Planned) (s : State) (j : ℕ) (first : Option ℕ) → (first ≡ Some j → ⊥) → first_enabled (view_of_state calls s) (numbers calls) ≡ first →
    first_enabled (view_of_state calls (cancelled_at calls s j)) (numbers calls) ≡ first
first_stays calls s j None other is =
    (none_is_enabled calls (view_of_state calls (cancelled_at calls s j))).1 (λ k low. enabled_but calls s j k ∙ ap (λ b. b && not (j == k)) ((none_is_enabled calls (view_of_state calls s)).0 is k low))
first_stays calls s j (Some k) other is =
    let v = view_of_state calls s in
    let found = (first_is_the_least calls v k).0 is in
    let apart : (j == k) ≡ false = ne_eqb j k (λ q. other (ap Some (sym q))) in
    (first_is_the_least calls (view_of_state calls (cancelled_at calls s j)) k).1 (record {
      below = found.below;
      enabled = enabled_but calls s j k ∙ and_from (is_enabled v k) (not (j == k)) found.enabled (not_from_false (j == k) apart);
      least = λ i low on. found.least i low (and_parts (is_enabled v i) (not (j == i)) (sym (enabled_but calls s j i) ∙ on)).0;
    })

-- another task found is not task j
pub not_that : (j k : ℕ) → (k == j) ≡ false → Some k ≡ Some j → ⊥
not_that j k apart is = false≢true (sym apart ∙ eq-eqb k j (same_Some k j is))

-- what a cancel of task k does, where the two are not one
pub effect_stays : (calls : List Planned) (s : State) (j k : ℕ) → (k == j) ≡ false → effect_on ((view_of_state calls (cancelled_at calls s j)).fate k) ≡ effect_on ((view_of_state calls s).fate k)
effect_stays calls s j k apart = ap (λ t. effect_on (seen_task (terms_of calls k) t)) (others_stay calls s j k (eqb_turns j k ∙ apart))

-- what comes of a run of task k, where it is marked or not
abbrev finish_with : List Planned → State → ℕ → Ending → ℕ → Bool → Answer
finish_with calls s v ending k bit =
    a.Finish v k (((view_of_state calls s).fate k).starts - 1) (outcome_in bit (stops_periodic s.shut s.stopped s.policies) (terms_of calls k).timing (due_next calls (view_of_state calls s) k) ending)

call_answers : (calls : List Planned) (s : State) (j moment : ℕ) (call : CodeCall) → tells_of j (called calls (at (view_of_state calls s) moment) call).answer ≡ false →
    (called calls (at (view_of_state calls (cancelled_at calls s j)) moment) call).answer ≡ (called calls (at (view_of_state calls s) moment) call).answer
call_answers calls s j moment call = by s.shut call
  where
    by : (shut : Bool) (call : CodeCall) → tells_of j (reply_where calls s moment shut call).answer ≡ false → (reply_where calls (cancelled_at calls s j) moment shut call).answer ≡ (reply_where calls s moment shut call).answer
    by shut (c.Cancel task) q = ap (a.Cancel task) (effect_stays calls s j task q)
    by shut c.Ask q = absurd (false≢true (sym q))
    by true call q = refl
    by false call q = refl

-- each happening that tells nothing of that task is answered the same
pub answers_stay : (calls : List Planned) (workers : ℕ) (s : State) (j : ℕ) (happening : Happening) → tells_of j (reply_of calls workers s happening).answer ≡ false →
    (reply_of calls workers (cancelled_at calls s j) happening).answer ≡ (reply_of calls workers s happening).answer
answers_stay calls workers s j h.Call q = by (slice_get calls s.made) q
  where
    by : (call : Option Planned) → tells_of j (call_reply calls s call).answer ≡ false → (call_reply calls (cancelled_at calls s j) call).answer ≡ (call_reply calls s call).answer
    by None q = refl
    by (Some p) q = call_answers calls s j (max s.moment p.0) p.1 q
answers_stay calls workers s j (h.Clock moment) q = refl
answers_stay calls workers s j (h.Start v) q = by (nat_lt v workers) (s.workers v) q
  where
    starts : (o : Option ℕ) → first_enabled (view_of_state calls s) (numbers calls) ≡ o → tells_of j (start_answer (view_of_state calls s) v o) ≡ false →
        start_answer (view_of_state calls (cancelled_at calls s j)) v (first_enabled (view_of_state calls (cancelled_at calls s j)) (numbers calls)) ≡ start_answer (view_of_state calls s) v o
    starts None is q = ap (start_answer (view_of_state calls (cancelled_at calls s j)) v) (first_stays calls s j None (λ r. none-some j r) is)
    starts (Some k) is q = ap (start_answer (view_of_state calls (cancelled_at calls s j)) v) (first_stays calls s j (Some k) (not_that j k q) is)

    by : (b : Bool) (work : Option ℕ) → tells_of j (cond b (option_map_or (λ _. a.Error x.Busy) work (start_answer (view_of_state calls s) v (first_enabled (view_of_state calls s) (numbers calls)))) (a.Error x.NoWorker)) ≡ false →
        cond b (option_map_or (λ _. a.Error x.Busy) work (start_answer (view_of_state calls (cancelled_at calls s j)) v (first_enabled (view_of_state calls (cancelled_at calls s j)) (numbers calls)))) (a.Error x.NoWorker)
        ≡ cond b (option_map_or (λ _. a.Error x.Busy) work (start_answer (view_of_state calls s) v (first_enabled (view_of_state calls s) (numbers calls)))) (a.Error x.NoWorker)
    by true None q = starts (first_enabled (view_of_state calls s) (numbers calls)) refl q
    by true (Some k) q = refl
    by false work q = refl
answers_stay calls workers s j (h.Finish v ending) q = by (nat_lt v workers) (s.workers v) q
  where
    by : (b : Bool) (work : Option ℕ) → tells_of j (cond b (finish_answer calls (view_of_state calls s) v ending work) (a.Error x.NoWorker)) ≡ false →
        cond b (finish_answer calls (view_of_state calls (cancelled_at calls s j)) v ending work) (a.Error x.NoWorker) ≡ cond b (finish_answer calls (view_of_state calls s) v ending work) (a.Error x.NoWorker)
    by true None q = refl
    by true (Some k) q = ap (finish_with calls s v ending k) (marks j k (s.tasks k).cancelled false (eqb_turns j k ∙ q))
    by false work q = refl
answers_stay calls workers s j (h.Cancel k) q = by (nat_lt k (task_count calls)) q
  where
    by : (b : Bool) → tells_of j (cond b (a.Outside k (effect_on ((view_of_state calls s).fate k))) (a.Error x.NoTask)) ≡ false →
        cond b (a.Outside k (effect_on ((view_of_state calls (cancelled_at calls s j)).fate k))) (a.Error x.NoTask) ≡ cond b (a.Outside k (effect_on ((view_of_state calls s).fate k))) (a.Error x.NoTask)
    by true q = ap (a.Outside k) (effect_stays calls s j k q)
    by false q = refl
answers_stay calls workers s j h.Purge q = refl

-- the queue after task j was cancelled
abbrev left_at : List Planned → State → ℕ → ℕ
left_at calls s j = queue_size calls (view_of_state calls (cancelled_at calls s j))

call_asks : (calls : List Planned) (s : State) (j moment queue running : ℕ) (shut terminated : Bool) (call : CodeCall) → (called calls (at (view_of_state calls s) moment) call).answer ≡ a.Ask queue running shut terminated →
    (called calls (at (view_of_state calls (cancelled_at calls s j)) moment) call).answer ≡ a.Ask (left_at calls s j) running shut (is_terminated shut (left_at calls s j) running)
call_asks calls s j moment queue running shut terminated c.Ask q =
    let left = left_at calls s j in
    let runs : running_count calls (view_of_state calls s) ≡ running = cc in
    let closed : s.shut ≡ shut = cc in λ i. a.Ask left (runs i) (closed i) (is_terminated (closed i) left (runs i))
call_asks calls s j moment queue running shut terminated call q =
    let is = asks calls (at (view_of_state calls s) moment) call (subst IsAsk (sym q) tt) in
    absurd cc

-- what an `ask` counts is fewer by that task, where it waited
pub asks_stay : (calls : List Planned) (workers : ℕ) (s : State) (j : ℕ) (happening : Happening) (queue running : ℕ) (shut terminated : Bool) → (reply_of calls workers s happening).answer ≡ a.Ask queue running shut terminated →
    (reply_of calls workers (cancelled_at calls s j) happening).answer ≡ a.Ask (left_at calls s j) running shut (is_terminated shut (left_at calls s j) running)
asks_stay calls workers s j h.Call queue running shut terminated q = by (slice_get calls s.made) q
  where
    by : (call : Option Planned) → (call_reply calls s call).answer ≡ a.Ask queue running shut terminated →
        (call_reply calls (cancelled_at calls s j) call).answer ≡ a.Ask (left_at calls s j) running shut (is_terminated shut (left_at calls s j) running)
    by None q = absurd cc
    by (Some p) q = call_asks calls s j (max s.moment p.0) queue running shut terminated p.1 q
asks_stay calls workers s j (h.Clock moment) queue running shut terminated q = absurd (by _ _ q)
  where
    by : (b d : Bool) → cond b (a.Error x.Backward) (cond d (a.Error x.TooFar) a.Clock) ≡ a.Ask queue running shut terminated → ⊥
    by true d q = cc
    by false true q = cc
    by false false q = cc
asks_stay calls workers s j (h.Start v) queue running shut terminated q = absurd (by (nat_lt v workers) (s.workers v) (first_enabled (view_of_state calls s) (numbers calls)) q)
  where
    by : (b : Bool) (work first : Option ℕ) → cond b (option_map_or (λ _. a.Error x.Busy) work (start_answer (view_of_state calls s) v first)) (a.Error x.NoWorker) ≡ a.Ask queue running shut terminated → ⊥
    by true None None q = cc
    by true None (Some k) q = cc
    by true (Some k) first q = cc
    by false work first q = cc
asks_stay calls workers s j (h.Finish v ending) queue running shut terminated q = absurd (by (nat_lt v workers) (s.workers v) q)
  where
    by : (b : Bool) (work : Option ℕ) → cond b (finish_answer calls (view_of_state calls s) v ending work) (a.Error x.NoWorker) ≡ a.Ask queue running shut terminated → ⊥
    by true None q = cc
    by true (Some k) q = cc
    by false work q = cc
asks_stay calls workers s j (h.Cancel k) queue running shut terminated q = absurd (by (nat_lt k (task_count calls)) q)
  where
    by : (b : Bool) → cond b (a.Outside k (effect_on ((view_of_state calls s).fate k))) (a.Error x.NoTask) ≡ a.Ask queue running shut terminated → ⊥
    by true q = cc
    by false q = cc
asks_stay calls workers s j h.Purge queue running shut terminated q = absurd cc
