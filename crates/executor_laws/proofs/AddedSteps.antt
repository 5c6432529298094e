-- The steps of a state that knows nothing of a task, read with the call more that submits it, and that it knows nothing after.
use Rattle.std.proofs.Common.{◌≡◌, ℕ, ◌==◌, ◌&&◌, ◌||◌, nat_le, Bool, true, false, cond, List, [], ◌∷◌, ◌++◌, Option, Some, None, refl, sym, ap, ◌∙◌, subst}
use Rattle.std.specs.Prelude.{slice_get, max, not}
use Rattle.std.specs.Option.{option_map_or}
use Rattle.std.specs.List.{filter}
use Rattle.std.proofs.lemmas.Bool.{false≢true, eqb-true, eq-eqb, false_from_ne_true}
use Rattle.std.proofs.lemmas.Option.{none-some, same_Some}
use Rattle.sched_time.specs.declared.timing.Timing.{Timing}
use Rattle.queue_code.specs.declared.call.CodeCall.{CodeCall}
use Rattle.queue_code.specs.declared.call.CodeCall.TheVariants as c
use Rattle.executor_model.specs.declared.types.Happening.{Happening}
use Rattle.executor_model.specs.declared.types.Happening.TheVariants as h
use Rattle.executor_model.specs.declared.types.EventError.TheVariants as x
use Rattle.executor_model.specs.declared.types.Refusal.TheVariants as refusal
use Rattle.executor_model.specs.declared.types.Answer.{Answer}
use Rattle.executor_model.specs.declared.types.Answer.TheVariants as a
use Rattle.executor_model.specs.declared.task.Stage.TheVariants as ph
use Rattle.executor_model.specs.declared.task.Task.{Task}
use Rattle.queue_code.specs.Calls.{Planned, IsOrderly, task_count, numbers, Terms, terms_of, due_at}
use Rattle.executor_model.specs.View.{Fate, is_waiting}
use Rattle.executor_model.specs.Answers.{Reply, bare, called, kind_of, swept, start_answer, finish_answer, effect_on, moment_after}
use Rattle.executor_model.specs.Histories.{is_submit, is_start, is_finish, is_cancel, is_end, is_ended, is_finish_with, had_effect, is_sweep, meets, kept_after, work_after, made_after, policies_after, is_shutdown, is_stop, cancels}
use Rattle.executor_model.specs.State.{State, view_of_state, seen_task, reply_of, next, state_after, task_after, move_task, submit_phase, finish_task}
use Rattle.executor_model.specs.own.Soundness.{IsSound}
use Rattle.executor_model.specs.Queues.{comes_before}
use Rattle.executor_model.proofs.Sound.{Finds, reply_finds}
use Rattle.executor_model.proofs.Replies.{IsAnswerTo, by_answer, call_ends_waiting}
-- ---- what it does
use Rattle.executor_laws.specs.Positions.{IsSubmissionOf}
use Rattle.executor_laws.proofs.AddedCalls.{not_it, same_call, same_terms}
use Rattle.executor_laws.proofs.AddedAnswers.{IsNext, NotThere, Admits, by_number, submits_in, no_phase, no_kept, not_waiting, same_fate, reply_alike}

-- an answer is of other tasks than n
pub record Passes (n : ℕ) (answer : Answer) : Type 0 where
  pub submit : is_submit n answer ≡ false
  pub start : is_start n answer ≡ false
  pub finish : is_finish n answer ≡ false

same_moved : (t u : Timing) (now n : ℕ) (answer : Answer) (task : Task) → Passes n answer → move_task t now n answer task ≡ move_task u now n answer task
same_moved t u now n (a.Submit j kind due) task by_it = ap (λ b. cond b (submit_phase t due task.phase task) task) by_it.submit ∙ sym (ap (λ b. cond b (submit_phase u due task.phase task) task) by_it.submit)
same_moved t u now n (a.Finish w j run outcome) task by_it = ap (λ b. cond b (finish_task t now outcome task) task) by_it.finish ∙ sym (ap (λ b. cond b (finish_task u now outcome task) task) by_it.finish)
same_moved t u now n answer task by_it = refl

same_meets : (calls : List Planned) (p : Planned) (s : State) (due k : ℕ) (answer : Answer) → IsNext calls p → Passes (task_count calls) answer → meets (view_of_state (calls ++ p ∷ []) s) due k answer ≡ meets (view_of_state calls s) due k answer
same_meets calls p s due k (a.Start w task run at) is by_it = ap (λ (fate : Fate). nat_le due s.moment && comes_before due k fate.due task) (same_fate calls p s task is by_it.start)
same_meets calls p s due k answer is by_it = refl

abbrev keeps : Bool → Bool → Bool → Bool → Bool → Bool → Bool
keeps sweeps kept met cancelled waiting removes = not sweeps && ((kept && not met) || (cancelled && (waiting && not removes)))

keeps_none : (sweeps kept met cancelled waiting removes : Bool) → kept ≡ false → waiting ≡ false → keeps sweeps kept met cancelled waiting removes ≡ false
keeps_none true kept met cancelled waiting removes q r = refl
keeps_none false kept met true waiting removes q r = λ i. (q i && not met) || (r i && not removes)
keeps_none false kept met false waiting removes q r = λ i. (q i && not met) || false

kept_none : (calls : List Planned) (s : State) (n : ℕ) (answer : Answer) → NotThere s n → kept_after (view_of_state calls s) n answer ≡ false
kept_none calls s n answer there =
    keeps_none (is_sweep s.shut answer) (s.tasks n).kept (meets (view_of_state calls s) (seen_task (terms_of calls n) (s.tasks n)).due n answer) (is_cancel n answer) (is_waiting (seen_task (terms_of calls n) (s.tasks n))) s.policies.removes
    (no_kept s n there) (not_waiting (terms_of calls n) s n there)

same_kept : (calls : List Planned) (p : Planned) (s : State) (answer : Answer) → IsNext calls p → NotThere s (task_count calls) → Passes (task_count calls) answer → (k : ℕ) →
    kept_after (view_of_state (calls ++ p ∷ []) s) k answer ≡ kept_after (view_of_state calls s) k answer
same_kept calls p s answer is there by_it = by_number (λ k. kept_after (view_of_state (calls ++ p ∷ []) s) k answer ≡ kept_after (view_of_state calls s) k answer) (task_count calls)
    (kept_none (calls ++ p ∷ []) s (task_count calls) answer there ∙ sym (kept_none calls s (task_count calls) answer there))
    (λ k apart.
    ap (λ (terms : Terms). keeps (is_sweep s.shut answer) (s.tasks k).kept (meets (view_of_state (calls ++ p ∷ []) s) (seen_task terms (s.tasks k)).due k answer) (is_cancel k answer) (is_waiting (seen_task terms (s.tasks k))) s.policies.removes)
    (same_terms (task_count calls) calls p k is.last apart)
    ∙ ap (λ met. keeps (is_sweep s.shut answer) (s.tasks k).kept met (is_cancel k answer) (is_waiting (seen_task (terms_of calls k) (s.tasks k))) s.policies.removes)
    (same_meets calls p s (seen_task (terms_of calls k) (s.tasks k)).due k answer is by_it))

same_task : (calls : List Planned) (p : Planned) (s : State) (r : Reply) → IsNext calls p → NotThere s (task_count calls) → Passes (task_count calls) r.answer → (k : ℕ) →
    task_after (calls ++ p ∷ []) s r k ≡ task_after calls s r k
same_task calls p s r is there by_it k = λ i. record (moved i) { cancelled = cancels k r.answer r.ends || (s.tasks k).cancelled; kept = same_kept calls p s r.answer is there by_it k i }
  where
    move : Timing → ℕ → Task
    move timing k = move_task timing s.moment k r.answer (s.tasks k)

    moved : move (terms_of (calls ++ p ∷ []) k).timing k ≡ move (terms_of calls k).timing k
    moved = by_number (λ k. move (terms_of (calls ++ p ∷ []) k).timing k ≡ move (terms_of calls k).timing k) (task_count calls)
        (same_moved (terms_of (calls ++ p ∷ []) (task_count calls)).timing (terms_of calls (task_count calls)).timing s.moment (task_count calls) r.answer (s.tasks (task_count calls)) by_it)
        (λ k apart. ap (λ (terms : Terms). move terms.timing k) (same_terms (task_count calls) calls p k is.last apart)) k

pub moment_alike : (calls : List Planned) (p : Planned) (now made : ℕ) (happening : Happening) → Admits calls p made happening → moment_after now (slice_get (calls ++ p ∷ []) made) happening ≡ moment_after now (slice_get calls made) happening
moment_alike calls p now made h.Call admits = ap (λ o. option_map_or (λ (p : Planned). max now p.0) o now) (same_call calls p made admits)
moment_alike calls p now made (h.Clock t) admits = refl
moment_alike calls p now made (h.Start w) admits = refl
moment_alike calls p now made (h.Finish w ending) admits = refl
moment_alike calls p now made (h.Cancel k) admits = refl
moment_alike calls p now made h.Purge admits = refl

-- the next call does not submit task n
abbrev pub IsPassed : List Planned → ℕ → ℕ → Type 0
IsPassed calls made n = (y : Planned) → slice_get calls made ≡ Some y → (k : ℕ) → IsSubmissionOf k y.1 → (k == n) ≡ false

-- the happening does not submit task n
abbrev pub Passed : List Planned → ℕ → ℕ → Happening → Type 0
Passed calls made n h.Call = IsPassed calls made n
Passed calls made n _ = Unit {0}

passed_by : (calls : List Planned) (made n : ℕ) (happening : Happening) → IsPassed calls made n → Passed calls made n happening
passed_by calls made n h.Call passed = passed
passed_by calls made n (h.Clock t) passed = tt
passed_by calls made n (h.Start w) passed = tt
passed_by calls made n (h.Finish w ending) passed = tt
passed_by calls made n (h.Cancel k) passed = tt
passed_by calls made n h.Purge passed = tt

-- no call before the one that is added submits its task
pub passed_before : (calls : List Planned) (made : ℕ) (happening : Happening) → IsOrderly calls → Passed calls made (task_count calls) happening
passed_before calls made happening o = passed_by calls made (task_count calls) happening (λ y q k submits. not_it (task_count calls) k (submits_in calls made k y o q submits))

-- then no answer submits it
submits_none : (calls : List Planned) (workers : ℕ) (s : State) (n : ℕ) (happening : Happening) → Passed calls s.made n happening → is_submit n (reply_of calls workers s happening).answer ≡ false
submits_none calls workers s n h.Call passed = pick (slice_get calls s.made) refl
  where
    each : (call : CodeCall) → ((k : ℕ) → IsSubmissionOf k call → (k == n) ≡ false) → (y : Answer) → IsAnswerTo y call → is_submit n y ≡ false
    each (c.Submit task timing delay) apart (a.Submit j kind due) q = apart j (sym q)
    each call apart (a.Submit j kind due) q = absurd q
    each call apart y q = refl

    pick : (q : Option Planned) → slice_get calls s.made ≡ q → is_submit n (option_map_or (λ p. called calls (record (view_of_state calls s) { moment = max s.moment p.0 }) p.1) q (bare a.Clock)).answer ≡ false
    pick None q = refl
    pick (Some y) q = by_answer (λ x. is_submit n x ≡ false) calls (record (view_of_state calls s) { moment = max s.moment y.0 }) y.1 (each y.1 (passed y q))
submits_none calls workers s n (h.Clock t) passed = pick _ _
  where
    pick : (b d : Bool) → is_submit n (cond b (a.Error x.Backward) (cond d (a.Error x.TooFar) a.Clock)) ≡ false
    pick true d = refl
    pick false true = refl
    pick false false = refl
submits_none calls workers s n (h.Start w) passed = pick _ _ _
  where
    pick : (b : Bool) (work first : Option ℕ) → is_submit n (cond b (option_map_or (λ _. a.Error x.Busy) work (start_answer (view_of_state calls s) w first)) (a.Error x.NoWorker)) ≡ false
    pick true None None = refl
    pick true None (Some k) = refl
    pick true (Some j) first = refl
    pick false work first = refl
submits_none calls workers s n (h.Finish w ending) passed = pick _ _
  where
    pick : (b : Bool) (work : Option ℕ) → is_submit n (cond b (finish_answer calls (view_of_state calls s) w ending work) (a.Error x.NoWorker)) ≡ false
    pick true None = refl
    pick true (Some k) = refl
    pick false work = refl
submits_none calls workers s n (h.Cancel k) passed = pick _
  where
    pick : (b : Bool) → is_submit n (cond b (a.Outside k (effect_on ((view_of_state calls s).fate k))) (a.Error x.NoTask)) ≡ false
    pick true = refl
    pick false = refl
submits_none calls workers s n h.Purge passed = refl

passes_by : (calls : List Planned) (s : State) (n : ℕ) (answer : Answer) → NotThere s n → Finds calls s answer → is_submit n answer ≡ false → Passes n answer
passes_by calls s n (a.Start w j run due) there f q =
    record { submit = q; start = false_from_ne_true (j == n) (λ e. absurd (apart (sym (no_phase s n there) ∙ subst (λ k. (s.tasks k).phase ≡ ph.Waiting) (eqb-true j n e) f.1))); finish = refl }
  where
    apart : ph.Vacant ≡ ph.Waiting → ⊥
    apart q = cc
passes_by calls s n (a.Finish w j run outcome) there f q =
    record { submit = q; start = refl; finish = false_from_ne_true (j == n) (λ e. absurd (there.idle w (f.0 ∙ ap Some (eqb-true j n e)))) }
passes_by calls s n answer there f q = record { submit = q; start = refl; finish = refl }

pub passes : (calls : List Planned) (workers : ℕ) (s : State) (n : ℕ) (happening : Happening) → Passed calls s.made n happening → IsSound s → NotThere s n → Passes n (reply_of calls workers s happening).answer
passes calls workers s n happening passed sound there = passes_by calls s n (reply_of calls workers s happening).answer there (reply_finds calls workers s happening sound) (submits_none calls workers s n happening passed)

-- the step is the same
pub next_alike : (calls : List Planned) (p : Planned) (workers : ℕ) (s : State) (happening : Happening) → IsNext calls p → IsSound s → NotThere s (task_count calls) → Admits calls p s.made happening →
    next (calls ++ p ∷ []) workers s happening ≡ next calls workers s happening
next_alike calls p workers s happening is sound there admits =
    ap (state_after (calls ++ p ∷ []) s happening) (reply_alike calls p workers s happening is there admits)
    ∙ (λ i. record {
      made = made_after s.made happening;
      moment = moment_alike calls p s.moment s.made happening admits i;
      tasks = λ k. same_task calls p s (reply_of calls workers s happening) is there (passes calls workers s (task_count calls) happening (passed_before calls s.made happening is.orderly) sound there) k i;
      workers = λ w. work_after w (reply_of calls workers s happening).answer (s.workers w);
      policies = policies_after (reply_of calls workers s happening).answer s.policies;
      shut = is_shutdown (reply_of calls workers s happening).answer || s.shut;
      stopped = is_stop (reply_of calls workers s happening).answer || s.stopped;
    })

idle_after : (s : State) (n u : ℕ) (answer : Answer) → NotThere s n → Passes n answer → work_after u answer (s.workers u) ≡ Some n → ⊥
idle_after s n u (a.Start w task run due) there by_it q = by (w == u) q
  where
    by : (b : Bool) → cond b (Some task) (s.workers u) ≡ Some n → ⊥
    by true q = false≢true (sym by_it.start ∙ eq-eqb task n (same_Some task n q))
    by false q = there.idle u q
idle_after s n u (a.Finish w task run outcome) there by_it q = by (w == u) q
  where
    by : (b : Bool) → cond b None (s.workers u) ≡ Some n → ⊥
    by true q = none-some n q
    by false q = there.idle u q
idle_after s n u answer there by_it q = there.idle u q

-- ---- task n is still not there

-- a task of which an answer is not stays as it is
same_whole : (t : Timing) (now n : ℕ) (answer : Answer) (task : Task) → Passes n answer → move_task t now n answer task ≡ task
same_whole t now n (a.Submit j kind due) task by_it = ap (λ b. cond b (submit_phase t due task.phase task) task) by_it.submit
same_whole t now n (a.Start w j run due) task by_it = ap (λ b. cond b (record task { phase = ph.Running }) task) by_it.start
same_whole t now n (a.Finish w j run outcome) task by_it = ap (λ b. cond b (finish_task t now outcome task) task) by_it.finish
same_whole t now n answer task by_it = refl

-- a number that does not pass a test is none of those that do
not_filtered : (test : ℕ → Bool) (n : ℕ) (ks : List ℕ) → test n ≡ false → is_end n (filter test ks) ≡ false
not_filtered test n [] q = refl
not_filtered test n (k ∷ ks) q = by (test k) refl (not_filtered test n ks q)
  where
    by : (b : Bool) → test k ≡ b → is_end n (filter test ks) ≡ false → is_end n (cond b (k ∷ filter test ks) (filter test ks)) ≡ false
    by true is rest = ap (λ b. b || is_end n (filter test ks)) (false_from_ne_true (k == n) (λ e. absurd (false≢true (sym q ∙ (ap test (sym (eqb-true k n e)) ∙ is))))) ∙ rest
    by false is rest = rest

no_effect : (calls : List Planned) (s : State) (n j : ℕ) → NotThere s n → ((j == n) && had_effect (effect_on ((view_of_state calls s).fate j))) ≡ false
no_effect calls s n j there = by (j == n) refl
  where
    by : (b : Bool) → (j == n) ≡ b → (b && had_effect (effect_on ((view_of_state calls s).fate j))) ≡ false
    by true e = ap (λ t. had_effect (effect_on (seen_task (terms_of calls j) t))) (ap s.tasks (eqb-true j n e) ∙ there.task)
    by false e = refl

call_cancels_none : (calls : List Planned) (s : State) (n : ℕ) (call : CodeCall) → NotThere s n → is_cancel n (called calls (view_of_state calls s) call).answer ≡ false
call_cancels_none calls s n (c.Submit task timing delay) there = by s.shut
  where
    by : (b : Bool) → is_cancel n (cond b (a.Refuse task refusal.Rejected) (a.Submit task (kind_of timing) (due_at (terms_of calls task) 0 None))) ≡ false
    by true = refl
    by false = refl
call_cancels_none calls s n (c.Illegal task) there = refl
call_cancels_none calls s n (c.Cancel task) there = no_effect calls s n task there
call_cancels_none calls s n (c.SetPolicy which value) there = refl
call_cancels_none calls s n c.Shutdown there = by s.shut
  where
    by : (b : Bool) → is_cancel n (cond b (bare a.ShutdownAgain) (record { answer = a.Shutdown; ends = swept calls (view_of_state calls s) s.policies })).answer ≡ false
    by true = refl
    by false = refl
call_cancels_none calls s n c.ShutdownNow there = refl
call_cancels_none calls s n c.Ask there = refl

call_ends_none : (calls : List Planned) (s : State) (n : ℕ) (call : CodeCall) → NotThere s n → is_end n (called calls (view_of_state calls s) call).ends ≡ false
call_ends_none calls s n call there =
    let those = call_ends_waiting calls (view_of_state calls s) call in
    ap (is_end n) those.are
    ∙ not_filtered those.test n (numbers calls) (false_from_ne_true (those.test n) (λ e. absurd (false≢true (sym (not_waiting (terms_of calls n) s n there) ∙ those.wait n e))))

-- a reply cancels and ends no task that is not there
record CancelsNone (n : ℕ) (r : Reply) : Type 0 where
  cancel : is_cancel n r.answer ≡ false
  ends : is_end n r.ends ≡ false

cancels_none : (calls : List Planned) (workers : ℕ) (s : State) (n : ℕ) (happening : Happening) → NotThere s n → CancelsNone n (reply_of calls workers s happening)
cancels_none calls workers s n h.Call there = pick (slice_get calls s.made)
  where
    pick : (o : Option Planned) → CancelsNone n (option_map_or (λ p. called calls (record (view_of_state calls s) { moment = max s.moment p.0 }) p.1) o (bare a.Clock))
    pick None = record { cancel = refl; ends = refl }
    pick (Some y) =
        let at : State = record s { moment = max s.moment y.0 } in
        let still : NotThere at n = record { task = there.task; idle = there.idle } in
        record { cancel = call_cancels_none calls at n y.1 still; ends = call_ends_none calls at n y.1 still }
cancels_none calls workers s n (h.Clock t) there = record { cancel = pick _ _; ends = refl }
  where
    pick : (b d : Bool) → is_cancel n (cond b (a.Error x.Backward) (cond d (a.Error x.TooFar) a.Clock)) ≡ false
    pick true d = refl
    pick false true = refl
    pick false false = refl
cancels_none calls workers s n (h.Start w) there = record { cancel = pick _ _ _; ends = refl }
  where
    pick : (b : Bool) (work first : Option ℕ) → is_cancel n (cond b (option_map_or (λ _. a.Error x.Busy) work (start_answer (view_of_state calls s) w first)) (a.Error x.NoWorker)) ≡ false
    pick true None None = refl
    pick true None (Some k) = refl
    pick true (Some j) first = refl
    pick false work first = refl
cancels_none calls workers s n (h.Finish w ending) there = record { cancel = pick _ _; ends = refl }
  where
    pick : (b : Bool) (work : Option ℕ) → is_cancel n (cond b (finish_answer calls (view_of_state calls s) w ending work) (a.Error x.NoWorker)) ≡ false
    pick true None = refl
    pick true (Some k) = refl
    pick false work = refl
cancels_none calls workers s n (h.Cancel k) there = record { cancel = pick _; ends = refl }
  where
    pick : (b : Bool) → is_cancel n (cond b (a.Outside k (effect_on ((view_of_state calls s).fate k))) (a.Error x.NoTask)) ≡ false
    pick true = no_effect calls s n k there
    pick false = refl
cancels_none calls workers s n h.Purge there = record { cancel = refl; ends = refl }

no_last : (n : ℕ) (answer : Answer) → Passes n answer → is_finish_with is_ended n answer ≡ false
no_last n (a.Finish w j run outcome) by_it = ap (λ b. b && is_ended outcome) by_it.finish
no_last n answer by_it = refl

pub still_not_there : (calls : List Planned) (workers : ℕ) (s : State) (n : ℕ) (happening : Happening) → Passed calls s.made n happening → IsSound s → NotThere s n → NotThere (next calls workers s happening) n
still_not_there calls workers s n happening passed sound there =
    let r = reply_of calls workers s happening in
    let p = passes calls workers s n happening passed sound there in
    let none = cancels_none calls workers s n happening there in
    let same = same_whole (terms_of calls n).timing s.moment n r.answer (s.tasks n) p ∙ there.task in
    record {
      task = λ i. record (same i) { cancelled = (none.cancel i || (none.ends i || no_last n r.answer p i)) || (there.task i).cancelled; kept = kept_none calls s n r.answer there i };
      idle = λ u q. idle_after s n u r.answer there p q;
    }
