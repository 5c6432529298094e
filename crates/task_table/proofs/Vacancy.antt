-- Which steps leave a task vacant.
use Rattle.std.proofs.Common.{◌≡◌, ℕ, ◌==◌, ◌&&◌, ◌||◌, Bool, true, false, cond, List, [], ◌∷◌, Option, Some, None, refl, sym, ap, ◌∙◌}
use Rattle.std.specs.Prelude.{slice_get, max, not}
use Rattle.std.specs.Option.{option_map_or}
use Rattle.std.specs.List.{filter}
use Rattle.std.proofs.lemmas.Bool.{false≢true, eqb-true, false_from_ne_true}
use Rattle.sched_time.specs.declared.timing.Timing.{Timing}
use Rattle.queue_code.specs.declared.call.CodeCall.{CodeCall}
use Rattle.queue_code.specs.declared.call.CodeCall.TheVariants as c
use Rattle.queue_code.specs.Calls.{Planned, terms_of, numbers, due_at}
use Rattle.executor_model.specs.declared.types.Happening.{Happening}
use Rattle.executor_model.specs.declared.types.Happening.TheVariants as h
use Rattle.executor_model.specs.declared.types.EventError.TheVariants as x
use Rattle.executor_model.specs.declared.types.Refusal.TheVariants as refusal
use Rattle.executor_model.specs.declared.types.Answer.{Answer}
use Rattle.executor_model.specs.declared.types.Answer.TheVariants as a
use Rattle.executor_model.specs.declared.task.Stage.TheVariants as ph
use Rattle.executor_model.specs.declared.task.Task.{Task}
use Rattle.executor_model.specs.View.{View, is_waiting}
use Rattle.executor_model.specs.Answers.{Reply, bare, called, kind_of, swept, start_answer, finish_answer, effect_on}
use Rattle.executor_model.specs.Histories.{is_cancel, is_end, is_ended, is_finish_with, had_effect, is_sweep, meets, kept_after}
use Rattle.executor_model.specs.State.{State, vacant, next, reply_of, view_of_state, seen_task, task_after, move_task, submit_phase, finish_task}
use Rattle.executor_model.specs.own.Soundness.{IsSound}
use Rattle.executor_model.proofs.Sound.{Finds, reply_finds}
use Rattle.executor_model.proofs.Replies.{call_ends_waiting}

-- ---- an answer that is of another task leaves a vacant task vacant

-- an answer submits, starts, finishes or cancels a task that is not n
abbrev Spares : ℕ → Answer → Type 0
Spares n (a.Submit j kind due) = (j == n) ≡ false
Spares n (a.Start w j run due) = (j == n) ≡ false
Spares n (a.Finish w j run outcome) = (j == n) ≡ false
Spares n (a.Cancel j effect) = ((j == n) && had_effect effect) ≡ false
Spares n (a.Outside j effect) = ((j == n) && had_effect effect) ≡ false
Spares n _ = Unit {0}

spared_move : (timing : Timing) (now n : ℕ) (answer : Answer) (task : Task) → Spares n answer → move_task timing now n answer task ≡ task
spared_move timing now n (a.Submit j kind due) task spares = ap (λ b. cond b (submit_phase timing due task.phase task) task) spares
spared_move timing now n (a.Start w j run due) task spares = ap (λ b. cond b (record task { phase = ph.Running }) task) spares
spared_move timing now n (a.Finish w j run outcome) task spares = ap (λ b. cond b (finish_task timing now outcome task) task) spares
spared_move timing now n answer task spares = refl

spared_cancel : (n : ℕ) (answer : Answer) → Spares n answer → is_cancel n answer ≡ false
spared_cancel n (a.Cancel j effect) spares = spares
spared_cancel n (a.Outside j effect) spares = spares
spared_cancel n answer spares = refl

spared_last : (n : ℕ) (answer : Answer) → Spares n answer → is_finish_with is_ended n answer ≡ false
spared_last n (a.Finish w j run outcome) spares = ap (λ b. b && is_ended outcome) spares
spared_last n answer spares = refl

none_kept : (sweep kept met cancels waits : Bool) → kept ≡ false → cancels ≡ false → (not sweep && ((kept && not met) || (cancels && waits))) ≡ false
none_kept sweep kept met cancels waits k c = (λ i. not sweep && ((k i && not met) || (c i && waits))) ∙ none (not sweep)
  where
    none : (b : Bool) → (b && false) ≡ false
    none true = refl
    none false = refl

spared_task : (calls : List Planned) (s : State) (r : Reply) (n : ℕ) → s.tasks n ≡ vacant → Spares n r.answer → is_end n r.ends ≡ false → task_after calls s r n ≡ vacant
spared_task calls s r n there spares ends =
    let v = view_of_state calls s in
    let moved : move_task (terms_of calls n).timing s.moment n r.answer (s.tasks n) ≡ vacant = spared_move (terms_of calls n).timing s.moment n r.answer (s.tasks n) spares ∙ there in
    let cancel = spared_cancel n r.answer spares in
    let last = spared_last n r.answer spares in
    let kept : kept_after v n r.answer ≡ false =
    none_kept (is_sweep v.shut r.answer) (s.tasks n).kept (meets v (v.fate n).due n r.answer) (is_cancel n r.answer) (is_waiting (v.fate n) && not s.policies.removes) (ap (λ (t : Task). t.kept) there) cancel
    in
    λ i. record (moved i) { cancelled = (cancel i || (ends i || last i)) || (there i).cancelled; kept = kept i }

-- ---- the answers to what does not submit task n

-- an answer submits or cancels another task
abbrev Passes : ℕ → Answer → Type 0
Passes n (a.Submit j kind due) = (j == n) ≡ false
Passes n (a.Cancel j effect) = ((j == n) && had_effect effect) ≡ false
Passes n (a.Outside j effect) = ((j == n) && had_effect effect) ≡ false
Passes n _ = Unit {0}

-- what starts and finishes is not vacant
spares_by : (calls : List Planned) (s : State) (n : ℕ) (answer : Answer) → IsSound s → s.tasks n ≡ vacant → Finds calls s answer → Passes n answer → Spares n answer
spares_by calls s n (a.Start w j run due) sound there f passes =
    false_from_ne_true (j == n) (λ e. let clash : ph.Waiting ≡ ph.Vacant = sym f.1 ∙ (ap (λ i. (s.tasks i).phase) (eqb-true j n e) ∙ ap (λ (t : Task). t.phase) there) in absurd cc)
spares_by calls s n (a.Finish w j run outcome) sound there f passes =
    false_from_ne_true (j == n) (λ e. let clash : ph.Running ≡ ph.Vacant = sym (sound.at_work w j f.0) ∙ (ap (λ i. (s.tasks i).phase) (eqb-true j n e) ∙ ap (λ (t : Task). t.phase) there) in absurd cc)
spares_by calls s n (a.Submit j kind due) sound there f passes = passes
spares_by calls s n (a.Cancel j effect) sound there f passes = passes
spares_by calls s n (a.Outside j effect) sound there f passes = passes
spares_by calls s n answer sound there f passes = tt

no_effect : (calls : List Planned) (s : State) (n j : ℕ) → s.tasks n ≡ vacant → ((j == n) && had_effect (effect_on ((view_of_state calls s).fate j))) ≡ false
no_effect calls s n j there = by (j == n) refl
  where
    by : (b : Bool) → (j == n) ≡ b → (b && had_effect (effect_on ((view_of_state calls s).fate j))) ≡ false
    by true e = ap (λ (t : Task). had_effect (effect_on (seen_task (terms_of calls j) t))) (ap s.tasks (eqb-true j n e) ∙ there)
    by false e = refl

-- a call is no submission of task n
abbrev pub IsOther : ℕ → CodeCall → Type 0
IsOther n call = (task : ℕ) (timing : Timing) (delay : ℕ) → call ≡ c.Submit task timing delay → (task == n) ≡ false

call_passes : (calls : List Planned) (s : State) (moment n : ℕ) (call : CodeCall) → s.tasks n ≡ vacant → IsOther n call → Passes n (called calls (record (view_of_state calls s) { moment = moment }) call).answer
call_passes calls s moment n (c.Submit task timing delay) there other = by s.shut
  where
    by : (b : Bool) → Passes n (cond b (a.Refuse task refusal.Rejected) (a.Submit task (kind_of timing) (due_at (terms_of calls task) 0 None)))
    by true = tt
    by false = other task timing delay refl
call_passes calls s moment n (c.Illegal task) there other = tt
call_passes calls s moment n (c.Cancel task) there other = no_effect calls s n task there
call_passes calls s moment n (c.SetPolicy which value) there other = tt
call_passes calls s moment n c.Shutdown there other = by s.shut
  where
    v : View
    v = record (view_of_state calls s) { moment = moment }

    by : (b : Bool) → Passes n (cond b (bare a.ShutdownAgain) (record { answer = a.Shutdown; ends = swept calls v s.policies })).answer
    by true = tt
    by false = tt
call_passes calls s moment n c.ShutdownNow there other = tt
call_passes calls s moment n c.Ask there other = tt

-- the next call is no submission of task n
abbrev pub NextIsOther : List Planned → State → ℕ → Happening → Type 0
NextIsOther calls s n h.Call = (p : Planned) → slice_get calls s.made ≡ Some p → IsOther n p.1
NextIsOther calls s n _ = Unit {0}

reply_passes : (calls : List Planned) (workers : ℕ) (s : State) (n : ℕ) (y : Happening) → s.tasks n ≡ vacant → NextIsOther calls s n y → Passes n (reply_of calls workers s y).answer
reply_passes calls workers s n h.Call there other = pick (slice_get calls s.made) refl
  where
    pick : (q : Option Planned) → slice_get calls s.made ≡ q → Passes n (option_map_or (λ p. called calls (record (view_of_state calls s) { moment = max s.moment p.0 }) p.1) q (bare a.Clock)).answer
    pick None is = tt
    pick (Some p) is = call_passes calls s (max s.moment p.0) n p.1 there (other p is)
reply_passes calls workers s n (h.Clock t) there other = pick _ _
  where
    pick : (b d : Bool) → Passes n (cond b (a.Error x.Backward) (cond d (a.Error x.TooFar) a.Clock))
    pick true d = tt
    pick false true = tt
    pick false false = tt
reply_passes calls workers s n (h.Start w) there other = pick _ _ _
  where
    pick : (b : Bool) (work first : Option ℕ) → Passes n (cond b (option_map_or (λ _. a.Error x.Busy) work (start_answer (view_of_state calls s) w first)) (a.Error x.NoWorker))
    pick true None None = tt
    pick true None (Some k) = tt
    pick true (Some j) first = tt
    pick false work first = tt
reply_passes calls workers s n (h.Finish w ending) there other = pick _ _
  where
    pick : (b : Bool) (work : Option ℕ) → Passes n (cond b (finish_answer calls (view_of_state calls s) w ending work) (a.Error x.NoWorker))
    pick true None = tt
    pick true (Some k) = tt
    pick false work = tt
reply_passes calls workers s n (h.Cancel k) there other = pick _
  where
    pick : (b : Bool) → Passes n (cond b (a.Outside k (effect_on ((view_of_state calls s).fate k))) (a.Error x.NoTask))
    pick true = no_effect calls s n k there
    pick false = tt
reply_passes calls workers s n h.Purge there other = tt

-- a number that does not pass a test is none of those that do
not_filtered : (test : ℕ → Bool) (n : ℕ) (ks : List ℕ) → test n ≡ false → is_end n (filter test ks) ≡ false
not_filtered test n [] q = refl
not_filtered test n (k ∷ ks) q = by (test k) refl (not_filtered test n ks q)
  where
    by : (b : Bool) → test k ≡ b → is_end n (filter test ks) ≡ false → is_end n (cond b (k ∷ filter test ks) (filter test ks)) ≡ false
    by true is rest = ap (λ b. b || is_end n (filter test ks)) (false_from_ne_true (k == n) (λ e. absurd (false≢true (sym q ∙ (ap test (sym (eqb-true k n e)) ∙ is))))) ∙ rest
    by false is rest = rest

-- no call ends a vacant task
call_ends_none : (calls : List Planned) (s : State) (moment n : ℕ) (call : CodeCall) → s.tasks n ≡ vacant → is_end n (called calls (record (view_of_state calls s) { moment = moment }) call).ends ≡ false
call_ends_none calls s moment n call there =
    let those = call_ends_waiting calls (record (view_of_state calls s) { moment = moment }) call in
    let idle : is_waiting (seen_task (terms_of calls n) (s.tasks n)) ≡ false = ap (λ (t : Task). is_waiting (seen_task (terms_of calls n) t)) there in
    ap (is_end n) those.are ∙ not_filtered those.test n (numbers calls) (false_from_ne_true (those.test n) (λ e. absurd (false≢true (sym idle ∙ those.wait n e))))

ends_none : (calls : List Planned) (workers : ℕ) (s : State) (n : ℕ) (y : Happening) → s.tasks n ≡ vacant → is_end n (reply_of calls workers s y).ends ≡ false
ends_none calls workers s n h.Call there = pick (slice_get calls s.made)
  where
    pick : (q : Option Planned) → is_end n (option_map_or (λ p. called calls (record (view_of_state calls s) { moment = max s.moment p.0 }) p.1) q (bare a.Clock)).ends ≡ false
    pick None = refl
    pick (Some p) = call_ends_none calls s (max s.moment p.0) n p.1 there
ends_none calls workers s n (h.Clock t) there = refl
ends_none calls workers s n (h.Start w) there = refl
ends_none calls workers s n (h.Finish w ending) there = refl
ends_none calls workers s n (h.Cancel k) there = refl
ends_none calls workers s n h.Purge there = refl

-- ---- a step

-- a step leaves a vacant task vacant, where the next call does not submit it
pub still_vacant : (calls : List Planned) (workers : ℕ) (s : State) (n : ℕ) (y : Happening) → IsSound s → s.tasks n ≡ vacant → NextIsOther calls s n y → (next calls workers s y).tasks n ≡ vacant
still_vacant calls workers s n y sound there other =
    let r = reply_of calls workers s y in
    spared_task calls s r n there (spares_by calls s n r.answer sound there (reply_finds calls workers s y sound) (reply_passes calls workers s n y there other)) (ends_none calls workers s n y there)
