-- The table of the answers, read with one call more, of whose task the state knows nothing.
use Rattle.std.proofs.Common.{◌≡◌, ℕ, ◌<◌, ◌≤◌, inl, inr, ◌⊎◌, ◌==◌, ◌&&◌, ◌||◌, nat_lt, nat_le, Bool, true, false, cond, List, [], ◌∷◌, ◌++◌, length, Option, Some, None, refl, sym, ap, ◌∙◌, arith, subst}
use Rattle.std.specs.Prelude.{slice_get, max, ◌-◌}
use Rattle.std.specs.Option.{option_map_or}
use Rattle.std.specs.List.{filter}
use Rattle.std.proofs.lemmas.Bool.{false≢true, eqb-true, false_from_ne_true}
use Rattle.std.proofs.lemmas.Bool.Decides.{nat_tests}
use Rattle.sched_time.specs.declared.policies.Policies.{Policies}
use Rattle.sched_time.specs.Policies.{set_policy}
use Rattle.queue_code.specs.declared.call.CodeCall.{CodeCall}
use Rattle.queue_code.specs.declared.call.CodeCall.TheVariants as c
use Rattle.executor_model.specs.declared.types.Happening.{Happening}
use Rattle.executor_model.specs.declared.types.Happening.TheVariants as h
use Rattle.executor_model.specs.declared.types.EventError.TheVariants as x
use Rattle.executor_model.specs.declared.types.Refusal.TheVariants as refusal
use Rattle.executor_model.specs.declared.types.Answer.TheVariants as a
use Rattle.executor_model.specs.declared.task.Stage.TheVariants as ph
use Rattle.executor_model.specs.declared.task.Task.{Task}
use Rattle.queue_code.specs.Calls.{Planned, IsOrderly, IsOrderlyCall, task_count, numbers, how_many, Terms, terms_of, due_at}
use Rattle.executor_model.specs.View.{Fate, View, is_waiting, is_running, is_enabled, earlier, first_enabled}
use Rattle.executor_model.specs.Answers.{Reply, bare, called, kind_of, is_swept, swept, is_ended_by, is_queued, is_terminated, setting_sweeps, start_answer, finish_answer, outcome_in, stops_periodic, effect_on}
use Rattle.executor_model.specs.State.{State, vacant, view_of_state, seen_task, seen_phase, reply_of}
use Rattle.executor_model.specs.Queues.{comes_before}
use Rattle.executor_model.proofs.Sound.{first_is_enabled}
use Rattle.executor_laws.specs.Positions.{IsSubmissionOf}
use Rattle.executor_laws.proofs.Numbering.{submits_below}
use Rattle.executor_laws.proofs.AddedCalls.{not_it, same_call, same_terms, same_of_numbers, task_grows, last_filtered, last_counted, last_not_first}

-- what a call may be added behind: the calls before it are in order, and it is in order behind them
pub record IsNext (calls : List Planned) (p : Planned) : Type 0 where
  pub orderly : IsOrderly calls
  pub last : IsOrderlyCall (task_count calls) p.1

-- the state knows nothing of task n
pub record NotThere (s : State) (n : ℕ) : Type 0 where
  pub task : s.tasks n ≡ vacant
  pub idle : (w : ℕ) → s.workers w ≡ Some n → ⊥

-- what holds of number n and of each other one, holds of each
pub by_number : (P : ℕ → Type 0) (n : ℕ) → P n → ((k : ℕ) → (k == n) ≡ false → P k) → (k : ℕ) → P k
by_number P n here other k = pick (k == n) refl
  where
    pick : (b : Bool) → (k == n) ≡ b → P k
    pick true q = subst P (sym (eqb-true k n q)) here
    pick false q = other k q

-- the number of a submission is below their count
pub submits_in : (calls : List Planned) (n k : ℕ) (p : Planned) → IsOrderly calls → slice_get calls n ≡ Some p → IsSubmissionOf k p.1 → k < task_count calls
submits_in calls n k p o q s = let low = submits_below 0 0 n k calls p o q s in omega (arith, low)

-- a task that is not there is vacant, and not kept
pub no_phase : (s : State) (n : ℕ) → NotThere s n → (s.tasks n).phase ≡ ph.Vacant
no_phase s n there = ap (λ (t : Task). t.phase) there.task

pub no_kept : (s : State) (n : ℕ) → NotThere s n → (s.tasks n).kept ≡ false
no_kept s n there = ap (λ (t : Task). t.kept) there.task

-- ---- what is seen

pub not_waiting : (terms : Terms) (s : State) (n : ℕ) → NotThere s n → is_waiting (seen_task terms (s.tasks n)) ≡ false
not_waiting terms s n there = let t = s.tasks n in ap (λ p. is_waiting (seen_phase terms p t.run t.due t.cancelled t.kept)) (no_phase s n there)

not_running : (terms : Terms) (s : State) (n : ℕ) → NotThere s n → is_running (seen_task terms (s.tasks n)) ≡ false
not_running terms s n there = let t = s.tasks n in ap (λ p. is_running (seen_phase terms p t.run t.due t.cancelled t.kept)) (no_phase s n there)

-- the same task is swept
swept_one : (calls : List Planned) (p : Planned) (s : State) (policies : Policies) → IsNext calls p → NotThere s (task_count calls) → (k : ℕ) →
    is_swept (calls ++ p ∷ []) (view_of_state (calls ++ p ∷ []) s) policies k ≡ is_swept calls (view_of_state calls s) policies k
swept_one calls p s policies is there = by_number (λ k. is_swept (calls ++ p ∷ []) (view_of_state (calls ++ p ∷ []) s) policies k ≡ is_swept calls (view_of_state calls s) policies k) (task_count calls) here other
  where
    test : Terms → ℕ → Bool
    test terms k = is_waiting (seen_task terms (s.tasks k)) && is_ended_by s.stopped policies s.moment terms.timing (seen_task terms (s.tasks k)).due

    none : (terms : Terms) → test terms (task_count calls) ≡ false
    none terms = ap (λ b. b && is_ended_by s.stopped policies s.moment terms.timing (seen_task terms (s.tasks (task_count calls))).due) (not_waiting terms s (task_count calls) there)

    here : test (terms_of (calls ++ p ∷ []) (task_count calls)) (task_count calls) ≡ test (terms_of calls (task_count calls)) (task_count calls)
    here = none (terms_of (calls ++ p ∷ []) (task_count calls)) ∙ sym (none (terms_of calls (task_count calls)))

    other : (k : ℕ) → (k == task_count calls) ≡ false → test (terms_of (calls ++ p ∷ []) k) k ≡ test (terms_of calls k) k
    other k apart = ap (λ terms. test terms k) (same_terms (task_count calls) calls p k is.last apart)

swept_none : (calls : List Planned) (s : State) (policies : Policies) (n : ℕ) → NotThere s n → is_swept calls (view_of_state calls s) policies n ≡ false
swept_none calls s policies n there = ap (λ b. b && is_ended_by s.stopped policies s.moment (terms_of calls n).timing (seen_task (terms_of calls n) (s.tasks n)).due) (not_waiting (terms_of calls n) s n there)

pub same_swept : (calls : List Planned) (p : Planned) (s : State) (policies : Policies) → IsNext calls p → NotThere s (task_count calls) →
    swept (calls ++ p ∷ []) (view_of_state (calls ++ p ∷ []) s) policies ≡ swept calls (view_of_state calls s) policies
same_swept calls p s policies is there =
    ap (λ test. filter test (numbers (calls ++ p ∷ []))) (λ i k. swept_one calls p s policies is there k i)
    ∙ same_of_numbers (filter (is_swept calls (view_of_state calls s) policies)) calls p (last_filtered (is_swept calls (view_of_state calls s) policies) (task_count calls) (swept_none calls s policies (task_count calls) there))

enabled_none : (calls : List Planned) (s : State) (n : ℕ) → NotThere s n → is_enabled (view_of_state calls s) n ≡ false
enabled_none calls s n there = ap (λ b. b && nat_le (seen_task (terms_of calls n) (s.tasks n)).due s.moment) (not_waiting (terms_of calls n) s n there)

enabled_one : (calls : List Planned) (p : Planned) (s : State) → IsNext calls p → NotThere s (task_count calls) → (k : ℕ) →
    is_enabled (view_of_state (calls ++ p ∷ []) s) k ≡ is_enabled (view_of_state calls s) k
enabled_one calls p s is there = by_number (λ k. is_enabled (view_of_state (calls ++ p ∷ []) s) k ≡ is_enabled (view_of_state calls s) k) (task_count calls)
    (enabled_none (calls ++ p ∷ []) s (task_count calls) there ∙ sym (enabled_none calls s (task_count calls) there))
    (λ k apart. ap (λ terms. is_waiting (seen_task terms (s.tasks k)) && nat_le (seen_task terms (s.tasks k)).due s.moment) (same_terms (task_count calls) calls p k is.last apart))

enabled_apart : (calls : List Planned) (s : State) (n k : ℕ) → NotThere s n → is_enabled (view_of_state calls s) k ≡ true → (k == n) ≡ false
enabled_apart calls s n k there q = false_from_ne_true (k == n) (λ e. absurd (false≢true (sym (enabled_none calls s n there) ∙ (ap (is_enabled (view_of_state calls s)) (sym (eqb-true k n e)) ∙ q))))

pub same_fate : (calls : List Planned) (p : Planned) (s : State) (k : ℕ) → IsNext calls p → (k == task_count calls) ≡ false → (view_of_state (calls ++ p ∷ []) s).fate k ≡ (view_of_state calls s).fate k
same_fate calls p s k is apart = ap (λ terms. seen_task terms (s.tasks k)) (same_terms (task_count calls) calls p k is.last apart)

same_first : (calls : List Planned) (p : Planned) (s : State) (ks : List ℕ) → IsNext calls p → NotThere s (task_count calls) →
    first_enabled (view_of_state (calls ++ p ∷ []) s) ks ≡ first_enabled (view_of_state calls s) ks
same_first calls p s [] is there = refl
same_first calls p s (k ∷ ks) is there =
    (λ i. cond (enabled_one calls p s is there k i) (Some (earlier more k (same_first calls p s ks is there i))) (same_first calls p s ks is there i))
    ∙ by (is_enabled v k) refl
  where
    v : View
    v = view_of_state calls s

    more : View
    more = view_of_state (calls ++ p ∷ []) s

    pick : (k == task_count calls) ≡ false → (o : Option ℕ) → first_enabled v ks ≡ o → earlier more k o ≡ earlier v k o
    pick apart None q = refl
    pick apart (Some j) q =
        let other = enabled_apart calls s (task_count calls) j there (first_is_enabled v ks j q) in
        λ i. cond (comes_before (same_fate calls p s j is other i).due j (same_fate calls p s k is apart i).due k) j k

    by : (b : Bool) → is_enabled v k ≡ b → cond b (Some (earlier more k (first_enabled v ks))) (first_enabled v ks) ≡ cond b (Some (earlier v k (first_enabled v ks))) (first_enabled v ks)
    by true q = ap Some (pick (enabled_apart calls s (task_count calls) k there q) (first_enabled v ks) refl)
    by false q = refl

-- the first enabled task is the same
pub first_alike : (calls : List Planned) (p : Planned) (s : State) → IsNext calls p → NotThere s (task_count calls) →
    first_enabled (view_of_state (calls ++ p ∷ []) s) (numbers (calls ++ p ∷ [])) ≡ first_enabled (view_of_state calls s) (numbers calls)
first_alike calls p s is there =
    same_first calls p s (numbers (calls ++ p ∷ [])) is there
    ∙ same_of_numbers (first_enabled (view_of_state calls s)) calls p (last_not_first (view_of_state calls s) (task_count calls) (enabled_none calls s (task_count calls) there))

-- ---- what is answered

-- each call but the one that submits task n is answered alike
called_alike : (calls : List Planned) (p : Planned) (s : State) (call : CodeCall) → IsNext calls p → NotThere s (task_count calls) → ((k : ℕ) → IsSubmissionOf k call → (k == task_count calls) ≡ false) →
    called (calls ++ p ∷ []) (view_of_state (calls ++ p ∷ []) s) call ≡ called calls (view_of_state calls s) call
called_alike calls p s (c.Submit task timing delay) is there apart =
    ap (λ terms. bare (cond s.shut (a.Refuse task refusal.Rejected) (a.Submit task (kind_of timing) (due_at terms 0 None)))) (same_terms (task_count calls) calls p task is.last (apart task refl))
called_alike calls p s (c.Illegal task) is there apart = refl
called_alike calls p s (c.Cancel task) is there apart = refl
called_alike calls p s (c.SetPolicy which value) is there apart =
    ap (λ ends. record { answer = a.Policy which value; ends = cond (setting_sweeps s.shut which value) ends [] }) (same_swept calls p s (set_policy which value s.policies) is there)
called_alike calls p s c.Shutdown is there apart = ap (λ ends. cond s.shut (bare a.ShutdownAgain) (record { answer = a.Shutdown; ends = ends })) (same_swept calls p s s.policies is there)
called_alike calls p s c.ShutdownNow is there apart =
    ap (λ ends. record { answer = a.ShutdownNow; ends = ends }) (same_swept calls p (record s { stopped = true }) s.policies is (record { task = there.task; idle = there.idle }))
called_alike calls p s c.Ask is there apart = same_of_numbers told calls p last
  where
    queued : ℕ → Bool
    queued k = is_queued (seen_task (terms_of calls k) (s.tasks k))

    running : ℕ → Bool
    running k = is_running (seen_task (terms_of calls k) (s.tasks k))

    told : List ℕ → Reply
    told ks = bare (a.Ask (how_many queued ks) (how_many running ks) s.shut (is_terminated s.shut (how_many queued ks) (how_many running ks)))

    unqueued : queued (task_count calls) ≡ false
    unqueued = λ i. not_waiting (terms_of calls (task_count calls)) s (task_count calls) there i || no_kept s (task_count calls) there i

    last : (ks : List ℕ) → told (ks ++ task_count calls ∷ []) ≡ told ks
    last ks = λ i.
        let q = last_counted queued (task_count calls) unqueued ks i in
        let r = last_counted running (task_count calls) (not_running (terms_of calls (task_count calls)) s (task_count calls) there) ks i in
        bare (a.Ask q r s.shut (is_terminated s.shut q r))

-- what may happen before the call: a call that is left, and a cancel of a task that the calls submit, or of none with the
-- call either
abbrev pub Admits : List Planned → Planned → ℕ → Happening → Type 0
Admits calls p made h.Call = made < length calls
Admits calls p made (h.Cancel k) = (k < task_count calls) ⊎ (task_count (calls ++ p ∷ []) ≤ k)
Admits calls p made _ = Unit {0}

has_task : (calls : List Planned) (p : Planned) (k : ℕ) → (k < task_count calls) ⊎ (task_count (calls ++ p ∷ []) ≤ k) → nat_lt k (task_count (calls ++ p ∷ [])) ≡ nat_lt k (task_count calls)
has_task calls p k (inl l) = let more = task_grows calls p in grind (arith, nat_tests, l, more)
has_task calls p k (inr far) = let more = task_grows calls p in grind (arith, nat_tests, far, more)

pub reply_alike : (calls : List Planned) (p : Planned) (workers : ℕ) (s : State) (happening : Happening) → IsNext calls p → NotThere s (task_count calls) → Admits calls p s.made happening →
    reply_of (calls ++ p ∷ []) workers s happening ≡ reply_of calls workers s happening
reply_alike calls p workers s h.Call is there admits =
    ap made (same_call calls p s.made admits) ∙ pick (slice_get calls s.made) refl
  where
    at : ℕ → State
    at moment = record s { moment = max s.moment moment }

    made : Option Planned → Reply
    made o = option_map_or (λ q. called (calls ++ p ∷ []) (view_of_state (calls ++ p ∷ []) (at q.0)) q.1) o (bare a.Clock)

    pick : (o : Option Planned) → slice_get calls s.made ≡ o → made o ≡ option_map_or (λ q. called calls (view_of_state calls (at q.0)) q.1) o (bare a.Clock)
    pick None q = refl
    pick (Some y) q = called_alike calls p (at y.0) y.1 is (record { task = there.task; idle = there.idle }) (λ k submits. not_it (task_count calls) k (submits_in calls s.made k y is.orderly q submits))
reply_alike calls p workers s (h.Clock t) is there admits = refl
reply_alike calls p workers s (h.Start w) is there admits =
    (λ i. bare (cond (nat_lt w workers) (option_map_or (λ _. a.Error x.Busy) (s.workers w) (start_answer (view_of_state (calls ++ p ∷ []) s) w (first_alike calls p s is there i))) (a.Error x.NoWorker)))
    ∙ ap (λ answer. bare (cond (nat_lt w workers) (option_map_or (λ _. a.Error x.Busy) (s.workers w) answer) (a.Error x.NoWorker))) (pick (first_enabled (view_of_state calls s) (numbers calls)) refl)
  where
    pick : (o : Option ℕ) → first_enabled (view_of_state calls s) (numbers calls) ≡ o → start_answer (view_of_state (calls ++ p ∷ []) s) w o ≡ start_answer (view_of_state calls s) w o
    pick None q = refl
    pick (Some k) q =
        let apart = enabled_apart calls s (task_count calls) k there (first_is_enabled (view_of_state calls s) (numbers calls) k q) in
        ap (λ (fate : Fate). a.Start w k fate.starts fate.due) (same_fate calls p s k is apart)
reply_alike calls p workers s (h.Finish w ending) is there admits = ap (λ answer. bare (cond (nat_lt w workers) answer (a.Error x.NoWorker))) (pick (s.workers w) refl)
  where
    pick : (o : Option ℕ) → s.workers w ≡ o → finish_answer (calls ++ p ∷ []) (view_of_state (calls ++ p ∷ []) s) w ending o ≡ finish_answer calls (view_of_state calls s) w ending o
    pick None q = refl
    pick (Some k) q =
        let apart : (k == task_count calls) ≡ false = false_from_ne_true (k == task_count calls) (λ e. absurd (there.idle w (q ∙ ap Some (eqb-true k (task_count calls) e)))) in
        let fate = (view_of_state calls s).fate k in
        ap (λ (terms : Terms). a.Finish w k (fate.starts - 1) (outcome_in fate.cancelled (stops_periodic s.shut s.stopped s.policies) terms.timing (due_at terms fate.starts (Some s.moment)) ending))
        (same_terms (task_count calls) calls p k is.last apart)
reply_alike calls p workers s (h.Cancel k) is there admits = ap (λ b. bare (cond b (a.Outside k (effect_on ((view_of_state calls s).fate k))) (a.Error x.NoTask))) (has_task calls p k admits)
reply_alike calls p workers s h.Purge is there admits = refl
