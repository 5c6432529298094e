-- Which tasks a sweep ends, and the calls that sweep.
use Rattle.std.proofs.Common.{zero, suc, ◌≡◌, ◌≢◌, ℕ, ◌+◌, ◌≤◌, ◌==◌, ◌&&◌, ◌||◌, nat_le, nat_lt, Bool, true, false, cond, List, [], ◌∷◌, ◌++◌, length, add-one, refl, sym, ap, ◌∙◌, arith, Option}
use Rattle.std.specs.Prelude.{not}
use Rattle.std.specs.List.{filter, range_with_len}
use Rattle.std.proofs.lemmas.Bool.{false≢true, eqb-true}
use Rattle.std.proofs.lemmas.Bool.Decides.{nat_tests}
use Rattle.sched_time.specs.declared.policies.Policies.{Policies}
use Rattle.executor_model.specs.declared.task.Stage.{Stage}
use Rattle.executor_model.specs.declared.task.Stage.TheVariants as ph
use Rattle.executor_model.specs.declared.task.Task.{Task}
use Rattle.queue_code.specs.Calls.{Planned, Terms, task_count, submits_task, AreFew}
use Rattle.executor_model.specs.View.{is_waiting}
use Rattle.executor_model.specs.Answers.{is_ended_by, setting_sweeps}
use Rattle.executor_model.specs.Histories.{is_end, cancels, is_sweep, is_shutdown, policies_after, work_after, is_stop}
use Rattle.executor_model.specs.State.{seen_task, due_seen, move_task}
use Rattle.executor_model.specs.own.Phases.{waits_with, is_waiting_phase}
use Rattle.executor_model.proofs.Seen.{seen_waits}
use Rattle.sched_time.specs.declared.timing.Timing.{Timing}
use Rattle.executor_model.specs.declared.types.Answer.{Answer}
use Rattle.executor_model.specs.declared.types.Answer.TheVariants as a
use Rattle.sched_time.specs.declared.policies.Which.{Which}
use Rattle.sched_time.specs.Policies.{set_policy}

pub and_none : (b : Bool) → (b && false) ≡ false
and_none true = refl
and_none false = refl

-- a number is one of a filtered list where it is one of the list and passes the test
end_filter : (test : ℕ → Bool) (ks : List ℕ) (k : ℕ) → is_end k (filter test ks) ≡ (is_end k ks && test k)
end_filter test [] k = refl
end_filter test (x ∷ ks) k =
    let i = end_filter test ks k in
    let pick : (b e : Bool) → test x ≡ b → (x == k) ≡ e → is_end k (cond b (x ∷ filter test ks) (filter test ks)) ≡ ((e || is_end k ks) && test k) =
    elim [
      | true ↦ elim [
        | true ↦ λ p q. ap (λ b. b || is_end k (filter test ks)) q ∙ sym (sym (ap test (eqb-true x k q)) ∙ p)
        | false ↦ λ p q. ap (λ b. b || is_end k (filter test ks)) q ∙ i
      ]
      | false ↦ elim [
        | true ↦ λ p q. i ∙ (ap (λ b. is_end k ks && b) (sym (ap test (eqb-true x k q)) ∙ p) ∙ (and_none (is_end k ks) ∙ sym (sym (ap test (eqb-true x k q)) ∙ p)))
        | false ↦ λ p q. i
      ]
    ]
    in
    pick (test x) (x == k) refl refl

-- a number is one of a range where it is within its ends
in_range_so : (a n k : ℕ) → is_end k (range_with_len a n) ≡ (nat_le a k && nat_lt k (a + n))
in_range_so a zero k = grind (arith, nat_tests)
in_range_so a (suc n) k = grind (arith, nat_tests, in_range_so (a + 1) n k)

-- where no number from the end of a range on passes a test, those that pass it are those of the range that do
pub ends_are : (test : ℕ → Bool) (n k : ℕ) → (n ≤ k → test k ≡ false) → is_end k (filter test (range_with_len 0 n)) ≡ test k
ends_are test n k none =
    let within : is_end k (range_with_len 0 n) ≡ nat_lt k n = in_range_so 0 n k ∙ grind (arith, nat_tests) in
    end_filter test (range_with_len 0 n) k ∙ (ap (λ b. b && test k) within ∙ by (nat_lt k n) refl)
  where
    by : (b : Bool) → nat_lt k n ≡ b → (b && test k) ≡ test k
    by true low = refl
    by false high = sym (none (grind (arith, nat_tests, high)))

-- one number more
filter_more : (test : ℕ → Bool) (a n j : ℕ) → a + n ≡ j → filter test (range_with_len a (suc n)) ≡ filter test (range_with_len a n) ++ cond (test j) (j ∷ []) []
filter_more test a zero j at = let same : a ≡ j = omega (arith, at) in ap (λ k. cond (test k) (k ∷ []) []) same
filter_more test a (suc n) j at = by (test a) _ _ _ (filter_more test (a + 1) n j (omega (arith, at)))
  where
    by : (b : Bool) (xs ys zs : List ℕ) → xs ≡ ys ++ zs → cond b (a ∷ xs) xs ≡ cond b (a ∷ ys) ys ++ zs
    by true xs ys zs same = ap (λ l. a ∷ l) same
    by false xs ys zs same = same

-- the same from the first number on
pub filter_next : (test : ℕ → Bool) (n : ℕ) → filter test (range_with_len 0 (n + 1)) ≡ filter test (range_with_len 0 n) ++ cond (test n) (n ∷ []) []
filter_next test n = ap (λ j. filter test (range_with_len 0 j)) (add-one n) ∙ filter_more test 0 n n (omega arith)

-- where no number passes a test, none is left
pub filter_none : (test : ℕ → Bool) (ks : List ℕ) → ((k : ℕ) → test k ≡ false) → filter test ks ≡ []
filter_none test [] none = refl
filter_none test (k ∷ ks) none = ap (λ b. cond b (k ∷ filter test ks) (filter test ks)) (none k) ∙ filter_none test ks none

-- both are so
pub and_left : (b c : Bool) → (b && c) ≡ true → b ≡ true
and_left true c q = refl
and_left false c q = q

-- what is not false is true
pub not_false : (b : Bool) → not b ≡ false → b ≡ true
not_false true q = refl
not_false false q = sym q

-- a plan has few tasks
tasks_within : (calls : List Planned) → task_count calls ≤ length calls
tasks_within [] = omega arith
tasks_within (p ∷ calls) =
    let rest = tasks_within calls in
    let pick : (b : Bool) → cond b (1 + task_count calls) (task_count calls) ≤ suc (length calls) = elim [ true ↦ omega (arith, rest) | false ↦ omega (arith, rest) ] in
    pick (submits_task p.1)

-- few calls submit no more tasks than there may be calls
pub few_tasks : (calls : List Planned) → AreFew calls → task_count calls ≤ 65536
few_tasks calls few = omega (arith, few, tasks_within calls)

-- a task in this phase waits
phase_waits : (p : Stage) → is_waiting_phase p ≡ true → p ≡ ph.Waiting
phase_waits ph.Vacant q = absurd (false≢true q)
phase_waits ph.Waiting q = refl
phase_waits ph.Running q = absurd (false≢true q)
phase_waits ph.Done q = absurd (false≢true q)
phase_waits ph.Failed q = absurd (false≢true q)
phase_waits ph.Dropped q = absurd (false≢true q)

-- a task that waits for a run is in the phase of one
pub waits_phase : (t : Task) → waits_with t ≡ true → t.phase ≡ ph.Waiting
waits_phase t waits = phase_waits t.phase (and_left (is_waiting_phase t.phase) _ waits)

-- a sweep under some policies, at some moment, ends a task that waits and that the policies do not let run
pub swept_under : (terms : Terms) (t : Task) (stopped : Bool) (policies : Policies) (moment : ℕ) → (t.phase ≡ ph.Dropped → t.cancelled ≡ true) → (t.phase ≢ ph.Vacant → t.timing ≡ terms.timing) →
    (is_waiting (seen_task terms t) && is_ended_by stopped policies moment terms.timing (seen_task terms t).due) ≡ (waits_with t && is_ended_by stopped policies moment t.timing t.due)
swept_under terms t stopped policies moment over timing =
    let pick : (b : Bool) → waits_with t ≡ b → (b && is_ended_by stopped policies moment terms.timing (due_seen terms t.phase t.due)) ≡ (b && is_ended_by stopped policies moment t.timing t.due) =
    elim [
      | true ↦ λ waits.
          let phase = waits_phase t waits in
          let used : t.phase ≢ ph.Vacant = λ q. let clash : ph.Waiting ≡ ph.Vacant = sym phase ∙ q in absurd cc in
          (λ i. is_ended_by stopped policies moment (sym (timing used) i) (due_seen terms (phase i) t.due))
      | false ↦ λ idle. refl
    ]
    in
    ap (λ b. b && is_ended_by stopped policies moment terms.timing (due_seen terms t.phase t.due)) (seen_waits terms t over) ∙ pick (waits_with t) refl

-- a call that sweeps: its answer changes no task by itself, and the tasks that it ends are cancelled
pub record IsSweeping (shut stopped : Bool) (policies : Policies) (answer : Answer) (after : Policies) (stops : Bool) : Type 0 where
  pub moves : (timing : Timing) (now k : ℕ) (task : Task) → move_task timing now k answer task ≡ task
  pub cancels : (k : ℕ) (ends : List ℕ) → cancels k answer ends ≡ is_end k ends
  pub works : (w : ℕ) (work : Option ℕ) → work_after w answer work ≡ work
  pub sweeps : is_sweep shut answer ≡ true
  pub sets : policies_after answer policies ≡ after
  pub shuts : (is_shutdown answer || shut) ≡ true
  pub stopping : (is_stop answer || stopped) ≡ stops

or_false : (b : Bool) → (b || false) ≡ b
or_false true = refl
or_false false = refl

-- a call that sets a policy where that sweeps
pub policy_sweeps : (shut stopped : Bool) (policies : Policies) (which : Which) (value : Bool) → setting_sweeps shut which value ≡ true → IsSweeping shut stopped policies (a.Policy which value) (set_policy which value policies) stopped
policy_sweeps shut stopped policies which value sweeping = record {
  moves = λ timing now k task. refl;
  cancels = λ k ends. or_false (is_end k ends);
  works = λ w work. refl;
  sweeps = sweeping;
  sets = refl;
  shuts = and_left shut _ sweeping;
  stopping = refl;
}

-- the first shutdown
pub shutdown_sweeps : (shut stopped : Bool) (policies : Policies) → shut ≡ false → IsSweeping shut stopped policies a.Shutdown policies stopped
shutdown_sweeps shut stopped policies unshut = record {
  moves = λ timing now k task. refl;
  cancels = λ k ends. or_false (is_end k ends);
  works = λ w work. refl;
  sweeps = ap not unshut;
  sets = refl;
  shuts = refl;
  stopping = refl;
}

-- a shutdown at once
pub stop_sweeps : (shut stopped : Bool) (policies : Policies) → IsSweeping shut stopped policies a.ShutdownNow policies true
stop_sweeps shut stopped policies = record {
  moves = λ timing now k task. refl;
  cancels = λ k ends. or_false (is_end k ends);
  works = λ w work. refl;
  sweeps = refl;
  sets = refl;
  shuts = refl;
  stopping = refl;
}
