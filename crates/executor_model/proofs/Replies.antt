-- What calls are answered, said once for all of them: which answers a call may have, and which tasks it may end.
use Rattle.std.proofs.Common.{◌≡◌, ℕ, Bool, true, false, cond, List, [], ◌∷◌, None, refl, sym}
use Rattle.std.specs.List.{filter}
use Rattle.std.proofs.lemmas.Bool.{false≢true, and_parts}
use Rattle.queue_code.specs.declared.call.CodeCall.{CodeCall}
use Rattle.queue_code.specs.declared.call.CodeCall.TheVariants as c
use Rattle.queue_code.specs.Calls.{Planned, numbers, submits_task, terms_of, due_at}
use Rattle.sched_time.specs.declared.policies.Policies.{Policies}
use Rattle.executor_model.specs.declared.types.Kind.{Kind}
use Rattle.executor_model.specs.declared.types.Refusal.TheVariants as refusal
use Rattle.executor_model.specs.declared.types.Answer.{Answer}
use Rattle.executor_model.specs.declared.types.Answer.TheVariants as a
use Rattle.executor_model.specs.View.{View, is_waiting}
use Rattle.executor_model.specs.Answers.{bare, called, kind_of, is_ended_by, is_swept, setting_sweeps, swept}
use Rattle.sched_time.specs.Policies.{set_policy}

-- ---- the answers to calls

-- an answer is one that a call may have
abbrev pub IsAnswerTo : Answer → CodeCall → Type 0
IsAnswerTo (a.Submit k kind due) (c.Submit task timing delay) = k ≡ task
IsAnswerTo (a.Refuse k why) (c.Submit task timing delay) = k ≡ task
IsAnswerTo (a.Refuse k why) (c.Illegal task) = k ≡ task
IsAnswerTo (a.Cancel k effect) (c.Cancel task) = k ≡ task
IsAnswerTo (a.Policy w b) (c.SetPolicy which value) = (w ≡ which) × (b ≡ value)
IsAnswerTo a.Shutdown c.Shutdown = Unit {0}
IsAnswerTo a.ShutdownAgain c.Shutdown = Unit {0}
IsAnswerTo a.ShutdownNow c.ShutdownNow = Unit {0}
IsAnswerTo (a.Ask queue running shut terminated) c.Ask = Unit {0}
IsAnswerTo _ _ = ⊥

-- each call has an answer that it may have
pub answers_call : (calls : List Planned) (v : View) (call : CodeCall) → IsAnswerTo (called calls v call).answer call
answers_call calls v (c.Submit task timing delay) = by v.shut
  where
    by : (b : Bool) → IsAnswerTo (cond b (a.Refuse task refusal.Rejected) (a.Submit task (kind_of timing) (due_at (terms_of calls task) 0 None))) (c.Submit task timing delay)
    by true = refl
    by false = refl
answers_call calls v (c.Illegal task) = refl
answers_call calls v (c.Cancel task) = refl
answers_call calls v (c.SetPolicy which value) = (refl, refl)
answers_call calls v c.Shutdown = by v.shut
  where
    by : (b : Bool) → IsAnswerTo (called calls (record v { shut = b }) c.Shutdown).answer c.Shutdown
    by true = tt
    by false = tt
answers_call calls v c.ShutdownNow = tt
answers_call calls v c.Ask = tt

-- what holds of each answer that a call may have, holds of that which it has
pub by_answer : (P : Answer → Type 0) (calls : List Planned) (v : View) (call : CodeCall) → ((x : Answer) → IsAnswerTo x call → P x) → P (called calls v call).answer
by_answer P calls v call each = each (called calls v call).answer (answers_call calls v call)

-- a call that submits no task accepts none
pub accepts_by : (call : CodeCall) (k due : ℕ) (kind : Kind) → IsAnswerTo (a.Submit k kind due) call → submits_task call ≡ true
accepts_by (c.Submit task timing delay) k due kind is = refl
accepts_by call k due kind is = absurd is

-- ---- the tasks that calls end

-- tasks that are ended: those of the plan that pass a test, and each of them waits
pub record EndsWaiting (calls : List Planned) (v : View) (ends : List ℕ) : Type 0 where
  pub test : ℕ → Bool
  pub are : ends ≡ filter test (numbers calls)
  pub wait : (k : ℕ) → test k ≡ true → is_waiting (v.fate k) ≡ true

filter-none : (ks : List ℕ) → filter (λ k. false) ks ≡ []
filter-none [] = refl
filter-none (k ∷ ks) = filter-none ks

ends_none : (calls : List Planned) (v : View) → EndsWaiting calls v []
ends_none calls v = record { test = λ k. false; are = sym (filter-none (numbers calls)); wait = λ k q. absurd (false≢true q) }

ends_swept : (calls : List Planned) (v : View) (policies : Policies) → EndsWaiting calls v (swept calls v policies)
ends_swept calls v policies = record {
  test = is_swept calls v policies;
  are = refl;
  wait = λ k q. (and_parts (is_waiting (v.fate k)) (is_ended_by v.stopped policies v.moment (terms_of calls k).timing (v.fate k).due) q).0;
}

-- the tasks that a call to shut down at once ends
ends_stopped : (calls : List Planned) (v : View) → EndsWaiting calls v (swept calls (record v { stopped = true }) v.policies)
ends_stopped calls v = record {
  test = is_swept calls (record v { stopped = true }) v.policies;
  are = refl;
  wait = λ k q. (and_parts (is_waiting (v.fate k)) true q).0;
}

-- the tasks that a call ends
pub call_ends_waiting : (calls : List Planned) (v : View) (call : CodeCall) → EndsWaiting calls v (called calls v call).ends
call_ends_waiting calls v (c.SetPolicy which value) = by (setting_sweeps v.shut which value)
  where
    by : (b : Bool) → EndsWaiting calls v (cond b (swept calls v (set_policy which value v.policies)) [])
    by true = ends_swept calls v (set_policy which value v.policies)
    by false = ends_none calls v
call_ends_waiting calls v c.Shutdown = by v.shut
  where
    by : (b : Bool) → EndsWaiting calls v (cond b (bare a.ShutdownAgain) (record { answer = a.Shutdown; ends = swept calls v v.policies })).ends
    by true = ends_none calls v
    by false = ends_swept calls v v.policies
call_ends_waiting calls v c.ShutdownNow = ends_stopped calls v
call_ends_waiting calls v call = ends_none calls v
