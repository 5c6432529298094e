-- The state after a cancel from outside that has an effect: each other task stays, that one no longer waits, and a sweep ends the same ones but that one.
use Rattle.std.proofs.Common.{[], ◌≡◌, ℕ, ◌==◌, ◌&&◌, ◌||◌, nat_lt, nat_le, Bool, true, false, cond, List, Option, Some, None, refl, sym, ap, ◌∙◌, arith}
use Rattle.std.specs.Prelude.{slice_get, max, not}
use Rattle.std.specs.Option.{option_map_or}
use Rattle.std.proofs.lemmas.Bool.Decides.{nat_tests}
use Rattle.queue_code.specs.declared.call.CodeCall.{CodeCall}
use Rattle.queue_code.specs.declared.call.CodeCall.TheVariants as c
use Rattle.queue_code.specs.Calls.{Planned, Terms, task_count, terms_of}
use Rattle.sched_time.specs.declared.policies.Policies.{Policies}
use Rattle.executor_model.specs.declared.task.Task.{Task}
use Rattle.executor_model.specs.declared.types.CancelEffect.TheVariants as f
use Rattle.executor_model.specs.declared.types.Happening.{Happening}
use Rattle.executor_model.specs.declared.types.Happening.TheVariants as h
use Rattle.executor_model.specs.declared.types.Answer.TheVariants as a
use Rattle.executor_model.specs.View.{View, is_running, is_waiting, is_enabled}
use Rattle.executor_model.specs.Answers.{Reply, bare, called, swept, is_swept, is_ended_by, setting_sweeps}
use Rattle.sched_time.specs.Policies.{set_policy}
use Rattle.executor_model.specs.Histories.{is_end}
use Rattle.executor_model.specs.State.{State, view_of_state, seen_task, was_submitted, reply_of, state_after}
use Rattle.executor_laws.proofs.Policies.{ends_within}

-- ---- the state after a cancel with an effect

and_none : (b : Bool) → (b && false) ≡ false
and_none true = refl
and_none false = refl

-- true behind an `and` changes nothing
pub and_true : (b : Bool) → (b && true) ≡ b
and_true true = refl
and_true false = refl

-- nor false behind an `or`
pub or_none : (b : Bool) → (b || false) ≡ b
or_none true = refl
or_none false = refl

and_swaps : (p q r : Bool) → ((p && q) && r) ≡ ((p && r) && q)
and_swaps true true r = sym (and_true r)
and_swaps true false r = sym (and_none r)
and_swaps false q r = refl

and_groups : (p q r : Bool) → (p && (q && r)) ≡ ((p && q) && r)
and_groups true q r = refl
and_groups false q r = refl

-- two numbers are the same either way round
pub eqb_turns : (j k : ℕ) → (j == k) ≡ (k == j)
eqb_turns j k = grind (arith, nat_tests)

-- the state after task j was cancelled from outside
abbrev pub cancelled_at : List Planned → State → ℕ → State
cancelled_at calls s j = state_after calls s (h.Cancel j) (bare (a.Outside j f.Yes))

-- what a cancel of task j does to task k: it is marked where the two are one
mark : (j k : ℕ) → (((j == k) && true) || false) ≡ (j == k)
mark j k = or_none ((j == k) && true) ∙ and_true (j == k)

-- the bit of task k after it, where the two are one or not
pub marks : (j k : ℕ) (bit b : Bool) → (j == k) ≡ b → ((((j == k) && true) || false) || bit) ≡ (b || bit)
marks j k bit b is = ap (λ b. b || bit) (mark j k ∙ is)

kept_so : (b : Bool) → ((b && true) || false) ≡ b
kept_so b = or_none (b && true) ∙ and_true b

-- another task stays
pub others_stay : (calls : List Planned) (s : State) (j k : ℕ) → (j == k) ≡ false → (cancelled_at calls s j).tasks k ≡ s.tasks k
others_stay calls s j k apart =
    let t = s.tasks k in
    let lost = is_waiting ((view_of_state calls s).fate k) && not s.policies.removes in
    (λ i. record t { cancelled = ((apart i && true) || (false || false)) || t.cancelled; kept = (t.kept && true) || ((apart i && true) && lost) }) ∙ (λ i. record t { kept = kept_so t.kept i })

-- a task waits as before, unless it is cancelled
waits_unless : (terms : Terms) (t : Task) (b kept : Bool) → is_waiting (seen_task terms (record t { cancelled = b || t.cancelled; kept = kept })) ≡ (is_waiting (seen_task terms t) && not b)
waits_unless terms t true kept =
    let fate = seen_task terms t in
    ap (λ b. was_submitted t.phase && b) (and_none (not (is_running fate))) ∙ (and_none (was_submitted t.phase) ∙ sym (and_none (is_waiting fate)))
waits_unless terms t false kept = sym (and_true (is_waiting (seen_task terms t)))

-- the same of a test of the tasks that wait
waits_and : (calls : List Planned) (s : State) (j k : ℕ) (test : Bool) →
    (is_waiting ((view_of_state calls (cancelled_at calls s j)).fate k) && test) ≡ ((is_waiting ((view_of_state calls s).fate k) && test) && not (j == k))
waits_and calls s j k test =
    let t = s.tasks k in
    let terms = terms_of calls k in
    let kept = ((cancelled_at calls s j).tasks k).kept in
    ap (λ b. is_waiting (seen_task terms (record t { cancelled = b || t.cancelled; kept = kept })) && test) (mark j k)
    ∙ (ap (λ b. b && test) (waits_unless terms t (j == k) kept) ∙ and_swaps (is_waiting (seen_task terms t)) (not (j == k)) test)

-- the same tasks are enabled but that one
pub enabled_but : (calls : List Planned) (s : State) (j k : ℕ) → is_enabled (view_of_state calls (cancelled_at calls s j)) k ≡ (is_enabled (view_of_state calls s) k && not (j == k))
enabled_but calls s j k = waits_and calls s j k (nat_le ((view_of_state calls s).fate k).due s.moment)

-- ---- what is ended

-- a view at another moment
abbrev pub at : View → ℕ → View
at v moment = record v { moment = moment }

-- a view at another moment, where the executor is stopped or not
abbrev pub stopped_at : View → ℕ → Bool → View
stopped_at v moment stopped = record v { moment = moment; stopped = stopped }

-- a sweep ends the same tasks but that one
swept_but : (calls : List Planned) (s : State) (j k moment : ℕ) (stopped : Bool) (policies : Policies) →
    is_end k (swept calls (stopped_at (view_of_state calls (cancelled_at calls s j)) moment stopped) policies) ≡ (is_end k (swept calls (stopped_at (view_of_state calls s) moment stopped) policies) && not (j == k))
swept_but calls s j k moment stopped policies =
    let v = stopped_at (view_of_state calls s) moment stopped in
    let u = stopped_at (view_of_state calls (cancelled_at calls s j)) moment stopped in
    let count = task_count calls in
    let test = waits_and calls s j k (is_ended_by stopped policies moment (terms_of calls k).timing (v.fate k).due) in
    ends_within (is_swept calls u policies) count k
    ∙ (ap (λ b. nat_lt k count && b) test ∙ (and_groups (nat_lt k count) (is_swept calls v policies k) (not (j == k)) ∙ ap (λ b. b && not (j == k)) (sym (ends_within (is_swept calls v policies) count k))))

-- the reply to a call at a moment, where the executor was shut before it or not
abbrev pub reply_where : List Planned → State → ℕ → Bool → CodeCall → Reply
reply_where calls s moment shut call = called calls (record (view_of_state calls s) { moment = moment; shut = shut }) call

call_ends_but : (calls : List Planned) (s : State) (j k moment : ℕ) (call : CodeCall) →
    is_end k (called calls (at (view_of_state calls (cancelled_at calls s j)) moment) call).ends ≡ (is_end k (called calls (at (view_of_state calls s) moment) call).ends && not (j == k))
call_ends_but calls s j k moment call = by s.shut call
  where
    set : (b : Bool) (policies : Policies) → is_end k (cond b (swept calls (at (view_of_state calls (cancelled_at calls s j)) moment) policies) [])
        ≡ (is_end k (cond b (swept calls (at (view_of_state calls s) moment) policies) []) && not (j == k))
    set true policies = swept_but calls s j k moment s.stopped policies
    set false policies = refl

    by : (shut : Bool) (call : CodeCall) → is_end k (reply_where calls (cancelled_at calls s j) moment shut call).ends ≡ (is_end k (reply_where calls s moment shut call).ends && not (j == k))
    by shut (c.SetPolicy which value) = set (setting_sweeps shut which value) (set_policy which value s.policies)
    by true c.ShutdownNow = swept_but calls s j k moment true s.policies
    by false c.ShutdownNow = swept_but calls s j k moment true s.policies
    by true call = refl
    by false call = assumption (swept_but calls s j k moment s.stopped s.policies)

-- the reply to the next call in a state, where this is the call
abbrev pub call_reply : List Planned → State → Option Planned → Reply
call_reply calls s call = option_map_or (λ p. called calls (at (view_of_state calls s) (max s.moment p.0)) p.1) call (bare a.Clock)

-- each happening ends the same tasks but that one
pub ends_but : (calls : List Planned) (workers : ℕ) (s : State) (j : ℕ) (happening : Happening) (k : ℕ) →
    is_end k (reply_of calls workers (cancelled_at calls s j) happening).ends ≡ (is_end k (reply_of calls workers s happening).ends && not (j == k))
ends_but calls workers s j h.Call k = by (slice_get calls s.made)
  where
    by : (call : Option Planned) → is_end k (call_reply calls (cancelled_at calls s j) call).ends ≡ (is_end k (call_reply calls s call).ends && not (j == k))
    by None = refl
    by (Some p) = call_ends_but calls s j k (max s.moment p.0) p.1
ends_but calls workers s j (h.Clock moment) k = refl
ends_but calls workers s j (h.Start v) k = refl
ends_but calls workers s j (h.Finish v ending) k = refl
ends_but calls workers s j (h.Cancel i) k = refl
ends_but calls workers s j h.Purge k = refl
