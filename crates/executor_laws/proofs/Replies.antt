-- Which answers a call may have, and which tasks an answer ends.
use Rattle.std.proofs.Common.{◌≡◌, ℕ, ◌==◌, Bool, true, false, cond, inl, inr, List, [], ◌∷◌, Option, Some, None, refl, sym, ap, ◌∙◌}
use Rattle.std.specs.Prelude.{slice_get, max}
use Rattle.std.specs.Option.{option_map_or}
use Rattle.std.specs.List.{filter}
use Rattle.std.proofs.lemmas.Bool.{false≢true, eqb-true, or_cases, or_left, or_right}
use Rattle.queue_code.specs.declared.call.CodeCall.{CodeCall}
use Rattle.queue_code.specs.declared.call.CodeCall.TheVariants as c
use Rattle.executor_model.specs.declared.types.EventError.TheVariants as x
use Rattle.executor_model.specs.declared.types.Happening.{Happening}
use Rattle.executor_model.specs.declared.types.Happening.TheVariants as h
use Rattle.executor_model.specs.declared.types.Answer.{Answer}
use Rattle.executor_model.specs.declared.types.Answer.TheVariants as a
use Rattle.queue_code.specs.Calls.{Planned, numbers}
use Rattle.executor_model.specs.View.{Fate, View, is_waiting, first_enabled}
use Rattle.executor_model.specs.Answers.{Reply, bare, reply, called, setting_sweeps, swept, start_answer, finish_answer, queue_size, running_count, is_terminated, effect_on}
use Rattle.sched_time.specs.Policies.{set_policy}
use Rattle.executor_model.specs.Histories.{is_end, is_sweep}
use Rattle.executor_model.proofs.Replies.{IsAnswerTo, by_answer, call_ends_waiting}

-- ---- the answers to calls

-- an answer starts and finishes no run
abbrev pub IsOfCall : Answer → Type 0
IsOfCall (a.Start worker task run due) = ⊥
IsOfCall (a.Finish worker task run outcome) = ⊥
IsOfCall _ = Unit {0}

-- as none does that a call has
pub call_answer : (calls : List Planned) (v : View) (call : CodeCall) → IsOfCall (called calls v call).answer
call_answer calls v call = by_answer IsOfCall calls v call of_call
  where
    of_call : (x : Answer) → IsAnswerTo x call → IsOfCall x
    of_call (a.Start worker task run due) is = is
    of_call (a.Finish worker task run outcome) is = is
    of_call x is = tt

-- an answer says of a cancel of the plan what that does
abbrev pub SaysEffect : View → Answer → Type 0
SaysEffect v (a.Cancel task effect) = effect ≡ effect_on (v.fate task)
SaysEffect v _ = Unit {0}

-- as each does that a call has
pub call_effect : (calls : List Planned) (v : View) (call : CodeCall) → SaysEffect v (called calls v call).answer
call_effect calls v call = by_answer (λ x. (called calls v call).answer ≡ x → SaysEffect v x) calls v call (says call) refl
  where
    says : (call : CodeCall) (x : Answer) → IsAnswerTo x call → (called calls v call).answer ≡ x → SaysEffect v x
    says (c.Cancel task) (a.Cancel j effect) is q = cc
    says call (a.Cancel j effect) is q = absurd is
    says call x is q = tt

-- an answer tells what an `ask` does
abbrev pub IsAsk : Answer → Type 0
IsAsk (a.Ask queue running shut terminated) = Unit {0}
IsAsk _ = ⊥

-- what the answer to an `ask` tells of a view
abbrev pub told : List Planned → View → Answer
told calls v = a.Ask (queue_size calls v) (running_count calls v) v.shut (is_terminated v.shut (queue_size calls v) (running_count calls v))

-- one call alone has such an answer
pub asks : (calls : List Planned) (v : View) (call : CodeCall) → IsAsk (called calls v call).answer → call ≡ c.Ask
asks calls v call = by_answer (λ x. IsAsk x → call ≡ c.Ask) calls v call (by call)
  where
    by : (call : CodeCall) (x : Answer) → IsAnswerTo x call → IsAsk x → call ≡ c.Ask
    by c.Ask x is ask = refl
    by call (a.Ask queue running shut terminated) is ask = absurd is
    by call x is ask = absurd ask

call_asks : (calls : List Planned) (v : View) (call : CodeCall) → IsAsk (called calls v call).answer → (called calls v call).answer ≡ told calls v
call_asks calls v call q = ap (λ c. (called calls v c).answer) (asks calls v call q)

-- such an answer tells of the view
pub ask_says : (calls : List Planned) (workers : ℕ) (v : View) (y : Happening) → IsAsk (reply calls workers v y).answer → (reply calls workers v y).answer ≡ told calls v
ask_says calls workers v h.Call q =
    let answer : Option Planned → Answer = λ o. (option_map_or (λ p. called calls (record v { moment = max v.moment p.0 }) p.1) o (bare a.Clock)).answer in
    let pick : (o : Option Planned) → IsAsk (answer o) → answer o ≡ told calls v = elim [ None ↦ λ q. absurd q | Some p ↦ call_asks calls (record v { moment = max v.moment p.0 }) p.1 ] in
    pick (slice_get calls v.made) q
ask_says calls workers v (h.Clock t) q =
    let pick : (b d : Bool) → IsAsk (cond b (a.Error x.Backward) (cond d (a.Error x.TooFar) a.Clock)) → ⊥ = elim [ true ↦ λ d q. q | false ↦ elim [ true ↦ λ q. q | false ↦ λ q. q ] ] in
    absurd (pick _ _ q)
ask_says calls workers v (h.Start u) q =
    let start : (o : Option ℕ) → IsAsk (start_answer v u o) → ⊥ = elim [ None ↦ λ q. q | Some j ↦ λ q. q ] in
    let pick : (b : Bool) (o : Option ℕ) → IsAsk (cond b (option_map_or (λ _. a.Error x.Busy) o (start_answer v u (first_enabled v (numbers calls)))) (a.Error x.NoWorker)) → ⊥ =
    elim [ true ↦ elim [ None ↦ start (first_enabled v (numbers calls)) | Some j ↦ λ q. q ] | false ↦ λ o q. q ]
    in
    absurd (pick _ _ q)
ask_says calls workers v (h.Finish u ending) q =
    let pick : (b : Bool) (o : Option ℕ) → IsAsk (cond b (finish_answer calls v u ending o) (a.Error x.NoWorker)) → ⊥ =
    elim [ true ↦ elim [ None ↦ λ q. q | Some j ↦ λ q. q ] | false ↦ λ o q. q ]
    in
    absurd (pick _ _ q)
ask_says calls workers v (h.Cancel j) q =
    let pick : (b : Bool) → IsAsk (cond b (a.Outside j (effect_on (v.fate j))) (a.Error x.NoTask)) → ⊥ = elim [ true ↦ λ q. q | false ↦ λ q. q ] in
    absurd (pick _ q)
ask_says calls workers v h.Purge q = absurd q

-- ---- the tasks that an answer ends

-- what an answer that ends a task says of it, where the executor was shut before it or not
pub record EndsTask (fate : Fate) (shut : Bool) (answer : Answer) : Type 0 where
  pub waited : is_waiting fate ≡ true
  pub sweeps : is_sweep shut answer ≡ true

-- a number of a filtered list is one of the list, and passes the test
pub end_parts : (test : ℕ → Bool) (ks : List ℕ) (k : ℕ) → is_end k (filter test ks) ≡ true → (is_end k ks ≡ true) × (test k ≡ true)
end_parts test [] k q = absurd (false≢true q)
end_parts test (x ∷ ks) k q =
    let behind : is_end k (filter test ks) ≡ true → (is_end k (x ∷ ks) ≡ true) × (test k ≡ true) = λ q. let i = end_parts test ks k q in (or_right (x == k) (is_end k ks) i.0, i.1) in
    let pick : (b : Bool) → test x ≡ b → is_end k (cond b (x ∷ filter test ks) (filter test ks)) ≡ true → (is_end k (x ∷ ks) ≡ true) × (test k ≡ true) =
    elim [
      | true ↦ λ is q. elim (or_cases (x == k) (is_end k (filter test ks)) q) [ inl same ↦ (or_left (x == k) (is_end k ks) same, sym (ap test (eqb-true x k same)) ∙ is) | inr there ↦ behind there ]
      | false ↦ λ is q. behind q
    ]
    in
    pick (test x) refl q

-- a call that ends a task sweeps
call_sweeps : (calls : List Planned) (v : View) (call : CodeCall) (k : ℕ) → is_end k (called calls v call).ends ≡ true → is_sweep v.shut (called calls v call).answer ≡ true
call_sweeps calls v call k q = by v.shut call q
  where
    by : (shut : Bool) (call : CodeCall) → is_end k (called calls (record v { shut = shut }) call).ends ≡ true → is_sweep shut (called calls (record v { shut = shut }) call).answer ≡ true
    by shut (c.SetPolicy which value) q =
        let those = swept calls v (set_policy which value v.policies) in
        let pick : (b : Bool) → is_end k (cond b those []) ≡ true → b ≡ true = elim [ true ↦ λ q. refl | false ↦ λ q. q ] in
        pick (setting_sweeps shut which value) q
    by true call q = cc
    by false call q = cc

call_ends : (calls : List Planned) (v : View) (call : CodeCall) (k : ℕ) → is_end k (called calls v call).ends ≡ true → EndsTask (v.fate k) v.shut (called calls v call).answer
call_ends calls v call k q =
    let those = call_ends_waiting calls v call in
    record { waited = those.wait k (end_parts those.test (numbers calls) k (sym (ap (is_end k) those.are) ∙ q)).1; sweeps = call_sweeps calls v call k q }

-- a task that an answer ends waited, and the answer is a sweep's
pub ends_say : (calls : List Planned) (workers : ℕ) (v : View) (y : Happening) (k : ℕ) → is_end k (reply calls workers v y).ends ≡ true → EndsTask (v.fate k) v.shut (reply calls workers v y).answer
ends_say calls workers v h.Call k q =
    let made : Option Planned → Reply = λ o. option_map_or (λ p. called calls (record v { moment = max v.moment p.0 }) p.1) o (bare a.Clock) in
    let pick : (o : Option Planned) → is_end k (made o).ends ≡ true → EndsTask (v.fate k) v.shut (made o).answer =
    elim [ None ↦ λ q. absurd (false≢true q) | Some p ↦ call_ends calls (record v { moment = max v.moment p.0 }) p.1 k ]
    in
    pick (slice_get calls v.made) q
ends_say calls workers v (h.Clock t) k q = absurd (false≢true q)
ends_say calls workers v (h.Start w) k q = absurd (false≢true q)
ends_say calls workers v (h.Finish w ending) k q = absurd (false≢true q)
ends_say calls workers v (h.Cancel j) k q = absurd (false≢true q)
ends_say calls workers v h.Purge k q = absurd (false≢true q)
