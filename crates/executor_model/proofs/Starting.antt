-- What an answer that starts a task says.
use Rattle.std.proofs.Common.{◌≡◌, ℕ, Bool, true, false, cond, List, Option, Some, None, refl, sym, ap, ◌∙◌}
use Rattle.std.specs.Prelude.{slice_get, max}
use Rattle.std.specs.Option.{option_map_or}
use Rattle.queue_code.specs.declared.call.CodeCall.{CodeCall}
use Rattle.executor_model.specs.declared.types.EventError.TheVariants as x
use Rattle.executor_model.specs.declared.types.Happening.{Happening}
use Rattle.executor_model.specs.declared.types.Happening.TheVariants as h
use Rattle.executor_model.specs.declared.types.Answer.{Answer}
use Rattle.executor_model.specs.declared.types.Answer.TheVariants as a
use Rattle.queue_code.specs.Calls.{Planned, numbers}
use Rattle.executor_model.specs.View.{View, first_enabled}
use Rattle.executor_model.specs.Answers.{bare, reply, called, start_answer, finish_answer, moment_after, effect_on}
use Rattle.executor_model.proofs.Replies.{IsAnswerTo, by_answer}

-- what an answer that starts a task says of the view that it was given on, and of what happened
pub record StartsFirst (calls : List Planned) (v : View) (happening : Happening) (k n d : ℕ) : Type 0 where
  pub first : first_enabled v (numbers calls) ≡ Some k
  pub run : n ≡ (v.fate k).starts
  pub due : d ≡ (v.fate k).due
  pub still : (now : ℕ) (next : Option Planned) → moment_after now next happening ≡ now

no_call_starts : (calls : List Planned) (v : View) (call : CodeCall) (w k n d : ℕ) → (called calls v call).answer ≡ a.Start w k n d → ⊥
no_call_starts calls v call w k n d = by_answer (λ x. x ≡ a.Start w k n d → ⊥) calls v call (starts call)
  where
    starts : (call : CodeCall) (x : Answer) → IsAnswerTo x call → x ≡ a.Start w k n d → ⊥
    starts call (a.Start u j run due) is q = is
    starts call x is q = cc

-- what the answer to a start says of the view it was given in
pub start_says : (calls : List Planned) (workers : ℕ) (v : View) (y : Happening) (w k n d : ℕ) → (reply calls workers v y).answer ≡ a.Start w k n d → StartsFirst calls v y k n d
start_says calls workers v h.Call w k n d q =
    let pick : (o : Option Planned) → (option_map_or (λ p. called calls (record v { moment = max v.moment p.0 }) p.1) o (bare a.Clock)).answer ≡ a.Start w k n d → ⊥ =
    elim [ None ↦ λ q. cc | Some p ↦ λ q. no_call_starts calls (record v { moment = max v.moment p.0 }) p.1 w k n d q ]
    in
    absurd (pick (slice_get calls v.made) q)
start_says calls workers v (h.Clock t) w k n d q =
    let other : (b c : Bool) → cond b (a.Error x.Backward) (cond c (a.Error x.TooFar) a.Clock) ≡ a.Start w k n d → ⊥ = elim [ true ↦ λ c q. cc | false ↦ elim [ true ↦ λ q. cc | false ↦ λ q. cc ] ] in
    absurd (other _ _ q)
start_says calls workers v (h.Start u) w k n d q =
    let from : (o : Option ℕ) → first_enabled v (numbers calls) ≡ o → start_answer v u o ≡ a.Start w k n d → StartsFirst calls v (h.Start u) k n d =
    elim [
      | None ↦ λ is q. absurd cc
      | Some j ↦ λ is q.
          let same : j ≡ k = cc in
          let run : (v.fate j).starts ≡ n = cc in
          let due : (v.fate j).due ≡ d = cc in
          record { first = is ∙ ap Some same; run = sym run ∙ ap (λ i. (v.fate i).starts) same; due = sym due ∙ ap (λ i. (v.fate i).due) same; still = λ now next. refl }
    ]
    in
    let pick : (b : Bool) (o : Option ℕ) → cond b (option_map_or (λ _. a.Error x.Busy) o (start_answer v u (first_enabled v (numbers calls)))) (a.Error x.NoWorker) ≡ a.Start w k n d → StartsFirst calls v (h.Start u) k n d =
    elim [ true ↦ elim [ None ↦ λ q. from (first_enabled v (numbers calls)) refl q | Some j ↦ λ q. absurd cc ] | false ↦ λ o q. absurd cc ]
    in
    pick _ _ q
start_says calls workers v (h.Finish u ending) w k n d q =
    let other : (b : Bool) (o : Option ℕ) → cond b (finish_answer calls v u ending o) (a.Error x.NoWorker) ≡ a.Start w k n d → ⊥ = elim [ true ↦ elim [ None ↦ λ q. cc | Some j ↦ λ q. cc ] | false ↦ λ o q. cc ] in
    absurd (other _ _ q)
start_says calls workers v (h.Cancel j) w k n d q =
    let other : (b : Bool) → cond b (a.Outside j (effect_on (v.fate j))) (a.Error x.NoTask) ≡ a.Start w k n d → ⊥ = elim [ true ↦ λ q. cc | false ↦ λ q. cc ] in
    absurd (other _ q)
start_says calls workers v h.Purge w k n d q = absurd cc
