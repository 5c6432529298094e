-- The lines that single happenings may still add.
use Rattle.std.proofs.Common.{suc, ◌≡◌, ℕ, ◌+◌, ◌≤◌, ◌||◌, Bool, true, false, cond, List, [], ◌∷◌, length, refl, ap, ◌∙◌, arith}
use Rattle.std.specs.Prelude.{slice_index_or, not}
use Rattle.executor_model.specs.declared.types.Happening.{Happening}
use Rattle.executor_model.specs.declared.types.Line.{Line}
use Rattle.executor_model.specs.declared.task.Task.{Task}
use Rattle.executor_model.specs.Histories.{cancels, is_call}
use Rattle.executor_model.specs.State.{State, vacant, reply_of}
use Rattle.executor_model.specs.Tasks.{uncancelled_in}
use Rattle.executor_core.specs.CoreView.{CoreView, workers_of, state_of, room_of, Steps}

or_true : (a b : Bool) → b ≡ true → (a || b) ≡ true
or_true true b q = refl
or_true false b q = q

-- where each cancelled task stays so, no more tasks are not cancelled
fewer : (old new : List Task) → length new ≡ length old → ((k : ℕ) → (slice_index_or old k vacant).cancelled ≡ true → (slice_index_or new k vacant).cancelled ≡ true) → uncancelled_in new ≤ uncancelled_in old
fewer [] [] e stay = omega arith
fewer [] (y ∷ ys) e stay = absurd (omega (arith, e))
fewer (x ∷ xs) [] e stay = absurd (omega (arith, e))
fewer (x ∷ xs) (y ∷ ys) e stay =
    let rest = fewer xs ys (omega (arith, e)) (λ k. stay (suc k)) in
    by x.cancelled y.cancelled (stay 0) rest
  where
    by : (a b : Bool) → (a ≡ true → b ≡ true) → uncancelled_in ys ≤ uncancelled_in xs → cond (not b) (1 + uncancelled_in ys) (uncancelled_in ys) ≤ cond (not a) (1 + uncancelled_in xs) (uncancelled_in xs)
    by true true stays l = l
    by true false stays l = let clash : false ≡ true = stays refl in absurd cc
    by false true stays l = omega (arith, l)
    by false false stays l = omega (arith, l)

made_more : (b : Bool) (n : ℕ) → n ≤ cond b (1 + n) n
made_more true n = omega arith
made_more false n = omega arith

-- a step makes no room needed that was not before
pub room_stays : (old new : CoreView) (before lines : List Line) (happening : Happening) → Steps old new before lines (happening ∷ []) → length new.tasks ≡ length old.tasks → room_of new ≤ room_of old
room_stays old new before lines happening steps size =
    let said = reply_of old.calls (workers_of old) (state_of old) happening in
    let still : (k : ℕ) → (slice_index_or old.tasks k vacant).cancelled ≡ true → (slice_index_or new.tasks k vacant).cancelled ≡ true =
    λ k q. ap (λ (s : State). (s.tasks k).cancelled) steps.state ∙ or_true (cancels k said.answer said.ends) (slice_index_or old.tasks k vacant).cancelled q
    in
    let more : old.made ≤ new.made = omega (arith, made_more (is_call happening) old.made, ap (λ (s : State). s.made) steps.state) in
    omega (arith, fewer old.tasks new.tasks size still, more, ap length steps.calls)
