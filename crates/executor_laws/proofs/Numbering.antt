-- The numbers of submissions among calls that are in order.
use Rattle.std.proofs.Common.{◌≡◌, ℕ, ◌+◌, ◌<◌, zero, suc, List, [], ◌∷◌, Some, refl, sym, arith, subst}
use Rattle.std.specs.Prelude.{slice_get}
use Rattle.std.proofs.lemmas.Option.{none-some, same_Some}
use Rattle.queue_code.specs.declared.call.CodeCall.{CodeCall}
use Rattle.queue_code.specs.declared.call.CodeCall.TheVariants as c
use Rattle.queue_code.specs.Calls.{Planned, IsOrderlyFrom, IsOrderlyCall, count_after, task_count}
use Rattle.executor_laws.specs.Positions.{IsSubmissionOf}

counted : (count moment : ℕ) (call : CodeCall) (calls : List Planned) → count_after count call + task_count calls ≡ count + task_count ((moment, call) ∷ calls)
counted count moment (c.Submit task timing delay) calls = omega arith
counted count moment (c.Illegal task) calls = omega arith
counted count moment (c.Cancel task) calls = refl
counted count moment (c.SetPolicy which value) calls = refl
counted count moment c.Shutdown calls = refl
counted count moment c.ShutdownNow calls = refl
counted count moment c.Ask calls = refl

first_below : (count moment k : ℕ) (call : CodeCall) (calls : List Planned) → IsOrderlyCall count call → IsSubmissionOf k call → k < count + task_count ((moment, call) ∷ calls)
first_below count moment k (c.Submit task timing delay) calls o s = omega (arith, o.0, s)
first_below count moment k (c.Illegal task) calls o s = omega (arith, o, s)
first_below count moment k call calls o s = absurd s

-- a submission has a number below the count of what the calls submit
pub submits_below : (count moment n k : ℕ) (calls : List Planned) (p : Planned) → IsOrderlyFrom count moment calls → slice_get calls n ≡ Some p → IsSubmissionOf k p.1 → k < count + task_count calls
submits_below count moment n k [] p o q s = absurd (none-some p q)
submits_below count moment zero k (x ∷ calls) p o q s = first_below count x.0 k x.1 calls o.2 (subst (λ (y : Planned). IsSubmissionOf k y.1) (sym (same_Some x p q)) s)
submits_below count moment (suc n) k (x ∷ calls) p o q s =
    let rest = submits_below (count_after count x.1) x.0 n k calls p o.3 q s in
    subst (λ m. k < m) (counted count x.0 x.1 calls) rest
