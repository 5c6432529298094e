-- Calls that lead from a number of submissions and a moment to others.
use Rattle.std.proofs.Common.{◌≡◌, ℕ, ◌^◌, ◌≤◌, List, [], ◌∷◌, ◌++◌, subst, sym, arith}
use Rattle.queue_code.specs.declared.call.CodeCall.{CodeCall}
use Rattle.queue_code.specs.Calls.{count_after, IsOrderlyCall, IsOrderlyFrom}

-- the calls are in order from some submissions and a moment on, and lead to `after` submissions and at most to the moment `end`
abbrev pub Runs : ℕ → ℕ → List (ℕ × CodeCall) → ℕ → ℕ → Type 0
Runs count moment [] after end = (count ≡ after) × (moment ≤ end)
Runs count moment (p ∷ calls) after end =
    (moment ≤ p.0) × (p.0 ≤ 2 ^ 62) × IsOrderlyCall count p.1 × Runs (count_after count p.1) p.0 calls after end

-- they are in order
pub runs_orderly : (count moment : ℕ) (xs : List (ℕ × CodeCall)) (after end : ℕ) → Runs count moment xs after end → IsOrderlyFrom count moment xs
runs_orderly count moment [] after end h = tt
runs_orderly count moment (p ∷ xs) after end h = (h.0, h.1, h.2, runs_orderly (count_after count p.1) p.0 xs after end h.3)

-- they may begin earlier
pub runs_earlier : (count early moment : ℕ) (xs : List (ℕ × CodeCall)) (after end : ℕ) → early ≤ moment → Runs count moment xs after end → Runs count early xs after end
runs_earlier count early moment [] after end le h = (h.0, omega (arith, le, h.1))
runs_earlier count early moment (p ∷ xs) after end le h = (omega (arith, le, h.0), h.1, h.2, h.3)

-- they may end later
pub runs_later : (count moment : ℕ) (xs : List (ℕ × CodeCall)) (after end late : ℕ) → end ≤ late → Runs count moment xs after end → Runs count moment xs after late
runs_later count moment [] after end late le h = (h.0, omega (arith, le, h.1))
runs_later count moment (p ∷ xs) after end late le h = (h.0, h.1, h.2, runs_later (count_after count p.1) p.0 xs after end late le h.3)

-- some calls and then others
pub runs_append : (count moment : ℕ) (xs ys : List (ℕ × CodeCall)) (mid middle after end : ℕ) → Runs count moment xs mid middle → Runs mid middle ys after end → Runs count moment (xs ++ ys) after end
runs_append count moment [] ys mid middle after end h k =
    subst (λ (n : ℕ). Runs n moment ys after end) (sym h.0) (runs_earlier mid moment middle ys after end h.1 k)
runs_append count moment (p ∷ xs) ys mid middle after end h k = (h.0, h.1, h.2, runs_append (count_after count p.1) p.0 xs ys mid middle after end h.3 k)
