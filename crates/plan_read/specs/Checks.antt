-- Checks: sentences on what a place of a plan writes, in the order in which they are made. A value that passes all of them is what the
-- place writes. Where none does, the fault is that of the first check that no value passes which passes those before it.
-- All of it is this project's rule.
use Rattle.std.specs.Prelude.{◌≡◌, ◌⊎◌, ℕ, List, [], ◌∷◌, ◌++◌}
use Rattle.plan_read.specs.declared.faults.PlanFault.{PlanFault}
use Rattle.plan_read.specs.declared.faults.PlanFaultKind.{PlanFaultKind}

-- a check on a value: what is wrong where it does not hold
pub record Check (X : Type 0) : Type 1 where
  pub kind : PlanFaultKind
  pub Holds : X → Type 0

infixr 8 ◌unless◌
-- this is wrong unless a sentence holds of the value
abbrev pub ◌unless◌ : {X : Type 0} → PlanFaultKind → (X → Type 0) → Check X
kind unless Holds = record { kind = kind; Holds = Holds }

-- a value passes each of these checks
abbrev pub Passes : {X : Type 0} → List (Check X) → X → Type 0
Passes [] x = Unit {0}
Passes (c ∷ cs) x = c.Holds x × Passes cs x

-- a check fails behind those before it: some value passes those, and no value that passes them passes this one too
pub record FailsAt {X : Type 0} (before : List (Check X)) (c : Check X) : Type 0 where
  pub passed : (x : X) × Passes before x
  pub stopped : (x : X) → Passes before x → c.Holds x → ⊥

-- one of these checks fails behind those before it, and this is what is wrong then
abbrev pub FailsBehind : {X : Type 0} → List (Check X) → List (Check X) → PlanFaultKind → Type 0
FailsBehind before [] kind = ⊥
FailsBehind before (c ∷ cs) kind = ((kind ≡ c.kind) × FailsAt before c) ⊎ FailsBehind (before ++ c ∷ []) cs kind

-- the fault of a place with these checks: blocks and calls are numbered from 1, and 0 stands for none
abbrev pub IsFaultOf : {X : Type 0} → List (Check X) → ℕ → ℕ → PlanFault → Type 0
IsFaultOf checks block call fault = FailsBehind [] checks fault.kind × (fault.block ≡ block) × (fault.call ≡ call)
