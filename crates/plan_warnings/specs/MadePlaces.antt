-- At which positions among the calls of a plan the call of a place is made, and what the executor answers to it there.
-- All of it is this project's rule; `Refusals` has where the answers come from.
use Rattle.std.specs.Prelude.{◌≡◌, ℕ, ◌+◌, ◌*◌, ◌<◌, ◌≤◌, true, List, ◌∷◌, ◌++◌, length}
use Rattle.executor_model.specs.declared.types.Answer.TheVariants as a
use Rattle.executor_model.specs.declared.types.CancelEffect.TheVariants as f
use Rattle.executor_model.specs.declared.types.Refusal.TheVariants as refusal
use Rattle.executor_model.specs.Histories.{HistoryEntry}
use Rattle.plan_read.specs.declared.plans.Call.{Call}
use Rattle.plan_read.specs.Plans.{BlockTree, PlanTree, made_by}
use Rattle.plan_read.specs.Writes.{IsPlan}
use Rattle.plan_compile.specs.PlanCalls.{calls_of_plan}
use Rattle.plan_warnings.specs.declared.kinds.WarningKind.TheVariants as kinds
use Rattle.plan_warnings.specs.Places.{PlaceTree, place_of, places_of, some_block_shuts_down}
use Rattle.plan_warnings.specs.Refusals.{AnswersCall}
use Rattle.plan_warnings.specs.Warnings.{is_told}

-- the call of a place of a plan is made at this position among the plan's calls, in this iteration of its block, counted from 0
pub record IsMadeAt (plan : PlanTree) (p : PlaceTree) (iteration position : ℕ) : Type 0 where
  pub earlier : PlanTree
  pub block : BlockTree
  pub later : PlanTree
  pub before : List Call
  pub call : Call
  pub behind : List Call
  pub in_plan : plan ≡ earlier ++ block ∷ later
  pub in_block : block.calls ≡ before ++ call ∷ behind
  pub is : p ≡ place_of (length earlier) (some_block_shuts_down earlier) block before call
  pub within : iteration < block.header.times
  pub here : position ≡ made_by earlier + iteration * length block.calls + length before

-- each call of which `Illegal` is told is refused as illegal, in each history of the plan's calls
abbrev pub IllegalPlacesAreRefused : Type 0
IllegalPlacesAreRefused = (plan : PlanTree) (p : PlaceTree) (iteration position workers : ℕ) (past : List HistoryEntry) (e : HistoryEntry) → IsMadeAt plan p iteration position
    → is_told (places_of plan) p kinds.Illegal ≡ true → AnswersCall (calls_of_plan plan) workers position past e → (k : ℕ) × (e.answer ≡ a.Refuse k refusal.Illegal)

-- each call of which `Rejected` is told is refused as rejected
abbrev pub RejectedPlacesAreRefused : Type 0
RejectedPlacesAreRefused = (plan : PlanTree) (p : PlaceTree) (iteration position workers : ℕ) (past : List HistoryEntry) (e : HistoryEntry) → IsPlan plan → IsMadeAt plan p iteration position
    → is_told (places_of plan) p kinds.Rejected ≡ true → AnswersCall (calls_of_plan plan) workers position past e → (k : ℕ) × (e.answer ≡ a.Refuse k refusal.Rejected)

-- each call of which `RejectedAgain` is told is refused as rejected from the second iteration of its block on
abbrev pub PlacesRejectedAgainAreRefused : Type 0
PlacesRejectedAgainAreRefused = (plan : PlanTree) (p : PlaceTree) (iteration position workers : ℕ) (past : List HistoryEntry) (e : HistoryEntry) → IsMadeAt plan p iteration position → 1 ≤ iteration
    → is_told (places_of plan) p kinds.RejectedAgain ≡ true → AnswersCall (calls_of_plan plan) workers position past e → (k : ℕ) × (e.answer ≡ a.Refuse k refusal.Rejected)

-- each cancel of which `NothingToCancel` is told has no effect
abbrev pub PlacesWithNothingToCancelHaveNoEffect : Type 0
PlacesWithNothingToCancelHaveNoEffect = (plan : PlanTree) (p : PlaceTree) (iteration position workers : ℕ) (past : List HistoryEntry) (e : HistoryEntry) → IsPlan plan → IsMadeAt plan p iteration position
    → is_told (places_of plan) p kinds.NothingToCancel ≡ true → AnswersCall (calls_of_plan plan) workers position past e → (k : ℕ) × (e.answer ≡ a.Cancel k f.Absent)
