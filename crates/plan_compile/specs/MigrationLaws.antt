-- MigrationLaws: what holds of a text and the text to which it is migrated.
-- All of it is this project's rule.
use Rattle.std.specs.Prelude.{◌≡◌, ℕ, List}
use Rattle.plan_read.specs.Migrating.{Migrates}
use Rattle.plan_read.specs.Plans.{PlanTree}
use Rattle.plan_read.specs.Texts.{TextWrites}
use Rattle.plan_compile.specs.PlanCalls.{calls_of_plan}

-- both texts write plans, and these make the same calls
pub record CallTheSame (text printed : List ℕ) : Type 0 where
  pub plan : PlanTree
  pub other : PlanTree
  pub writes : TextWrites text plan
  pub writes_other : TextWrites printed other
  pub same : calls_of_plan other ≡ calls_of_plan plan

-- a text and the text to which it is migrated make the same calls
abbrev pub MigratedTextsCallTheSame : Type 0
MigratedTextsCallTheSame = (text printed : List ℕ) → Migrates text printed → CallTheSame text printed
