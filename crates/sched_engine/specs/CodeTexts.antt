-- The code of the plan that a text writes.
-- All of it is this project's rule.
use Rattle.std.specs.Prelude.{◌≡◌, ℕ, List, ◌⊎◌}
use Rattle.queue_code.specs.declared.instr.Instr.{Instr}
use Rattle.queue_code.specs.Codes.{calls_of as code_calls}
use Rattle.plan_read.specs.Plans.{PlanTree}
use Rattle.plan_read.specs.Reads.{out_of_memory}
use Rattle.plan_read.specs.Texts.{TextWrites, TextFails}
use Rattle.plan_compile.specs.PlanCalls.{calls_of_plan}
use Rattle.plan_compile.specs.PlanCode.{instrs_of}
use Rattle.sched_engine.specs.declared.report.CodeError.{CodeError}
use Rattle.sched_engine.specs.declared.report.CodeError.TheVariants as c

-- the text writes a plan, whose code this is, and which makes the plan's calls
pub record IsCodeOfText (text : List ℕ) (code : List Instr) : Type 0 where
  pub plan : PlanTree
  pub reads : TextWrites text plan
  pub instrs : code ≡ instrs_of plan
  pub calls : code_calls code ≡ calls_of_plan plan

-- why there is no code for a text
abbrev pub RefusesText : List ℕ → CodeError → Type 0
RefusesText text (c.Plan fault) = TextFails text fault ⊎ (fault ≡ out_of_memory)
RefusesText text c.Memory = (plan : PlanTree) × TextWrites text plan
