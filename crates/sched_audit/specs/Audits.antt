-- What a run and the check of its trace come to. All of it is this project's rule.
use Rattle.std.specs.Prelude.{ℕ, ◌<◌, List, length, Result, Ok, Err}
use Rattle.plan_read.specs.Plans.{PlanTree}
use Rattle.plan_read.specs.Texts.{TextWrites}
use Rattle.plan_compile.specs.PlanCalls.{calls_of_plan}
use Rattle.trace_check.specs.declared.finding.Finding.{Finding}
use Rattle.trace_check.specs.Findings.{Finds}
use Rattle.trace_check.specs.Standing.{most_bytes}
use Rattle.sched_engine.specs.declared.report.Report.{Report}
use Rattle.sched_engine.specs.declared.report.RunError.{RunError}
use Rattle.sched_engine.specs.declared.report.RunError.TheVariants as x
use Rattle.sched_engine.specs.Running.{RanInMemory}
use Rattle.sched_audit.specs.declared.error.AuditError.{AuditError}
use Rattle.sched_audit.specs.declared.error.AuditError.TheVariants as f

-- a run that answers so took all of its input, or ended at a line that is no event's or at its limit: it wrote the whole
-- trace of the events that it took
abbrev pub IsWhole : Result Report RunError → Type 0
IsWhole (Ok report) = Unit {0}
IsWhole (Err (x.EventLine n)) = Unit {0}
IsWhole (Err x.Full) = Unit {0}
IsWhole (Err _) = ⊥

-- what is found of a text, by the plan that a plan text writes
abbrev pub FindsByText : List ℕ → ℕ → List ℕ → Finding → Type 0
FindsByText plan_text workers text finding = (plan : PlanTree) → TextWrites plan_text plan → Finds (calls_of_plan plan) workers text finding

-- why there is no audit of a run: it wrote no whole trace, or one that is longer than a check takes, or memory ran out, which
-- says nothing of the run
abbrev pub HasNoAudit : AuditError → List ℕ → ℕ → ℕ → List ℕ → Type 0
HasNoAudit (f.Run e) plan_text workers limit input = (¬ IsWhole (Err e)) × (output : List ℕ) × RanInMemory (Err e) plan_text workers limit input output
HasNoAudit f.TooLong plan_text workers limit input =
    (answer : Result Report RunError) × (output : List ℕ) × RanInMemory answer plan_text workers limit input output × IsWhole answer × (most_bytes < length output)
HasNoAudit f.Memory plan_text workers limit input = Unit {0}
