-- What the writing of the lines of a plan's submissions did.
-- All of it is this project's rule.
use Rattle.std.specs.Prelude.{◌≡◌, ℕ, List, Option, Result, Ok, Err, take}
use Rattle.std.specs.Io.KnownBytes.{Appends, Keeps}
use Rattle.plan_read.specs.Plans.{PlanTree}
use Rattle.plan_read.specs.Texts.{TextWrites}
use Rattle.plan_list.specs.declared.error.ListingError.{ListingError}
use Rattle.plan_list.specs.declared.error.ListingError.TheVariants as l
use Rattle.sched_engine.specs.CodeTexts.{RefusesText}
use Rattle.plan_list.specs.Lines.{tasks_text}

-- the text writes a plan, and these are the lines of its submissions
pub record AreTasksOfText (text tasks : List ℕ) : Type 0 where
  pub plan : PlanTree
  pub reads : TextWrites text plan
  pub lines : tasks ≡ tasks_text plan

-- the whole of the lines was written, or nothing, or a front of them where the writer was at fault
abbrev pub TasksWritten : Result (Unit {0}) ListingError → List ℕ → Option (List ℕ) → Option (List ℕ) → Type 0
TasksWritten (Ok done) text old new = (lines : List ℕ) × AreTasksOfText text lines × Appends old new lines
TasksWritten (Err l.Write) text old new = (lines : List ℕ) × AreTasksOfText text lines × (n : ℕ) × Appends old new (take n lines)
TasksWritten (Err (l.Code error)) text old new = RefusesText text error × Keeps old new
