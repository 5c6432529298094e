-- The lines that tell the submissions of a plan.
-- All of it is this project's rule. Numbers are decimals with no leading zero, one space stands between two words, and a text is
-- grouped to the right.
use Rattle.std.specs.Prelude.{ℕ, List, ◌++◌, Option, Some, None, codes, flat_map}
use Rattle.std.specs.Fmt.{decimal}
use Rattle.plan_read.specs.Plans.{PlanTree}
use Rattle.trace_text.specs.Spelling.{kind_text}
use Rattle.plan_compile.specs.Submissions.{Submitted, submissions_of_plan}

-- when the first run is due, in words
abbrev pub due_text : Option ℕ → List ℕ
due_text (Some due) = codes "due " ++ decimal due
due_text None = codes "refused illegal"

-- a submission; its kind is the word that its line in a trace has
abbrev pub submission_text : Submitted → List ℕ
submission_text s =
    decimal s.task ++ (codes " " ++ (s.name ++ (codes " " ++ (kind_text s.kind ++ (codes " submitted " ++ (decimal s.moment ++ (codes " " ++ due_text s.due)))))))

-- its line, with its newline
abbrev pub submission_line : Submitted → List ℕ
submission_line s = submission_text s ++ codes "\n"

-- the lines of a plan's submissions
abbrev pub tasks_text : PlanTree → List ℕ
tasks_text blocks = flat_map submission_line (submissions_of_plan blocks)
