-- Beside `specs/Rule`: what only private contracts and proofs cite.
use Rattle.std.specs.Prelude.{ℕ, List, [], ◌∷◌}

-- the words of the tasks among those of a table, whose first word belongs to no task
abbrev pub task_words : List ℕ → List ℕ
task_words [] = []
task_words (spare ∷ words) = words
