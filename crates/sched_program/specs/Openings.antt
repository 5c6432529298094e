-- Openings: files that are read, and standard input by the name `-`. All of it is this project's rule.
use Rattle.std.specs.Prelude.{◌≡◌, ℕ, ◌⊎◌, ⊤, List, ◌∷◌, codes}
use Rattle.sched_program.specs.declared.opening.Opened.{Opened}
use Rattle.sched_program.specs.declared.opening.Opened.TheVariants.{File, Input}

-- what holds of an opened file, or of standard input
abbrev pub of_opened : {F I X : Type 0} → (F → X) → (I → X) → Opened F I → X
of_opened of_file of_input (File file) = of_file file
of_opened of_file of_input (Input input) = of_input input

-- standard input was opened
abbrev pub IsInput : {F I : Type 0} → Opened F I → Type 0
IsInput (File file) = ⊥
IsInput (Input input) = ⊤

-- the word behind the program's name is that of a command whose events come on standard input
abbrev pub NamesEvents : List (List ℕ) → Type 0
NamesEvents (program ∷ command ∷ rest) = (command ≡ codes "run") ⊎ (command ≡ codes "pool")
NamesEvents arguments = ⊥
