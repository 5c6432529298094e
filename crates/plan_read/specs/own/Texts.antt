-- Beside `specs/Texts`: the walk over a text that finds its plan and its fault.
-- All of it is this project's rule.
use Rattle.std.specs.Prelude.{ℕ, nat_le, List, [], ◌∷◌, length, Option, is_some, unwrap_or}
use Rattle.toml.specs.Data.{Members, no_members}
use Rattle.plan_read.specs.declared.faults.PlanFault.{PlanFault}
use Rattle.plan_read.specs.declared.faults.PlanFaultKind.TheVariants.{TooLong, Toml}
use Rattle.plan_read.specs.Plans.{PlanTree}
use Rattle.plan_read.specs.Texts.{tree_of, longest_text}
use Rattle.plan_read.specs.own.Values.{plan_of}
use Rattle.plan_read.specs.own.Walk.{Test, ◌barring◌, ◌or_else◌, place_fault, top, tree_fault}

-- the tree of a text, an empty one where it has none
abbrev pub tree_at : List ℕ → Members
tree_at text = unwrap_or (tree_of text) no_members

-- on the length of a text
abbrev pub length_tests : List ℕ → List Test
length_tests text = (TooLong barring nat_le (length text) longest_text) ∷ []

-- on a text as a document
abbrev pub toml_tests : List ℕ → List Test
toml_tests text = (Toml barring is_some (tree_of text)) ∷ []

-- the fault of a text: the places in order are the text, the top, and then block by block
abbrev pub fault_of_text : List ℕ → Option PlanFault
fault_of_text text = place_fault top (length_tests text) or_else place_fault top (toml_tests text) or_else tree_fault (tree_at text)

-- the plan that a text writes where it has no fault
abbrev pub plan_of_text : List ℕ → PlanTree
plan_of_text text = plan_of (tree_at text)
