-- Which plan a text writes, and the fault of a text: its length and its tree, and then what its tree writes or is refused for.
-- All of it is this project's rule.
use Rattle.std.specs.Prelude.{◌≡◌, ◌⊎◌, ℕ, ◌≤◌, if◌then◌else◌, List, [], ◌∷◌, length, Option, None, Some}
use Rattle.std.specs.Str.{is_utf8}
use Rattle.toml.specs.Data.{Members}
use Rattle.toml.specs.Parse.{parse_document}
use Rattle.plan_read.specs.declared.faults.PlanFault.{PlanFault}
use Rattle.plan_read.specs.declared.faults.PlanFaultKind.TheVariants.{TooLong, Toml}
use Rattle.plan_read.specs.Checks.{Check, ◌unless◌, Passes, IsFaultOf}
use Rattle.plan_read.specs.Plans.{PlanTree}
use Rattle.plan_read.specs.Writes.{TreeWrites, TreeFails}

-- the greatest length of a text, in bytes
abbrev pub longest_text : ℕ
longest_text = 1048576

-- the tree of a text that is UTF-8 and a TOML document
abbrev pub tree_of : List ℕ → Option Members
tree_of text = if is_utf8 text then parse_document text else None

-- what is checked at a text, which has a tree
unfoldable pub text_checks : List ℕ → List (Check Members)
text_checks text =
    (TooLong unless λ tree. length text ≤ longest_text)
    ∷ (Toml unless λ tree. tree_of text ≡ Some tree)
    ∷ []

-- a text writes the plan that its tree writes
pub record TextWrites (text : List ℕ) (plan : PlanTree) : Type 0 where
  pub tree : Members
  pub parsed : Passes (text_checks text) tree
  pub writes : TreeWrites tree plan

-- the fault of a text: that of the text as a whole, or that of its tree
abbrev pub TextFails : List ℕ → PlanFault → Type 0
TextFails text fault =
    IsFaultOf (text_checks text) 0 0 fault
    ⊎ ((tree : Members) × Passes (text_checks text) tree × TreeFails tree fault)
