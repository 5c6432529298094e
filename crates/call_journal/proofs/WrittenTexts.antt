-- A text with the tree of calls writes a plan, which makes these calls.
use Rattle.std.proofs.Common.{◌≡◌, ◌≤◌, ℕ, List, length, Some}
use Rattle.plan_read.specs.declared.versions.Version.TheVariants.{Two}
use Rattle.plan_read.specs.Texts.{longest_text, text_checks, tree_of}
use Rattle.call_journal.specs.MadeCalls.{MayBePlanned, WritesPlanOf}
use Rattle.call_journal.specs.Plans.{tree_of_calls}
use Rattle.call_journal.specs.declared.journal.MadeCall.{MadeCall}
use Rattle.call_journal.proofs.WrittenBlocks.{tree_makes_calls}

pub text_makes_calls : (text : List ℕ) (calls : List MadeCall) → length text ≤ longest_text → tree_of text ≡ Some (tree_of_calls calls) → MayBePlanned calls → WritesPlanOf text calls
unfolding text_checks
text_makes_calls text calls short reads may =
    let made = tree_makes_calls calls may in
    (made.0, record { tree = tree_of_calls calls; parsed = (short, (reads, tt)); writes = (Two, made.1) }, made.2)
