-- The listing of the code of the plan that a text writes, and what the writing of it did.
-- All of it is this project's rule.
use Rattle.std.specs.Prelude.{◌≡◌, ℕ, List, Option, Result, Ok, Err, take}
use Rattle.std.specs.Io.KnownBytes.{Appends, Keeps}
use Rattle.queue_code.specs.Listings.{listing_of}
use Rattle.plan_read.specs.Plans.{PlanTree}
use Rattle.plan_read.specs.Texts.{TextWrites}
use Rattle.plan_compile.specs.PlanCode.{instrs_of}
use Rattle.sched_engine.specs.declared.report.RunError.{RunError}
use Rattle.sched_engine.specs.declared.report.RunError.TheVariants as x
use Rattle.sched_engine.specs.CodeTexts.{RefusesText}
use Rattle.sched_engine.specs.Stages.{told_of_code}
use Rattle.plan_list.specs.declared.error.ListingError.{ListingError}
use Rattle.plan_list.specs.declared.error.ListingError.TheVariants as l
use Rattle.byte_ends.specs.Ends.{AllGood, LastBad, NoneFailed}

-- the text writes a plan, and the listing is that of the plan's code
pub record IsListingOfText (text listing : List ℕ) : Type 0 where
  pub plan : PlanTree
  pub reads : TextWrites text plan
  pub lines : listing ≡ listing_of (instrs_of plan)

-- what the writing of a listing did: the whole of it was written, or nothing, or a front of it where the writer was at fault
abbrev pub Listed : Result (Unit {0}) ListingError → List ℕ → Option (List ℕ) → Option (List ℕ) → Type 0
Listed (Ok done) text old new = (listing : List ℕ) × IsListingOfText text listing × Appends old new listing
Listed (Err l.Write) text old new = (listing : List ℕ) × IsListingOfText text listing × (n : ℕ) × Appends old new (take n listing)
Listed (Err (l.Code error)) text old new = RefusesText text error × Keeps old new

-- what the calls of the writer of a listing count: what good tries do, the last of which was bad at `Write`; nothing where there is
-- no code
abbrev pub CountsListing : Result (Unit {0}) ListingError → ℕ → ℕ → ℕ → ℕ → Type 0
CountsListing (Ok done) failed fruitless failed' fruitless' = AllGood failed fruitless failed' fruitless'
CountsListing (Err l.Write) failed fruitless failed' fruitless' = LastBad failed fruitless failed' fruitless'
CountsListing (Err (l.Code error)) failed fruitless failed' fruitless' = NoneFailed 0 failed fruitless failed' fruitless'

-- what a caller is told of an error of a listing
abbrev pub told_of_listing : ListingError → RunError
told_of_listing (l.Code error) = told_of_code error
told_of_listing l.Write = x.Write
