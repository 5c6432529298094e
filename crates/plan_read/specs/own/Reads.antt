-- Beside `specs/Reads`: what only private contracts and proofs cite.
use Rattle.std.specs.Prelude.{◌≡◌, ℕ, List, Option, None, Some, Result, Ok, Err}
use Rattle.std.specs.Borrow.{Bor}
use Rattle.std.specs.BTreeMap.{BTreeMap, get_by}
use Rattle.std.specs.Cmp.Lexicographic.{slice_cmp}
use Rattle.std.specs.Ordering.{nat_cmp}
use Rattle.plan_read.specs.declared.faults.PlanFault.{PlanFault}
use Rattle.plan_read.specs.declared.faults.ReadError.{ReadError}
use Rattle.plan_read.specs.declared.faults.ReadError.TheVariants as errors
use Rattle.plan_read.specs.declared.sites.Site.{Site}
use Rattle.plan_read.specs.Plans.{find}

-- a function ended without a value because of this fault, unless memory ran out
abbrev pub FailsWith : ReadError → Option PlanFault → Type 0
FailsWith errors.Memory fault = Unit {0}
FailsWith (errors.Fault e) fault = fault ≡ Some e

-- a function answers this value where there is no fault, and else the fault, unless memory ran out
abbrev pub Reads : {X Y : Type 0} → (X → Y) → Result X ReadError → Option PlanFault → Y → Type 0
Reads seen (Ok x) fault value = (fault ≡ None) × (seen x ≡ value)
Reads seen (Err e) fault value = FailsWith e fault

-- what a map from names has at a name
abbrev pub found_in : BTreeMap (Bor (List ℕ)) Site → List ℕ → Option Site
found_in names name = get_by (λ k. slice_cmp nat_cmp name k.now) names

-- a map holds these submissions
abbrev pub Knows : BTreeMap (Bor (List ℕ)) Site → List (List ℕ × Site) → Type 0
Knows names subs = (name : List ℕ) → found_in names name ≡ find name subs
