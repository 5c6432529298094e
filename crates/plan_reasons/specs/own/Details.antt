-- Where in a tree a detail is.
use Rattle.std.specs.Prelude.{◌≡◌, ℕ, List, Some, option_map, IfSome}
use Rattle.toml.specs.Data.{Members, get_member}
use Rattle.toml.specs.View.{view}
use Rattle.plan_read.specs.declared.faults.PlanFaultKind.{PlanFaultKind}
use Rattle.plan_read.specs.declared.versions.Version.{Version as PlanVersion}
use Rattle.plan_read.specs.Keys.{Key}
use Rattle.plan_reasons.specs.declared.scene.Detail.{Detail}
use Rattle.plan_reasons.specs.Standing.{place_table}
use Rattle.plan_reasons.specs.Told.{FitsKey, place_keys}

-- the value of a detail is that at its key in these members
abbrev pub IsIn : Members → Detail → Type 0
IsIn ms d = IfSome d.at (λ at. option_map (λ v. view v.now) at.value ≡ get_member at.key.now ms)

-- the value of a detail is that at its key in the table of a place
abbrev pub IsInPlace : Members → ℕ → ℕ → Detail → Type 0
IsInPlace tree block call d = IfSome d.at (λ at. (ms : Members) × (place_table tree block call ≡ Some ms) × (option_map (λ v. view v.now) at.value ≡ get_member at.key.now ms))

-- the key of a detail is one at which a fault of this kind may be, in a table in which these keys belong
abbrev pub Suits : PlanFaultKind → List Key → Members → Detail → Type 0
Suits kind keys ms d = IfSome d.at (λ at. FitsKey kind keys ms at.key.now)

-- the same in the table of a place
abbrev pub SuitsPlace : PlanFaultKind → PlanVersion → Members → ℕ → ℕ → Detail → Type 0
SuitsPlace kind version tree block call d = IfSome d.at (λ at. (ms : Members) × (place_table tree block call ≡ Some ms) × FitsKey kind (place_keys version ms block call) ms at.key.now)
