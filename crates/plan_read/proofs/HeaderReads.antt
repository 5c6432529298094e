-- What the parts of a header say of the whole.
use Rattle.std.proofs.Common.{◌≡◌, ℕ, true, false, Bool, if◌then◌else◌, Some, None, codes, refl}
use Rattle.toml.specs.Data.{Members}
use Rattle.sched_time.specs.Times.{delay_units}
use Rattle.sched_time.specs.declared.unit.Unit.{Unit as TimeUnit}
use Rattle.plan_read.specs.declared.faults.PlanFault.{PlanFault}
use Rattle.plan_read.specs.declared.plans.Header.{Header}
use Rattle.plan_read.specs.declared.units.Units.{Units}
use Rattle.plan_read.specs.declared.versions.Version.{Version}
use Rattle.plan_read.specs.own.Values.{span_at, times_at, unit_at, header_units, header_of}

-- a test on which alone there is no fault
pub passes : (b : Bool) (e : PlanFault) → (if b then None else Some e) ≡ None → b ≡ true
passes true e h = refl
passes false e h = absurd (cc)

-- the header that is read
abbrev pub header_with : TimeUnit → Units → ℕ → Members → Header
header_with unit units n ms = record { at = span_at units.at (codes "at") ms; unit = unit; times = n; every = span_at units.every (codes "every") ms }

-- is the one that the table writes
pub header_is : (version : Version) (ms : Members) (unit : TimeUnit) (units : Units) (n : ℕ) → unit ≡ unit_at version ms → units ≡ header_units version ms → n ≡ delay_units (times_at ms)
    → header_with unit units n ms ≡ header_of version ms
unfolding header_of
header_is version ms unit units n own beside times = rw (own, beside, times) refl
