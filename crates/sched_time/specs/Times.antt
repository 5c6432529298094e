-- Units of time, and the greatest moment.
-- All moments and spans are whole nanoseconds. The limit is this project's rule.
use Rattle.std.specs.Prelude.{ℕ, ◌^◌, ◌*◌, ℤ, pos, negsuc, zero, suc, Option, Some, None}
use Rattle.sched_time.specs.declared.unit.Unit.{Unit}
use Rattle.sched_time.specs.declared.unit.Unit.TheVariants.{Ns, Us, Ms, S, Min, Hour, Day}

-- the greatest moment and the longest span, in nanoseconds
abbrev pub longest : ℕ
longest = 2 ^ 62

-- the nanoseconds in one of a unit (this project's rule: which units there are, their names, and these numbers.
-- The page of TimeUnit has the ratios: each of the first four is a thousandth of the next one, a minute is sixty seconds, an hour sixty
-- minutes, and a day twenty four hours)
abbrev pub nanos_of : Unit → ℕ
nanos_of Ns = 1
nanos_of Us = 1000
nanos_of Ms = 1000000
nanos_of S = 1000000000
nanos_of Min = 60000000000
nanos_of Hour = 3600000000000
nanos_of Day = 86400000000000

-- the units that a value asks for: a negative one counts as 0
-- (ScheduledExecutorService: "Zero and negative delays (but not periods) are also allowed
-- in schedule methods, and are treated as requests for immediate execution.")
abbrev pub delay_units : ℤ → ℕ
delay_units (pos n) = n
delay_units (negsuc n) = 0

-- the nanoseconds that a value in a unit asks for (this project's rule: no value is rounded or cut)
abbrev pub span_of : ℤ → Unit → ℕ
span_of value unit = delay_units value * nanos_of unit

-- the nanoseconds of a period in a unit, and none exactly when the value is no period
-- (ScheduledExecutorService.scheduleAtFixedRate throws IllegalArgumentException "if period less than or equal to
-- zero", and scheduleWithFixedDelay "if delay less than or equal to zero")
abbrev pub period_of : ℤ → Unit → Option ℕ
period_of (pos zero) unit = None
period_of (pos (suc n)) unit = Some (suc n * nanos_of unit)
period_of (negsuc n) unit = None
