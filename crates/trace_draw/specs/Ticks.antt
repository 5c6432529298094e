-- The axis of time. All of it is this project's rule.
use Rattle.std.specs.Prelude.{ℕ, ◌+◌, ◌-◌, ◌*◌, ◌/◌, nat_le, List, [], ◌∷◌, ◌++◌, map, filter, unwrap_or}
use Rattle.std.specs.List.{find, range_with_len}
use Rattle.sched_time.specs.Times.{nanos_of}
use Rattle.sched_time.specs.declared.unit.Unit.{Unit}
use Rattle.sched_time.specs.declared.unit.Unit.TheVariants.{Ns, Us, Ms, S, Min, Hour, Day}
use Rattle.trace_draw.specs.declared.ticks.Tick.{Tick}
use Rattle.trace_draw.specs.declared.window.Window.{Window}

-- some numbers of a unit
abbrev pub of_unit : Unit → List ℕ → List (ℕ × Unit)
of_unit unit counts = map (λ count. (count, unit)) counts

-- how far two ticks may stand apart, ascending: some of a unit
unfoldable pub steps : List (ℕ × Unit)
steps =
    of_unit Ns (1 ∷ 2 ∷ 5 ∷ 10 ∷ 20 ∷ 50 ∷ 100 ∷ 200 ∷ 500 ∷ [])
    ++ of_unit Us (1 ∷ 2 ∷ 5 ∷ 10 ∷ 20 ∷ 50 ∷ 100 ∷ 200 ∷ 500 ∷ [])
    ++ of_unit Ms (1 ∷ 2 ∷ 5 ∷ 10 ∷ 20 ∷ 50 ∷ 100 ∷ 200 ∷ 500 ∷ [])
    ++ of_unit S (1 ∷ 2 ∷ 5 ∷ 10 ∷ 15 ∷ 30 ∷ [])
    ++ of_unit Min (1 ∷ 2 ∷ 5 ∷ 10 ∷ 15 ∷ 30 ∷ [])
    ++ of_unit Hour (1 ∷ 2 ∷ 3 ∷ 6 ∷ 12 ∷ [])
    ++ of_unit Day (1 ∷ 2 ∷ 5 ∷ 10 ∷ 20 ∷ 50 ∷ 100 ∷ 200 ∷ 500 ∷ 1000 ∷ 2000 ∷ 5000 ∷ 10000 ∷ 20000 ∷ 50000 ∷ [])

-- the nanoseconds of some of a unit
abbrev pub step_nanos : ℕ × Unit → ℕ
step_nanos step = step.0 * nanos_of step.1

-- the step for a window of this length: the first of which seven reach over it, and the last one where there is none
-- (the law `steps_reach` says that there is one for each length below 2^64)
abbrev pub step_of : ℕ → ℕ × Unit
step_of length = unwrap_or (find (λ step. nat_le length (7 * step_nanos step)) steps) (50000, Day)

-- the tick at so many steps
abbrev pub tick_at : ℕ × Unit → ℕ → Tick
tick_at step n = record { moment = n * step_nanos step; count = n * step.0; unit = step.1 }

-- the ticks from one moment to another, ascending: of those at each multiple of a step up to the one, those no sooner than the other
abbrev pub ticks_by : ℕ × Unit → ℕ → ℕ → List Tick
ticks_by step from to = filter (λ tick. nat_le from tick.moment) (map (tick_at step) (range_with_len 0 (to / step_nanos step + 1)))

-- the ticks of a window
abbrev pub ticks_of : Window → List Tick
ticks_of window = ticks_by (step_of (window.to - window.from)) window.from window.to
