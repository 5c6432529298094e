-- What holds of the axis, of the scale and of the window of a whole trace. All of it is this project's rule.
use Rattle.std.specs.Prelude.{◌≡◌, ℕ, ◌+◌, ◌-◌, ◌*◌, ◌^◌, ◌<◌, ◌≤◌, List, length, Some, slice_get}
use Rattle.sched_time.specs.Times.{nanos_of}
use Rattle.queue_code.specs.Calls.{Planned}
use Rattle.executor_model.specs.declared.types.Line.{Line}
use Rattle.trace_draw.specs.declared.ticks.Tick.{Tick}
use Rattle.trace_draw.specs.declared.window.Window.{Window}
use Rattle.trace_draw.specs.Laws.{IsTraceOf}
use Rattle.trace_draw.specs.Ticks.{step_nanos, step_of, tick_at, ticks_of}
use Rattle.trace_draw.specs.Scale.{passed, place_of}
use Rattle.trace_draw.specs.Whole.{least_moment, greatest_moment}

-- ---- the axis

-- seven steps reach over each window
abbrev pub StepsReach : Type 0
StepsReach = (length : ℕ) → length < 2 ^ 64 → length ≤ 7 * step_nanos (step_of length)

-- a tick stands in a window, at a multiple of its step, and says which moment it is
pub record IsTickOf (window : Window) (tick : Tick) : Type 0 where
  pub from : window.from ≤ tick.moment
  pub to : tick.moment ≤ window.to
  pub n : ℕ
  pub multiple : tick.moment ≡ n * step_nanos (step_of (window.to - window.from))
  pub exact : tick.moment ≡ tick.count * nanos_of tick.unit

-- each tick does
abbrev pub TicksStand : Type 0
TicksStand = (window : Window) (i : ℕ) (tick : Tick) → slice_get (ticks_of window) i ≡ Some tick → IsTickOf window tick

-- each multiple of the step that the window shows has a tick
abbrev pub MultiplesHaveTicks : Type 0
MultiplesHaveTicks = (window : Window) (n : ℕ) → window.from ≤ n * step_nanos (step_of (window.to - window.from)) → n * step_nanos (step_of (window.to - window.from)) ≤ window.to
    → (i : ℕ) × (slice_get (ticks_of window) i ≡ Some (tick_at (step_of (window.to - window.from)) n))

-- ticks ascend
abbrev pub TicksAscend : Type 0
TicksAscend = (window : Window) (i j : ℕ) (one other : Tick) → i < j → slice_get (ticks_of window) i ≡ Some one → slice_get (ticks_of window) j ≡ Some other → one.moment < other.moment

-- a window has eight ticks at most
abbrev pub TicksAreFew : Type 0
TicksAreFew = (window : Window) → window.to < 2 ^ 64 → length (ticks_of window) ≤ 8

-- ---- the scale

-- a later moment stands no further to the front
abbrev pub PlacesRise : Type 0
PlacesRise = (window : Window) (width s t : ℕ) → s ≤ t → place_of window width s ≤ place_of window width t

-- no moment stands behind the width
abbrev pub PlacesAreWithin : Type 0
PlacesAreWithin = (window : Window) (width t : ℕ) → place_of window width t ≤ width

-- the first moment stands at 0, and the last one at the width
abbrev pub PlacesReachTheEnds : Type 0
PlacesReachTheEnds = (window : Window) (width : ℕ) → (place_of window width window.from ≡ 0) × (window.from < window.to → place_of window width window.to ≡ width)

-- a place is the part of the width that has passed, rounded down
abbrev pub PlacesAreExact : Type 0
PlacesAreExact = (window : Window) (width t : ℕ) → window.from < window.to
    → (place_of window width t * (window.to - window.from) ≤ passed window t * width) × (passed window t * width < (place_of window width t + 1) * (window.to - window.from))

-- ---- the window of a whole trace

-- no line stands outside
abbrev pub WholeShowsAll : Type 0
WholeShowsAll = (lines : List Line) (i : ℕ) (line : Line) → slice_get lines i ≡ Some line → (least_moment lines ≤ line.moment) × (line.moment ≤ greatest_moment lines)

-- that of a trace is from its first line to its last one
abbrev pub WholeIsFirstToLast : Type 0
WholeIsFirstToLast = (calls : List Planned) (workers : ℕ) (lines : List Line) (first last : Line) → IsTraceOf calls workers lines
    → slice_get lines 0 ≡ Some first → slice_get lines (length lines - 1) ≡ Some last → (least_moment lines ≡ first.moment) × (greatest_moment lines ≡ last.moment)
