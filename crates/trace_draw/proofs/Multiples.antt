-- The ticks of an axis, from the first multiple of a step on.
use Rattle.std.proofs.Common.{◌≡◌, ℕ, ◌+◌, ◌-◌, ◌*◌, ◌/◌, ◌%◌, ◌<◌, ◌≤◌, zero, suc, Bool, true, false, cond, List, [], ◌∷◌, ◌++◌, map, nat_le, refl, sym, ap, ◌∙◌, arith, inl, inr}
use Rattle.std.specs.List.{filter, range_with_len}
use Rattle.std.specs.Int.{div_ceil}
use Rattle.std.proofs.Math.Nat.{mul-le-mul_left, div-mul-le_self, mul-div-le}
use Rattle.std.proofs.lemmas.Nat.{le-div}
use Rattle.std.proofs.lemmas.Bool.{cases_eq, cases_order, le-leb, lt-leb}
use Rattle.std.proofs.lemmas.List.FromFn.{filter_of_map_range_with_len_more}
use Rattle.sched_time.specs.declared.unit.Unit.{Unit}
use Rattle.trace_draw.specs.declared.ticks.Tick.{Tick}
use Rattle.trace_draw.specs.declared.window.Window.{Window}
use Rattle.trace_draw.specs.Ticks.{step_nanos, step_of, tick_at, ticks_by, ticks_of}

-- where none passes, a filter gives none
pub none_pass : {X : Type 0} (p : X → Bool) (f : ℕ → X) (a n : ℕ) → ((k : ℕ) → a ≤ k → k < a + n → p (f k) ≡ false) → filter p (map f (range_with_len a n)) ≡ []
none_pass p f a zero never = refl
none_pass p f a (suc n) never =
    ap (λ t. cond t (f a ∷ filter p (map f (range_with_len (a + 1) n))) (filter p (map f (range_with_len (a + 1) n)))) (never a (omega arith) (omega arith))
    ∙ none_pass p f (a + 1) n (λ k low high. never k (omega arith) (omega arith))

-- a multiple below the first one that is no sooner
pub below_first : (from step k : ℕ) → 0 < step → k < div_ceil from step → k * step < from
below_first from step k some low =
    elim (cases_eq (from % step) 0) [
      | inl none ↦ let less : k + 1 ≤ from / step = omega (arith, low, none) in omega (arith, mul-le-mul_left step less, some)
      | inr over ↦ let most : k ≤ from / step = omega (arith, low) in omega (arith, mul-le-mul_left step most, over, some)
    ]

-- a multiple from there on
pub from_first : (from step k : ℕ) → 0 < step → div_ceil from step ≤ k → from ≤ k * step
from_first from step k some low =
    elim (cases_eq (from % step) 0) [
      | inl none ↦ let most : from / step ≤ k = omega (arith, low) in omega (arith, mul-le-mul_left step most, none, some)
      | inr over ↦ let less : from / step + 1 ≤ k = omega (arith, low, over) in omega (arith, mul-le-mul_left step less, some)
    ]

-- a multiple that is no sooner is no less than the first one
pub no_less : (from step k : ℕ) → 0 < step → from ≤ k * step → div_ceil from step ≤ k
no_less from step k some low =
    elim (cases_order k (div_ceil from step)) [
      | inl same ↦ omega (arith, same)
      | inr other ↦ elim other [ inl less ↦ absurd (omega (arith, below_first from step k some less, low)) | inr more ↦ omega (arith, more) ]
    ]

-- a length of time has no fewer of a step than a shorter one
pub quotient_grows : (from to step : ℕ) → 0 < step → from ≤ to → from / step ≤ to / step
quotient_grows from to step some ordered = le-div (from / step) to step some (omega (arith, div-mul-le_self from step, ordered))

-- the first multiple is no further than behind the last
pub first_near : (from to step : ℕ) → 0 < step → from ≤ to → div_ceil from step ≤ to / step + 1
first_near from to step some ordered = omega (arith, quotient_grows from to step some ordered)

-- a factor of something is something
pub factor_some : (a b : ℕ) → 0 < a * b → 1 ≤ b
factor_some a zero some = absurd (omega (arith, some))
factor_some a (suc b) some = omega arith

-- so many of a unit, up to a moment, are no more than its nanoseconds
pub count_within : (to number count nanos : ℕ) → 1 ≤ nanos → number ≤ to / (count * nanos) → number * count ≤ to
count_within to number count nanos some low =
    omega (arith, mul-le-mul_left (number * count) some, mul-le-mul_left (count * nanos) low, mul-div-le to (count * nanos))

-- ---- the ticks of a window

-- the ticks at the first multiples of a step, those no sooner than a moment
abbrev pub ticks_below : ℕ × Unit → ℕ → ℕ → List Tick
ticks_below step from n = filter (λ tick. nat_le from tick.moment) (map (tick_at step) (range_with_len 0 n))

not_early : (from step k nanos : ℕ) → nanos ≡ step → 0 < step → div_ceil from nanos ≤ k → nat_le from (k * step) ≡ true
not_early from step k nanos same some low = le-leb from (k * step) (from_first from step k some (omega (arith, low, ap (λ n. div_ceil from n) same)))

early : (from step k nanos : ℕ) → nanos ≡ step → 0 < step → k < div_ceil from nanos → nat_le from (k * step) ≡ false
early from step k nanos same some high = lt-leb from (k * step) (below_first from step k some (omega (arith, high, ap (λ n. div_ceil from n) same)))

-- before the first multiple that is no sooner there is none
pub none_before : (from nanos number : ℕ) (step : ℕ × Unit) → nanos ≡ step_nanos step → 0 < step_nanos step → number ≡ div_ceil from nanos → [] ≡ ticks_below step from number
none_before from nanos number step same some first =
    sym (none_pass (λ tick. nat_le from tick.moment) (tick_at step) 0 number (λ k low high. early from (step_nanos step) k nanos same some (omega (arith, high, first))))

-- from there on each adds one
pub one_more : (from nanos number n : ℕ) (step : ℕ × Unit) → nanos ≡ step_nanos step → 0 < step_nanos step → div_ceil from nanos ≤ n → ticks_below step from n ++ tick_at step n ∷ [] ≡ ticks_below step from (n + 1)
one_more from nanos number n step same some low =
    sym (filter_of_map_range_with_len_more (λ tick. nat_le from tick.moment) (tick_at step) 0 n n (omega arith)
    ∙ ap (λ t. ticks_below step from n ++ cond t (tick_at step n ∷ []) []) (not_early from (step_nanos step) n nanos same some low))

-- up to the last multiple they are those of the window
pub all_ticks : (window : Window) (from to nanos n : ℕ) (step : ℕ × Unit) → from ≡ window.from → to ≡ window.to → step ≡ step_of (to - from) → nanos ≡ step_nanos step → n ≡ to / nanos + 1 → ticks_below step from n ≡ ticks_of window
all_ticks window from to nanos n step f t s same last =
    ap (λ k. ticks_below step from k) (last ∙ ap (λ d. to / d + 1) same)
    ∙ ((λ i. ticks_by step (f i) (t i))
    ∙ ap (λ st. ticks_by st window.from window.to) (s ∙ (λ i. step_of (t i - f i))))
