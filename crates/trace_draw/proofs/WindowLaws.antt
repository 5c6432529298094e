-- The laws of the axis, of the scale and of the window of a whole trace.
use Rattle.std.proofs.Common.{zero, suc, ◌≡◌, ℕ, ◌+◌, ◌-◌, ◌*◌, ◌/◌, ◌<◌, ◌≤◌, ◌==◌, Bool, true, false, cond, inl, inr, List, [], ◌∷◌, ◌++◌, length, map, nat_le, min, max, Option, Some, None, refl, sym, ap, ◌∙◌, subst, arith}
use Rattle.std.specs.Prelude.{slice_get, unwrap_or, fold}
use Rattle.std.specs.List.{find, list_all, range_with_len}
use Rattle.std.specs.Int.{div_ceil}
use Rattle.std.proofs.Math.Nat.{mul-le-mul_left, div-mul-le_self, mul-div-le, div-le_of_le-mul}
use Rattle.std.proofs.lemmas.Nat.{le-div}
use Rattle.std.proofs.lemmas.Bool.{and_parts, leb-true, eqb-true, eqb-false, cases_order}
use Rattle.std.proofs.lemmas.Option.{none-some, same_Some}
use Rattle.std.proofs.lemmas.List.FromFn.{map-range_with_len_more, length-map-range_with_len}
use Rattle.sched_time.specs.Times.{nanos_of}
use Rattle.sched_time.specs.declared.unit.Unit.{Unit}
use Rattle.sched_time.specs.declared.unit.Unit.TheVariants.{Day}
use Rattle.executor_model.specs.declared.types.Line.{Line}
use Rattle.trace_draw.specs.declared.ticks.Tick.{Tick}
use Rattle.trace_draw.specs.declared.window.Window.{Window}
use Rattle.trace_draw.specs.Ticks.{steps, step_nanos, step_of, tick_at, ticks_of}
use Rattle.trace_draw.specs.Scale.{passed}
use Rattle.trace_draw.specs.AxisLaws.{StepsReach, TicksStand, MultiplesHaveTicks, TicksAscend, TicksAreFew, PlacesRise, PlacesAreWithin, PlacesReachTheEnds, PlacesAreExact, WholeShowsAll, WholeIsFirstToLast}
use Rattle.trace_draw.proofs.Multiples.{ticks_below, none_before, one_more, first_near, from_first, no_less, quotient_grows}
use Rattle.trace_draw.proofs.Lanes.{moments_do_not_fall}

-- ---- steps

found_passes : (p : ℕ × Unit → Bool) (xs : List (ℕ × Unit)) (x : ℕ × Unit) → find p xs ≡ Some x → p x ≡ true
found_passes p [] x is = absurd (none-some x is)
found_passes p (y ∷ xs) x is =
    let by : (b : Bool) → p y ≡ b → cond b (Some y) (find p xs) ≡ Some x → p x ≡ true =
    elim [ true ↦ λ passes is. sym (ap p (same_Some y x is)) ∙ passes | false ↦ λ fails is. found_passes p xs x is ]
    in
    by (p y) refl is

found_has : (p q : ℕ × Unit → Bool) (xs : List (ℕ × Unit)) (x : ℕ × Unit) → list_all q xs ≡ true → find p xs ≡ Some x → q x ≡ true
found_has p q [] x all is = absurd (none-some x is)
found_has p q (y ∷ xs) x all is =
    let both = and_parts (q y) (list_all q xs) all in
    let by : (b : Bool) → cond b (Some y) (find p xs) ≡ Some x → q x ≡ true =
    elim [ true ↦ λ is. sym (ap q (same_Some y x is)) ∙ both.0 | false ↦ λ is. found_has p q xs x both.1 is ]
    in
    by (p y) is

pub steps_reach : StepsReach
steps_reach length fits = by (find (λ step. nat_le length (7 * step_nanos step)) steps) refl
  where
    by : (found : Option (ℕ × Unit)) → find (λ step. nat_le length (7 * step_nanos step)) steps ≡ found → length ≤ 7 * step_nanos (unwrap_or found (50000, Day))
    by None is = omega arith
    by (Some step) is = leb-true length (7 * step_nanos step) (found_passes (λ step. nat_le length (7 * step_nanos step)) steps step is)

all_some : list_all (λ step. nat_le 1 (step_nanos step)) steps ≡ true
unfolding steps
all_some = refl

pub step_some : (length : ℕ) → 0 < step_nanos (step_of length)
step_some length = by (find (λ step. nat_le length (7 * step_nanos step)) steps) refl
  where
    by : (found : Option (ℕ × Unit)) → find (λ step. nat_le length (7 * step_nanos step)) steps ≡ found → 0 < step_nanos (unwrap_or found (50000, Day))
    by None is = omega arith
    by (Some step) is =
        let some = leb-true 1 (step_nanos step) (found_has (λ step. nat_le length (7 * step_nanos step)) (λ step. nat_le 1 (step_nanos step)) steps step all_some is) in
        omega (arith, some)

-- ---- ticks

-- the ticks up to some multiple, from the first one on
in_row : (from : ℕ) (step : ℕ × Unit) (k : ℕ) → 0 < step_nanos step → ticks_below step from (div_ceil from (step_nanos step) + k) ≡ map (tick_at step) (range_with_len (div_ceil from (step_nanos step)) k)
in_row from step zero some =
    let end : div_ceil from (step_nanos step) + 0 ≡ div_ceil from (step_nanos step) = omega arith in
    ap (λ n. ticks_below step from n) end ∙ sym (none_before from (step_nanos step) (div_ceil from (step_nanos step)) step refl some refl)
in_row from step (suc k) some =
    let first = div_ceil from (step_nanos step) in
    let end : first + suc k ≡ first + k + 1 = omega arith in
    let more : k + 1 ≡ suc k = omega arith in
    ap (λ n. ticks_below step from n) end
    ∙ (sym (one_more from (step_nanos step) (first + k) (first + k) step refl some (omega arith))
    ∙ (ap (λ ticks. ticks ++ tick_at step (first + k) ∷ []) (in_row from step k some)
    ∙ (sym (map-range_with_len_more (tick_at step) first k (first + k) refl)
    ∙ ap (λ n. map (tick_at step) (range_with_len first n)) more)))

-- the step of a window, and how many multiples of it the window shows
abbrev step_in : Window → ℕ × Unit
step_in window = step_of (window.to - window.from)

abbrev first_in : Window → ℕ
first_in window = div_ceil window.from (step_nanos (step_in window))

abbrev count_in : Window → ℕ
count_in window = window.to / step_nanos (step_in window) + 1 - first_in window

ticks_in_row : (window : Window) → ticks_of window ≡ map (tick_at (step_in window)) (range_with_len (first_in window) (count_in window))
ticks_in_row window =
    let some = step_some (window.to - window.from) in
    let near = first_near window.from window.to (step_nanos (step_in window)) some window.ordered in
    ap (λ n. ticks_below (step_in window) window.from n) (omega (arith, near)) ∙ in_row window.from (step_in window) (count_in window) some

-- what stands in a row
got_in : (f : ℕ → Tick) (a n i : ℕ) (x : Tick) → slice_get (map f (range_with_len a n)) i ≡ Some x → (i < n) × (f (a + i) ≡ x)
got_in f a zero i x is = absurd (none-some x is)
got_in f a (suc n) zero x is = (omega arith, ap f (omega arith) ∙ same_Some (f a) x is)
got_in f a (suc n) (suc i) x is = let rest = got_in f (a + 1) n i x is in (omega (arith, rest.0), ap f (omega arith) ∙ rest.1)

at_in : (f : ℕ → Tick) (a n i : ℕ) → i < n → slice_get (map f (range_with_len a n)) i ≡ Some (f (a + i))
at_in f a zero i low = absurd (omega (arith, low))
at_in f a (suc n) zero low = ap (λ k. Some (f k)) (omega arith)
at_in f a (suc n) (suc i) low = at_in f (a + 1) n i (omega (arith, low)) ∙ ap (λ k. Some (f k)) (omega arith)

tick_got : (window : Window) (i : ℕ) (tick : Tick) → slice_get (ticks_of window) i ≡ Some tick → (i < count_in window) × (tick_at (step_in window) (first_in window + i) ≡ tick)
tick_got window i tick is = got_in (tick_at (step_in window)) (first_in window) (count_in window) i tick (ap (λ ticks. slice_get ticks i) (sym (ticks_in_row window)) ∙ is)

-- a multiple within the last is no later than the end
within_end : (to step n : ℕ) → n ≤ to / step → n * step ≤ to
within_end to step n low = omega (arith, mul-le-mul_left step low, mul-div-le to step)

exactly : (n count nanos : ℕ) → n * (count * nanos) ≡ n * count * nanos
exactly n count nanos = omega arith

pub ticks_stand : TicksStand
ticks_stand window i tick is =
    let got = tick_got window i tick is in
    let step = step_in window in
    let n = first_in window + i in
    let moment = ap (λ (t : Tick). t.moment) got.1 in
    let some = step_some (window.to - window.from) in
    let from = from_first window.from (step_nanos step) n some (omega arith) in
    let to = within_end window.to (step_nanos step) n (omega (arith, got.0)) in
    record {
      from = omega (arith, from, moment);
      to = omega (arith, to, moment);
      n = n;
      multiple = sym moment;
      exact = subst (λ (t : Tick). t.moment ≡ t.count * nanos_of t.unit) got.1 (exactly n step.0 (nanos_of step.1));
    }

pub multiples_have_ticks : MultiplesHaveTicks
multiples_have_ticks window n low high =
    let step = step_in window in
    let some = step_some (window.to - window.from) in
    let last = le-div n window.to (step_nanos step) some high in
    let first : first_in window ≤ n = no_less window.from (step_nanos step) n some low in (
      n - first_in window,
      ap (λ ticks. slice_get ticks (n - first_in window)) (ticks_in_row window)
          ∙ (at_in (tick_at step) (first_in window) (count_in window) (n - first_in window) (omega (arith, last, first))
          ∙ ap (λ k. Some (tick_at step k)) (omega (arith, first))),
    )

pub ticks_ascend : TicksAscend
ticks_ascend window i j one other low is at =
    let got = tick_got window i one is in
    let too = tick_got window j other at in
    let step = step_nanos (step_in window) in
    let some = step_some (window.to - window.from) in
    let next : first_in window + i + 1 ≤ first_in window + j = omega (arith, low) in
    omega (arith, mul-le-mul_left step next, some, ap (λ (t : Tick). t.moment) got.1, ap (λ (t : Tick). t.moment) too.1)

-- a window that seven steps reach over has eight multiples at most
few_between : (from to step : ℕ) → 0 < step → to - from ≤ 7 * step → to / step + 1 - div_ceil from step ≤ 8
few_between from to step some short =
    let first = from_first from step (div_ceil from step) some (omega arith) in
    let last = div-le_of_le-mul step {m = to} {n = div_ceil from step + 7} (omega (arith, first, short)) in
    omega (arith, last)

pub ticks_are_few : TicksAreFew
ticks_are_few window fits =
    omega (
      arith,
      ap length (ticks_in_row window),
      length-map-range_with_len (tick_at (step_in window)) (first_in window) (count_in window),
      few_between window.from window.to (step_nanos (step_in window)) (step_some (window.to - window.from)) (steps_reach (window.to - window.from) (omega (arith, fits))),
    )

-- ---- the scale

apart : (from to : ℕ) → from ≤ to → (from == to) ≡ false → 0 < to - from
apart from to low differ =
    elim (cases_order from to) [
      | inl same ↦ absurd (eqb-false from to differ same)
      | inr other ↦ elim other [ inl less ↦ omega (arith, less) | inr more ↦ absurd (omega (arith, more, low)) ]
    ]

passed_rises : (window : Window) (s t : ℕ) → s ≤ t → passed window s ≤ passed window t
passed_rises window s t low = omega (arith, low)

passed_within : (window : Window) (t : ℕ) → passed window t ≤ window.to - window.from
passed_within window t = omega arith

pub places_rise : PlacesRise
places_rise window width s t low = by (window.from == window.to) refl
  where
    by : (b : Bool) → (window.from == window.to) ≡ b → cond b 0 (passed window s * width / (window.to - window.from)) ≤ cond b 0 (passed window t * width / (window.to - window.from))
    by true is = omega arith
    by false is =
        quotient_grows (passed window s * width) (passed window t * width) (window.to - window.from) (apart window.from window.to window.ordered is)
        (omega (arith, mul-le-mul_left width (passed_rises window s t low)))

part_within : (window : Window) (width t : ℕ) → passed window t * width / (window.to - window.from) ≤ width
part_within window width t = div-le_of_le-mul (window.to - window.from) {m = passed window t * width} {n = width} (omega (arith, mul-le-mul_left width (passed_within window t)))

pub places_are_within : PlacesAreWithin
places_are_within window width t = by (window.from == window.to)
  where
    by : (b : Bool) → cond b 0 (passed window t * width / (window.to - window.from)) ≤ width
    by true = omega arith
    by false = part_within window width t

none_passed : (window : Window) → passed window window.from ≡ 0
none_passed window = omega arith

all_passed : (window : Window) → passed window window.to ≡ window.to - window.from
all_passed window = omega (arith, window.ordered)

pub places_reach_the_ends : PlacesReachTheEnds
places_reach_the_ends window width = (first (window.from == window.to), λ some. last (window.from == window.to) refl some)
  where
    length : ℕ
    length = window.to - window.from

    first : (b : Bool) → cond b 0 (passed window window.from * width / (window.to - window.from)) ≡ 0
    first true = refl
    first false =
        let none = div-le_of_le-mul (window.to - window.from) {m = passed window window.from * width} {n = 0} (omega (arith, ap (λ p. p * width) (none_passed window))) in
        omega (arith, none)

    last : (b : Bool) → (window.from == window.to) ≡ b → window.from < window.to → cond b 0 (passed window window.to * width / (window.to - window.from)) ≡ width
    last true is some = absurd (omega (arith, eqb-true window.from window.to is, some))
    last false is some =
        let low = le-div width (passed window window.to * width) (window.to - window.from) (omega (arith, some)) (omega (arith, ap (λ p. p * width) (all_passed window))) in
        omega (arith, low, part_within window width window.to)

-- a quotient, and the next number
quotient_exact : (x d : ℕ) → 0 < d → (x / d * d ≤ x) × (x < (x / d + 1) * d)
quotient_exact x d some = (div-mul-le_self x d, omega (arith, some))

pub places_are_exact : PlacesAreExact
places_are_exact window width t some = by (window.from == window.to) refl
  where
    by : (b : Bool) → (window.from == window.to) ≡ b
        → (cond b 0 (passed window t * width / (window.to - window.from)) * (window.to - window.from) ≤ passed window t * width)
        × (passed window t * width < (cond b 0 (passed window t * width / (window.to - window.from)) + 1) * (window.to - window.from))
    by true is = absurd (omega (arith, eqb-true window.from window.to is, some))
    by false is = quotient_exact (passed window t * width) (window.to - window.from) (omega (arith, some))

-- ---- the window of a whole trace

-- the least moment of lines and a number, and the greatest
abbrev least_from : ℕ → List Line → ℕ
least_from a lines = fold (λ n line. min n line.moment) a lines

abbrev greatest_from : ℕ → List Line → ℕ
greatest_from a lines = fold (λ n line. max n line.moment) a lines

least_low : (a : ℕ) (lines : List Line) → least_from a lines ≤ a
least_low a [] = omega arith
least_low a (line ∷ later) = omega (arith, least_low (min a line.moment) later)

greatest_high : (a : ℕ) (lines : List Line) → a ≤ greatest_from a lines
greatest_high a [] = omega arith
greatest_high a (line ∷ later) = omega (arith, greatest_high (max a line.moment) later)

least_each : (a : ℕ) (lines : List Line) (i : ℕ) (line : Line) → slice_get lines i ≡ Some line → least_from a lines ≤ line.moment
least_each a [] i line is = absurd (none-some line is)
least_each a (first ∷ later) zero line is = omega (arith, least_low (min a first.moment) later, ap (λ (l : Line). l.moment) (same_Some first line is))
least_each a (first ∷ later) (suc i) line is = least_each (min a first.moment) later i line is

greatest_each : (a : ℕ) (lines : List Line) (i : ℕ) (line : Line) → slice_get lines i ≡ Some line → line.moment ≤ greatest_from a lines
greatest_each a [] i line is = absurd (none-some line is)
greatest_each a (first ∷ later) zero line is = omega (arith, greatest_high (max a first.moment) later, ap (λ (l : Line). l.moment) (same_Some first line is))
greatest_each a (first ∷ later) (suc i) line is = greatest_each (max a first.moment) later i line is

pub whole_shows_all : WholeShowsAll
whole_shows_all [] i line is = absurd (none-some line is)
whole_shows_all (first ∷ more) zero line is =
    let same = ap (λ (l : Line). l.moment) (same_Some first line is) in
    (omega (arith, least_low first.moment more, same), omega (arith, greatest_high first.moment more, same))
whole_shows_all (first ∷ more) (suc i) line is = (least_each first.moment more i line is, greatest_each first.moment more i line is)

-- a number that is no more than each moment stays the least one, and one that is no less than each is an upper bound
least_stays : (a : ℕ) (lines : List Line) → ((i : ℕ) (line : Line) → slice_get lines i ≡ Some line → a ≤ line.moment) → least_from a lines ≡ a
least_stays a [] low = refl
least_stays a (line ∷ later) low = ap (λ n. least_from n later) (omega (arith, low 0 line refl)) ∙ least_stays a later (λ i l is. low (suc i) l is)

greatest_below : (a b : ℕ) (lines : List Line) → a ≤ b → ((i : ℕ) (line : Line) → slice_get lines i ≡ Some line → line.moment ≤ b) → greatest_from a lines ≤ b
greatest_below a b [] high each = high
greatest_below a b (line ∷ later) high each = greatest_below (max a line.moment) b later (omega (arith, high, each 0 line refl)) (λ i l is. each (suc i) l is)

got_within : (lines : List Line) (i : ℕ) (line : Line) → slice_get lines i ≡ Some line → i < length lines
got_within [] i line is = absurd (none-some line is)
got_within (first ∷ later) zero line is = omega arith
got_within (first ∷ later) (suc i) line is = omega (arith, got_within later i line is)

pub whole_is_first_to_last : WholeIsFirstToLast
whole_is_first_to_last calls workers [] first last trace is at = absurd (none-some first is)
whole_is_first_to_last calls workers (head ∷ more) first last trace is at =
    let same = ap (λ (l : Line). l.moment) (same_Some head first is) in
    let lines = head ∷ more in
    let up : (i : ℕ) (line : Line) → slice_get lines i ≡ Some line → line.moment ≤ last.moment =
    λ i line there. moments_do_not_fall calls workers lines i (length lines - 1) line last trace (omega (arith, got_within lines i line there)) there at
    in (
      least_stays head.moment more (λ i line there. moments_do_not_fall calls workers lines 0 (suc i) head line trace (omega arith) refl there) ∙ same,
      omega (arith, greatest_below head.moment last.moment more (up 0 head refl) (λ i line there. up (suc i) line there), (whole_shows_all lines (length lines - 1) last at).1),
    )
