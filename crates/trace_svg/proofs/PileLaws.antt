-- The laws of piles.
use Rattle.std.proofs.Common.{◌≡◌, ℕ, zero, suc, ◌+◌, ◌<◌, ◌≤◌, ◌==◌, List, length, take, ap, ◌∙◌, refl, arith}
use Rattle.std.specs.Prelude.{flat_map}
use Rattle.std.specs.List.{AllByRecursion, range_with_len, sum_by}
use Rattle.std.proofs.lemmas.Bool.{eqb-true, eqb-false}
use Rattle.trace_draw.specs.declared.bars.Bar.{Bar}
use Rattle.trace_draw.specs.declared.window.Window.{Window}
use Rattle.trace_draw.specs.Pictures.{bars_within}
use Rattle.trace_svg.specs.Places.{across}
use Rattle.trace_svg.specs.Piles.{bar_right, bars_in, lies_on, pile_left, pile_right, piles_in, piles_of}
use Rattle.trace_svg.specs.Laws.{BarsAreCounted, BarsLieOnPiles, BarsOfPilesOverlap, PilesDoNotOverlap, PilesHoldBars, PilesReachOverBars}
use Rattle.trace_svg.proofs.Groups.{EachInTurn, Joins, all_at, chosen, counted, counted_in, each_joins, hits, in_turn_at, joined, pair_at, some}
use Rattle.trace_svg.proofs.Overlaps.{LiesOverOne, ReachesOver, all_weaker, apart, less, lie_over, over}
use Rattle.trace_svg.proofs.Rising.{lefts_rise}

pub piles_hold_bars : PilesHoldBars
piles_hold_bars window worker bars = record {
  joined = joined (lies_on window) (bars_in worker bars);
  some = λ i pile is. all_at (λ g. 0 < length g) (piles_in window worker bars) i pile (some (lies_on window) (bars_in worker bars)) is;
}

-- ---- each bar has one lane

no_lane : (n a lanes : ℕ) → n < a → hits (λ worker. n == worker) (range_with_len a lanes) ≡ 0
no_lane n a zero low = refl
no_lane n a (suc lanes) low =
    chosen (λ k. k ≡ 0) (n == a) (1 + hits (λ worker. n == worker) (range_with_len (a + 1) lanes)) (hits (λ worker. n == worker) (range_with_len (a + 1) lanes))
    (λ is. absurd (omega (arith, eqb-true n a is)))
    (λ _. no_lane n (a + 1) lanes (omega arith))

one_lane : (n a lanes : ℕ) → a ≤ n → n < a + lanes → hits (λ worker. n == worker) (range_with_len a lanes) ≡ 1
one_lane n a zero low high = absurd (omega arith)
one_lane n a (suc lanes) low high =
    chosen (λ k. k ≡ 1) (n == a) (1 + hits (λ worker. n == worker) (range_with_len (a + 1) lanes)) (hits (λ worker. n == worker) (range_with_len (a + 1) lanes))
    (λ is. ap (λ k. 1 + k) (no_lane n (a + 1) lanes (omega (arith, eqb-true n a is))))
    (λ is. one_lane n (a + 1) lanes (omega (arith, eqb-false n a is)) (omega arith))

counted_lanes : (window : Window) (bars : List Bar) (lanes : ℕ) → AllByRecursion (λ bar. bar.worker < lanes) bars
    → sum_by length (flat_map (λ worker. piles_in window worker bars) (range_with_len 0 lanes)) ≡ length bars
counted_lanes window bars lanes each =
    counted_in (λ worker. piles_in window worker bars) (λ worker. bars_in worker bars) (λ worker. joined (lies_on window) (bars_in worker bars)) (range_with_len 0 lanes)
    ∙ counted (λ worker (bar : Bar). bar.worker == worker) (range_with_len 0 lanes) bars
    (all_weaker (λ (bar : Bar). bar.worker < lanes) (λ (bar : Bar). hits (λ worker. bar.worker == worker) (range_with_len 0 lanes) ≡ 1) (λ (bar : Bar) (low : bar.worker < lanes). one_lane bar.worker 0 lanes (omega arith) (omega (arith, low))) bars each)

pub bars_are_counted : BarsAreCounted
unfolding piles_of
bars_are_counted window bars each = counted_lanes window bars 256 each

-- ---- where piles stand

pub bars_lie_on_piles : BarsLieOnPiles
bars_lie_on_piles window worker bars i k pile bar later is at =
    let lies = Joins (lies_on window) in
    let each = all_at (EachInTurn lies) (piles_in window worker bars) i pile (each_joins (lies_on window) (bars_in worker bars)) is in
    less (across window bar.first) (pile_right window (take k pile)) (in_turn_at lies pile k bar each later at)

wide : (window : Window) (bar : Bar) → across window bar.first ≤ bar_right window bar
wide window bar = omega arith

pub piles_do_not_overlap : PilesDoNotOverlap
piles_do_not_overlap window worker bars i j one other less is at =
    pair_at (λ g h. pile_right window g ≤ pile_left window h) (piles_in window worker bars) i j one other
    (apart (λ bar. across window bar.first) (bar_right window) (wide window) (bars_in worker bars)) less is at

pub piles_reach_over_bars : PilesReachOverBars
piles_reach_over_bars calls workers lines window worker i k pile bar trace is at =
    let bars = bars_within window lines in
    let left = λ (bar : Bar). across window bar.first in
    let each = over left (bar_right window) (bars_in worker bars) (lefts_rise calls workers lines window worker trace) in
    let reaches = all_at (λ g. AllByRecursion (ReachesOver left (bar_right window) g) g) (piles_in window worker bars) i pile each is in
    let here = all_at (ReachesOver left (bar_right window) pile) pile k bar reaches at in
    record { left = here.0; right = here.1 }

pub bars_of_piles_overlap : BarsOfPilesOverlap
bars_of_piles_overlap calls workers lines window worker i k pile bar trace later is at =
    let bars = bars_within window lines in
    let lies = LiesOverOne (λ (bar : Bar). across window bar.first) (bar_right window) in
    let piles = lie_over (λ (bar : Bar). across window bar.first) (bar_right window) (bars_in worker bars) (lefts_rise calls workers lines window worker trace) in
    let here = in_turn_at lies pile k bar (all_at (EachInTurn lies) (piles_in window worker bars) i pile piles is) later at in
    record { index = here.index; other = here.other; at = here.at; from = here.from; before = here.before }
