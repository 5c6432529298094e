-- What holds of piles and of stacks. All of it is this project's rule.
use Rattle.std.specs.Prelude.{◌≡◌, ℕ, ◌<◌, ◌≤◌, List, Some, slice_get, length, take, flat_map}
use Rattle.std.specs.List.{AllByRecursion, sum_by}
use Rattle.queue_code.specs.Calls.{Planned}
use Rattle.executor_model.specs.declared.types.Line.{Line}
use Rattle.trace_svg.specs.declared.elements.words.Glyph.{Glyph}
use Rattle.trace_draw.specs.declared.bars.Bar.{Bar}
use Rattle.trace_draw.specs.declared.window.Window.{Window}
use Rattle.trace_draw.specs.Laws.{IsTraceOf}
use Rattle.trace_draw.specs.Pictures.{picture_of}
use Rattle.trace_svg.specs.Places.{across}
use Rattle.trace_svg.specs.Piles.{bar_right, bars_in, pile_left, pile_right, piles_in, piles_of}
use Rattle.trace_svg.specs.Stacks.{marks_in, stack_across, stacks_in, stacks_of}

-- ---- piles

-- the piles of a lane, one behind the other, are its bars, in their order, and each has one at least
pub record ArePiles (window : Window) (worker : ℕ) (bars : List Bar) : Type 0 where
  pub joined : flat_map (λ pile. pile) (piles_in window worker bars) ≡ bars_in worker bars
  pub some : (i : ℕ) (pile : List Bar) → slice_get (piles_in window worker bars) i ≡ Some pile → 0 < length pile

abbrev pub PilesHoldBars : Type 0
PilesHoldBars = (window : Window) (worker : ℕ) (bars : List Bar) → ArePiles window worker bars

-- the piles of all lanes have as many bars as there are, where no worker is one that a line cannot name
abbrev pub BarsAreCounted : Type 0
BarsAreCounted = (window : Window) (bars : List Bar) → AllByRecursion (λ bar. bar.worker < 256) bars → sum_by length (piles_of window bars) ≡ length bars

-- each bar of a pile but the first begins before those before it in the pile end
abbrev pub BarsLieOnPiles : Type 0
BarsLieOnPiles = (window : Window) (worker : ℕ) (bars : List Bar) (i k : ℕ) (pile : List Bar) (bar : Bar) → 0 < k
    → slice_get (piles_in window worker bars) i ≡ Some pile → slice_get pile k ≡ Some bar → across window bar.first < pile_right window (take k pile)

-- of two piles of a lane the one that stands first ends no further right than where the other begins
abbrev pub PilesDoNotOverlap : Type 0
PilesDoNotOverlap = (window : Window) (worker : ℕ) (bars : List Bar) (i j : ℕ) (one other : List Bar) → i < j
    → slice_get (piles_in window worker bars) i ≡ Some one → slice_get (piles_in window worker bars) j ≡ Some other → pile_right window one ≤ pile_left window other

-- a pile reaches over a bar
pub record ReachesOver (window : Window) (pile : List Bar) (bar : Bar) : Type 0 where
  pub left : pile_left window pile ≤ across window bar.first
  pub right : bar_right window bar ≤ pile_right window pile

-- each pile of a picture of a trace reaches over each of its bars
abbrev pub PilesReachOverBars : Type 0
PilesReachOverBars = (calls : List Planned) (workers : ℕ) (lines : List Line) (window : Window) (worker i k : ℕ) (pile : List Bar) (bar : Bar) → IsTraceOf calls workers lines
    → slice_get (piles_in window worker (picture_of lines workers window).bars) i ≡ Some pile → slice_get pile k ≡ Some bar → ReachesOver window pile bar

-- a bar lies over one of some others: it begins no further left than that one, and left of where that one ends
pub record LiesOverOne (window : Window) (others : List Bar) (bar : Bar) : Type 0 where
  pub index : ℕ
  pub other : Bar
  pub at : slice_get others index ≡ Some other
  pub from : across window other.first ≤ across window bar.first
  pub before : across window bar.first < bar_right window other

-- each bar of a pile of a picture of a trace but the first lies over one of those before it in the pile
abbrev pub BarsOfPilesOverlap : Type 0
BarsOfPilesOverlap = (calls : List Planned) (workers : ℕ) (lines : List Line) (window : Window) (worker i k : ℕ) (pile : List Bar) (bar : Bar) → IsTraceOf calls workers lines → 0 < k
    → slice_get (piles_in window worker (picture_of lines workers window).bars) i ≡ Some pile → slice_get pile k ≡ Some bar → LiesOverOne window (take k pile) bar

-- ---- stacks

-- the stacks of a row, one behind the other, are its marks, in their order; each has one at least, and all of its marks stand where it does
pub record AreStacks (window : Window) (row : Glyph) (marks : List Line) : Type 0 where
  pub joined : flat_map (λ stack. stack) (stacks_in window row marks) ≡ marks_in row marks
  pub some : (i : ℕ) (stack : List Line) → slice_get (stacks_in window row marks) i ≡ Some stack → 0 < length stack
  pub there : (i k : ℕ) (stack : List Line) (mark : Line) → slice_get (stacks_in window row marks) i ≡ Some stack → slice_get stack k ≡ Some mark → across window mark.moment ≡ stack_across window stack

abbrev pub StacksHoldMarks : Type 0
StacksHoldMarks = (window : Window) (row : Glyph) (marks : List Line) → AreStacks window row marks

-- the numbers of the stacks of all rows add up to the number of marks
abbrev pub MarksAreCounted : Type 0
MarksAreCounted = (window : Window) (marks : List Line) → sum_by length (stacks_of window marks) ≡ length marks

-- no two stacks of a row of a picture of a trace stand at one place: they stand from left to right
abbrev pub StacksStandApart : Type 0
StacksStandApart = (calls : List Planned) (workers : ℕ) (lines : List Line) (window : Window) (row : Glyph) (i j : ℕ) (one other : List Line) → IsTraceOf calls workers lines → i < j
    → slice_get (stacks_in window row (picture_of lines workers window).marks) i ≡ Some one → slice_get (stacks_in window row (picture_of lines workers window).marks) j ≡ Some other
    → stack_across window one < stack_across window other
