-- The bars of a lane that lie over one another: piles. All of it is this project's rule. A text is grouped to the right.
use Rattle.std.specs.Prelude.{ℕ, ◌+◌, ◌-◌, ◌==◌, nat_le, nat_lt, max, Bool, true, false, if◌then◌else◌, List, [], ◌∷◌, ◌++◌, Option, Some, None, slice_get, length, codes, filter, flat_map, fold}
use Rattle.std.specs.List.{list_any, range_with_len}
use Rattle.std.specs.Fmt.{decimal}
use Rattle.executor_model.specs.declared.types.Outcome.{Outcome}
use Rattle.executor_model.specs.declared.types.Outcome.TheVariants as outcome
use Rattle.trace_svg.specs.declared.elements.words.Fill.{Fill}
use Rattle.trace_svg.specs.declared.elements.words.Fill.TheVariants as fill
use Rattle.trace_svg.specs.declared.elements.words.Face.TheVariants as face
use Rattle.trace_svg.specs.elements.Elements.{rectangle_text, label_text}
use Rattle.trace_draw.specs.declared.bars.Bar.{Bar}
use Rattle.trace_draw.specs.declared.bars.Finish.{Finish}
use Rattle.trace_draw.specs.declared.window.Window.{Window}
use Rattle.trace_svg.specs.Groups.{groups_of, of_first}
use Rattle.trace_svg.specs.Places.{across, bar_width, lane_top}
use Rattle.trace_svg.specs.Runs.{bar_text, bar_tip, fill_of, letters_in, name_of}

-- ---- which bars are a pile

-- where a bar ends, from the left
abbrev pub bar_right : Window → Bar → ℕ
bar_right window bar = across window bar.first + bar_width window bar

-- where a pile begins: with its first bar
abbrev pub pile_left : Window → List Bar → ℕ
pile_left window pile = of_first (λ bar. across window bar.first) pile

-- where it ends: with the bar of it that ends furthest to the right
abbrev pub pile_right : Window → List Bar → ℕ
pile_right window pile = fold (λ n bar. max n (bar_right window bar)) 0 pile

-- a bar lies on a pile: it begins before the pile ends
abbrev pub lies_on : Window → List Bar → Bar → Bool
lies_on window pile bar = nat_lt (across window bar.first) (pile_right window pile)

-- the bars of a lane: those of its worker
abbrev pub bars_in : ℕ → List Bar → List Bar
bars_in worker bars = filter (λ bar. bar.worker == worker) bars

-- their piles: a bar that lies on the pile before it goes to it
abbrev pub piles_in : Window → ℕ → List Bar → List (List Bar)
piles_in window worker bars = groups_of (lies_on window) (bars_in worker bars)

-- the piles of all lanes, of which there is one for each worker that a line can name
unfoldable pub piles_of : Window → List Bar → List (List Bar)
piles_of window bars = flat_map (λ worker. piles_in window worker bars) (range_with_len 0 256)

-- ---- how a pile is drawn

-- where the lane of a pile begins, from the top
abbrev pub pile_top : List Bar → ℕ
pile_top pile = of_first (λ bar. lane_top bar.worker) pile

abbrev pub pile_width : Window → List Bar → ℕ
pile_width window pile = pile_right window pile - pile_left window pile

-- a run failed
abbrev pub failed_by : Outcome → Bool
failed_by (outcome.Failed code) = true
failed_by _ = false

abbrev pub failed : Option Finish → Bool
failed (Some finish) = failed_by finish.outcome
failed None = false

-- the colour of the last run
abbrev pub last_fill : Option Bar → Fill
last_fill (Some bar) = fill_of bar.finish
last_fill None = fill.Open

-- the colour of a pile: that of failed runs where one of its runs failed, and else that of its last run
abbrev pub pile_fill : List Bar → Fill
pile_fill pile = if list_any (λ bar. failed bar.finish) pile then fill.Failed else last_fill (slice_get pile (length pile - 1))

-- how many runs a pile has, in words
abbrev pub runs_label : ℕ → List ℕ
runs_label count = decimal count ++ codes " runs"

-- the tooltip of a run in a picture
abbrev pub run_tip : List (List ℕ) → Bar → List ℕ
run_tip names bar = bar_tip (name_of names bar.task) bar

-- the tooltip of a pile: how many runs it has, and then the tooltip of each
abbrev pub pile_tip : List (List ℕ) → List Bar → List ℕ
pile_tip names pile = runs_label (length pile) ++ (codes "\n" ++ flat_map (run_tip names) pile)

-- a pile of several runs, as one bar
abbrev pub pile_shape : Window → List (List ℕ) → List Bar → List ℕ
pile_shape window names pile = rectangle_text (pile_fill pile) (pile_left window pile) (pile_top pile) (pile_width window pile) 22 (pile_tip names pile)

-- how many runs it has, at its upper right
abbrev pub pile_number : Window → List Bar → List ℕ
pile_number window pile = label_text face.Count (pile_right window pile + 2) (pile_top pile) (decimal (length pile))

-- its label, and its number alone where that does not fit
abbrev pub pile_label : Window → List Bar → List ℕ
pile_label window pile =
    if nat_le (length (runs_label (length pile))) (letters_in (pile_width window pile)) then label_text face.Run (pile_left window pile + 4) (pile_top pile + 15) (runs_label (length pile)) else pile_number window pile

-- a pile: a bar alone is drawn as the bar that it is
unfoldable pub pile_text : Window → List (List ℕ) → List Bar → List ℕ
pile_text window names [] = []
pile_text window names (bar ∷ []) = bar_text window names bar
pile_text window names (first ∷ next ∷ more) = pile_shape window names (first ∷ next ∷ more) ++ pile_label window (first ∷ next ∷ more)
