-- The text of a picture. All of it is this project's rule. A text is grouped to the right.
use Rattle.std.specs.Prelude.{ℕ, ◌+◌, List, ◌++◌, flat_map}
use Rattle.trace_svg.specs.elements.Elements.{opening_text, closing_text}
use Rattle.trace_draw.specs.Pictures.{Shown}
use Rattle.trace_svg.specs.Places.{wide, axis_top}
use Rattle.trace_svg.specs.Keys.{legend_text, rows_text, lanes_text, axis_text}
use Rattle.trace_svg.specs.Piles.{piles_of, pile_text}
use Rattle.trace_svg.specs.Stacks.{stacks_of, stack_text}

-- a picture, where these are the names of the tasks by their numbers
unfoldable pub svg_text : Shown → List (List ℕ) → List ℕ
svg_text shown names =
    opening_text wide (axis_top shown.workers + 30)
    ++ (legend_text
    ++ (rows_text
    ++ (lanes_text shown.workers
    ++ (axis_text shown.window shown.workers shown.ticks
    ++ (flat_map (pile_text shown.window names) (piles_of shown.window shown.bars)
    ++ (flat_map (stack_text shown.window) (stacks_of shown.window shown.marks)
    ++ closing_text))))))
