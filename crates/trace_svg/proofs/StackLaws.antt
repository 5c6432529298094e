-- The laws of stacks.
use Rattle.std.proofs.Common.{◌≡◌, ◌<◌, ◌==◌, List, [], ◌∷◌, length, refl, ◌∙◌}
use Rattle.std.specs.List.{AllByRecursion}
use Rattle.executor_model.specs.declared.types.Line.{Line}
use Rattle.trace_svg.specs.declared.elements.words.Glyph.{Glyph}
use Rattle.trace_svg.specs.declared.elements.words.Glyph.TheVariants as glyph
use Rattle.trace_draw.specs.Pictures.{marks_within}
use Rattle.trace_svg.specs.Keys.{rows}
use Rattle.trace_svg.specs.Places.{across, glyph_of, height_of}
use Rattle.trace_svg.specs.Stacks.{mark_height, marks_in, stack_across, stacks_in, stands_on}
use Rattle.trace_svg.specs.Laws.{MarksAreCounted, StacksHoldMarks, StacksStandApart}
use Rattle.trace_svg.proofs.Groups.{all_at, counted, counted_in, hits, joined, pair_at, some}
use Rattle.trace_svg.proofs.Overlaps.{stand, there}
use Rattle.trace_svg.proofs.Rising.{places_of_marks_rise}

pub stacks_hold_marks : StacksHoldMarks
stacks_hold_marks window row marks =
    let stacks = stacks_in window row marks in
    let across_of = λ (line : Line). across window line.moment in
    record {
      joined = joined (stands_on window) (marks_in row marks);
      some = λ i stack is. all_at (λ g. 0 < length g) stacks i stack (some (stands_on window) (marks_in row marks)) is;
      there = λ i k stack mark is at.
          all_at (λ line. across_of line ≡ stack_across window stack) stack k mark
          (all_at (λ g. AllByRecursion (λ line. across_of line ≡ stack_across window g) g) stacks i stack (there across_of (marks_in row marks)) is) at;
    }

-- ---- each mark has one row

one_row : (g : Glyph) → hits (λ row. height_of g == height_of row) rows ≡ 1
one_row glyph.Submit = refl
one_row _ = refl

each_has_one : (marks : List Line) → AllByRecursion (λ line. hits (λ row. mark_height line == height_of row) rows ≡ 1) marks
each_has_one [] = tt
each_has_one (line ∷ more) = (one_row (glyph_of line.message), each_has_one more)

pub marks_are_counted : MarksAreCounted
marks_are_counted window marks =
    counted_in (λ row. stacks_in window row marks) (λ row. marks_in row marks) (λ row. joined (stands_on window) (marks_in row marks)) rows
    ∙ counted (λ row line. mark_height line == height_of row) rows marks (each_has_one marks)

-- ---- where stacks stand

pub stacks_stand_apart : StacksStandApart
stacks_stand_apart calls workers lines window row i j one other trace less is at =
    pair_at (λ g h. stack_across window g < stack_across window h) (stacks_in window row (marks_within window lines)) i j one other
    (stand (λ line. across window line.moment) (marks_in row (marks_within window lines)) (places_of_marks_rise calls workers lines window row trace)) less is at
