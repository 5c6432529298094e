-- What a picture says beside its runs and marks. All of it is this project's rule. A text is grouped to the right.
use Rattle.std.specs.Prelude.{ℕ, ◌+◌, List, [], ◌∷◌, ◌++◌, codes, flat_map}
use Rattle.std.specs.List.{range_with_len}
use Rattle.std.specs.Fmt.{decimal}
use Rattle.sched_time.specs.declared.unit.Unit.{Unit as TimeUnit}
use Rattle.sched_time.specs.declared.unit.Unit.TheVariants as unit
use Rattle.trace_svg.specs.declared.elements.words.Fill.{Fill}
use Rattle.trace_svg.specs.declared.elements.words.Fill.TheVariants as fill
use Rattle.trace_svg.specs.declared.elements.words.Glyph.{Glyph}
use Rattle.trace_svg.specs.declared.elements.words.Glyph.TheVariants as glyph
use Rattle.trace_svg.specs.declared.elements.words.Stroke.TheVariants as stroke
use Rattle.trace_svg.specs.declared.elements.words.Face.TheVariants as face
use Rattle.trace_svg.specs.elements.Elements.{rectangle_text, mark_text, segment_text, label_text}
use Rattle.trace_svg.specs.elements.Words.{fill_word, glyph_word}
use Rattle.trace_draw.specs.declared.ticks.Tick.{Tick}
use Rattle.trace_draw.specs.declared.window.Window.{Window}
use Rattle.trace_svg.specs.Places.{time_begins, time_ends, across, height_of, lane_top, axis_top}

-- ---- the legend

-- the colours of runs, and where each stands
abbrev pub fills : List (Fill × ℕ)
fills = (fill.Done, 110) ∷ (fill.Failed, 190) ∷ (fill.Again, 270) ∷ (fill.Dropped, 350) ∷ (fill.Ended, 430) ∷ (fill.Open, 510) ∷ []

-- a colour with its word
abbrev pub fill_key : Fill × ℕ → List ℕ
fill_key (fill, x) = rectangle_text fill x 8 14 14 (fill_word fill) ++ label_text face.Key (x + 20) 19 (fill_word fill)

-- the shapes of marks, and where each stands
abbrev pub glyphs : List (Glyph × ℕ)
glyphs =
    (glyph.Submit, 115) ∷ (glyph.Refuse, 195) ∷ (glyph.Cancel, 275) ∷ (glyph.Outside, 355) ∷ (glyph.End, 445) ∷ (glyph.Policy, 525) ∷ (glyph.Shutdown, 605)
    ∷ (glyph.Ask, 695) ∷ (glyph.Clock, 775) ∷ (glyph.Idle, 855) ∷ (glyph.Error, 935) ∷ []

-- a shape with its word
abbrev pub glyph_key : Glyph × ℕ → List ℕ
glyph_key (glyph, x) = mark_text glyph x 37 (glyph_word glyph) ++ label_text face.Key (x + 12) 41 (glyph_word glyph)

abbrev pub legend_text : List ℕ
legend_text = flat_map fill_key fills ++ flat_map glyph_key glyphs

-- ---- the rows of marks

-- the kinds of marks that name the rows
abbrev pub rows : List Glyph
rows = glyph.Submit ∷ glyph.Cancel ∷ glyph.End ∷ glyph.Shutdown ∷ glyph.Clock ∷ glyph.Idle ∷ []

-- the name of a row
abbrev pub row_name : Glyph → List ℕ
row_name glyph.Submit = codes "submissions"
row_name glyph.Refuse = codes "submissions"
row_name glyph.Cancel = codes "cancels"
row_name glyph.Outside = codes "cancels"
row_name glyph.End = codes "ends"
row_name glyph.Policy = codes "executor"
row_name glyph.Shutdown = codes "executor"
row_name glyph.Ask = codes "executor"
row_name glyph.Clock = codes "clock"
row_name glyph.Idle = codes "idle, errors"
row_name glyph.Error = codes "idle, errors"

-- a row: its name, and a line
abbrev pub row_text : Glyph → List ℕ
row_text glyph = label_text face.Row 100 (height_of glyph + 4) (row_name glyph) ++ segment_text stroke.Lane (time_begins, height_of glyph) (time_ends, height_of glyph)

abbrev pub rows_text : List ℕ
rows_text = flat_map row_text rows

-- ---- the lanes of workers

-- a lane: the number of its worker, and its foot
abbrev pub lane_text : ℕ → List ℕ
lane_text worker =
    label_text face.Row 100 (lane_top worker + 15) (codes "worker " ++ decimal worker)
    ++ segment_text stroke.Lane (time_begins, lane_top worker + 25) (time_ends, lane_top worker + 25)

abbrev pub lanes_text : ℕ → List ℕ
lanes_text workers = flat_map lane_text (range_with_len 0 workers)

-- ---- the axis of time

-- the sign of a unit, as plans have it
abbrev pub unit_text : TimeUnit → List ℕ
unit_text unit.Ns = codes "ns"
unit_text unit.Us = codes "us"
unit_text unit.Ms = codes "ms"
unit_text unit.S = codes "s"
unit_text unit.Min = codes "min"
unit_text unit.Hour = codes "h"
unit_text unit.Day = codes "d"

-- a round moment
abbrev pub moment_text : Tick → List ℕ
moment_text tick = decimal tick.count ++ (codes " " ++ unit_text tick.unit)

-- a tick of a picture with so many workers: a line through all lanes, and its moment below
abbrev pub tick_text : Window → ℕ → Tick → List ℕ
tick_text window workers tick =
    segment_text stroke.Grid (across window tick.moment, 50) (across window tick.moment, axis_top workers)
    ++ label_text face.Tick (across window tick.moment) (axis_top workers + 16) (moment_text tick)

abbrev pub axis_text : Window → ℕ → List Tick → List ℕ
axis_text window workers ticks = flat_map (tick_text window workers) ticks ++ segment_text stroke.Axis (time_begins, axis_top workers) (time_ends, axis_top workers)
