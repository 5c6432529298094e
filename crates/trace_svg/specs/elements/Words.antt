-- The words that the style sheet knows (this project's rule).
use Rattle.std.specs.Prelude.{ℕ, List, codes}
use Rattle.trace_svg.specs.declared.elements.words.Fill.{Fill}
use Rattle.trace_svg.specs.declared.elements.words.Fill.TheVariants as fill
use Rattle.trace_svg.specs.declared.elements.words.Glyph.{Glyph}
use Rattle.trace_svg.specs.declared.elements.words.Glyph.TheVariants as glyph
use Rattle.trace_svg.specs.declared.elements.words.Stroke.{Stroke}
use Rattle.trace_svg.specs.declared.elements.words.Stroke.TheVariants as stroke
use Rattle.trace_svg.specs.declared.elements.words.Face.{Face}
use Rattle.trace_svg.specs.declared.elements.words.Face.TheVariants as face

-- how a run ended
abbrev pub fill_word : Fill → List ℕ
fill_word fill.Done = codes "done"
fill_word fill.Failed = codes "failed"
fill_word fill.Again = codes "again"
fill_word fill.Dropped = codes "dropped"
fill_word fill.Ended = codes "ended"
fill_word fill.Open = codes "open"

-- what a mark stands for
abbrev pub glyph_word : Glyph → List ℕ
glyph_word glyph.Submit = codes "submit"
glyph_word glyph.Refuse = codes "refuse"
glyph_word glyph.Cancel = codes "cancel"
glyph_word glyph.Outside = codes "outside"
glyph_word glyph.End = codes "end"
glyph_word glyph.Policy = codes "policy"
glyph_word glyph.Shutdown = codes "shutdown"
glyph_word glyph.Ask = codes "ask"
glyph_word glyph.Clock = codes "clock"
glyph_word glyph.Idle = codes "idle"
glyph_word glyph.Error = codes "error"

-- what a line stands for
abbrev pub stroke_word : Stroke → List ℕ
stroke_word stroke.Grid = codes "grid"
stroke_word stroke.Lane = codes "lane"
stroke_word stroke.Axis = codes "axis"

-- what a label tells
abbrev pub face_word : Face → List ℕ
face_word face.Row = codes "row"
face_word face.Tick = codes "tick"
face_word face.Run = codes "run"
face_word face.Key = codes "key"
face_word face.Count = codes "count"
