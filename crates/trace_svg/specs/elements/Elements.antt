-- The elements of a picture, each on a line of its own (Scalable Vector Graphics 2: `rect`, `use`, `line`, `text`, `title`, `svg`).
-- Lengths are whole numbers, in pixels. A text is grouped to the right.
use Rattle.std.specs.Prelude.{ℕ, List, ◌++◌, codes}
use Rattle.std.specs.Fmt.{decimal}
use Rattle.trace_svg.specs.declared.elements.document.TheConstants.{GLYPHS, STYLE}
use Rattle.trace_svg.specs.declared.elements.words.Fill.{Fill}
use Rattle.trace_svg.specs.declared.elements.words.Glyph.{Glyph}
use Rattle.trace_svg.specs.declared.elements.words.Stroke.{Stroke}
use Rattle.trace_svg.specs.declared.elements.words.Face.{Face}
use Rattle.trace_svg.specs.elements.Escapes.{escaped}
use Rattle.trace_svg.specs.elements.Words.{face_word, fill_word, glyph_word, stroke_word}

-- a filled rectangle: its left and upper side, its width and height, and its tooltip
abbrev pub rectangle_text : Fill → ℕ → ℕ → ℕ → ℕ → List ℕ → List ℕ
rectangle_text fill left top width height tip =
    codes "<rect class=\"" ++ (fill_word fill ++ (codes "\" x=\"" ++ (decimal left ++ (codes "\" y=\"" ++ (decimal top ++ (codes "\" width=\"" ++ (decimal width ++ (codes "\" height=\"" ++ (decimal height
    ++ (codes "\"><title>" ++ (escaped tip ++ codes "</title></rect>\n")))))))))))

-- a mark: its shape, the place of its middle, and its tooltip
abbrev pub mark_text : Glyph → ℕ → ℕ → List ℕ → List ℕ
mark_text glyph x y tip =
    codes "<use class=\"" ++ (glyph_word glyph ++ (codes "\" href=\"#" ++ (glyph_word glyph ++ (codes "\" x=\"" ++ (decimal x ++ (codes "\" y=\"" ++ (decimal y
    ++ (codes "\"><title>" ++ (escaped tip ++ codes "</title></use>\n")))))))))

-- a straight line between two places
abbrev pub segment_text : Stroke → ℕ × ℕ → ℕ × ℕ → List ℕ
segment_text stroke from to =
    codes "<line class=\"" ++ (stroke_word stroke ++ (codes "\" x1=\"" ++ (decimal from.0 ++ (codes "\" y1=\"" ++ (decimal from.1 ++ (codes "\" x2=\"" ++ (decimal to.0 ++ (codes "\" y2=\"" ++ (decimal to.1 ++ codes "\"/>\n")))))))))

-- a text at a place
abbrev pub label_text : Face → ℕ → ℕ → List ℕ → List ℕ
label_text face x y text =
    codes "<text class=\"" ++ (face_word face ++ (codes "\" x=\"" ++ (decimal x ++ (codes "\" y=\"" ++ (decimal y ++ (codes "\">" ++ (escaped text ++ codes "</text>\n")))))))

-- how a document begins: its width and height, the style sheet and the shapes of marks
abbrev pub opening_text : ℕ → ℕ → List ℕ
opening_text width height =
    codes "<svg xmlns=\"http://www.w3.org/2000/svg\" width=\"" ++ (decimal width ++ (codes "\" height=\"" ++ (decimal height ++ (codes "\" viewBox=\"0 0 " ++ (decimal width ++ (codes " " ++ (decimal height
    ++ (codes "\">\n" ++ (STYLE.now ++ GLYPHS.now)))))))))

-- how it ends
abbrev pub closing_text : List ℕ
closing_text = codes "</svg>\n"
