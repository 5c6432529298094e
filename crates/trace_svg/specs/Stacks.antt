-- The marks of a row that stand at one place: stacks. All of it is this project's rule. A text is grouped to the right.
use Rattle.std.specs.Prelude.{ℕ, ◌+◌, ◌-◌, ◌==◌, Bool, List, [], ◌∷◌, ◌++◌, length, take, drop, filter, flat_map}
use Rattle.std.specs.Fmt.{decimal}
use Rattle.executor_model.specs.declared.types.Line.{Line}
use Rattle.trace_svg.specs.declared.elements.words.Face.TheVariants as face
use Rattle.trace_svg.specs.declared.elements.words.Glyph.{Glyph}
use Rattle.trace_svg.specs.elements.Elements.{label_text}
use Rattle.trace_draw.specs.declared.window.Window.{Window}
use Rattle.trace_text.specs.Spelling.{line_text}
use Rattle.trace_svg.specs.Groups.{groups_of, of_first}
use Rattle.trace_svg.specs.Keys.{rows}
use Rattle.trace_svg.specs.Places.{across, glyph_of, height_of}
use Rattle.trace_svg.specs.Runs.{line_mark, telling_mark}

-- ---- which marks are a stack

-- how high the mark of a line stands
abbrev pub mark_height : Line → ℕ
mark_height line = height_of (glyph_of line.message)

-- where a stack stands, from the left and from the top: where its first mark does
abbrev pub stack_across : Window → List Line → ℕ
stack_across window stack = of_first (λ line. across window line.moment) stack

abbrev pub stack_height : List Line → ℕ
stack_height stack = of_first mark_height stack

-- a mark stands on a stack
abbrev pub stands_on : Window → List Line → Line → Bool
stands_on window stack line = across window line.moment == stack_across window stack

-- the marks of a row, which is that of a kind of marks
abbrev pub marks_in : Glyph → List Line → List Line
marks_in row marks = filter (λ line. mark_height line == height_of row) marks

-- their stacks: a mark that stands where the stack before it does goes to it
abbrev pub stacks_in : Window → Glyph → List Line → List (List Line)
stacks_in window row marks = groups_of (stands_on window) (marks_in row marks)

-- the stacks of all rows
abbrev pub stacks_of : Window → List Line → List (List Line)
stacks_of window marks = flat_map (λ row. stacks_in window row marks) rows

-- ---- how a stack is drawn

-- how many marks a stack has, at its upper right
abbrev pub stack_label : Window → List Line → List ℕ
stack_label window stack = label_text face.Count (stack_across window stack + 6) (stack_height stack - 3) (decimal (length stack))

-- several marks, each above the one before it: the last one, which is the top, tells all their lines
abbrev pub several_text : Window → List Line → List ℕ
several_text window stack =
    flat_map (line_mark window) (take (length stack - 1) stack)
    ++ (flat_map (telling_mark window (flat_map line_text stack)) (drop (length stack - 1) stack)
    ++ stack_label window stack)

-- a stack: a mark alone is drawn as the mark that it is
unfoldable pub stack_text : Window → List Line → List ℕ
stack_text window [] = []
stack_text window (line ∷ []) = line_mark window line
stack_text window (first ∷ next ∷ more) = several_text window (first ∷ next ∷ more)
