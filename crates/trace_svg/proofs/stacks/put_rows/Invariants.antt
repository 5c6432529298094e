use Rattle.std.proofs.Common.{◌≡◌, ℕ, List, ◌++◌, drop, string_bytes}
use Rattle.std.specs.Prelude.{flat_map}
use Rattle.trace_svg.specs.declared.elements.words.Glyph.{Glyph}
use Rattle.trace_svg.specs.Stacks.{stack_text, stacks_in}
use Rattle.trace_svg.proofs.stacks.put_rows.Given as goal

-- the text, and the rows that are left, are the whole
abbrev pub invariant-loop-row : goal.invariant-loop-row
invariant-loop-row g l =
    let write : Glyph → List ℕ = λ row. flat_map (stack_text l.window) (stacks_in l.window row l.lines) in
    string_bytes l.text ++ flat_map write (drop l.row-index l.rows) ≡ string_bytes l.fn.text ++ flat_map write l.rows
