use Rattle.std.proofs.Common.{◌≡◌, ◌++◌, drop, string_bytes}
use Rattle.std.specs.Prelude.{flat_map}
use Rattle.trace_svg.specs.Keys.{row_text}
use Rattle.trace_svg.proofs.keys.put_each_row.Given as goal

-- the text, and the rows that are left, are the whole
abbrev pub invariant-loop-glyph : goal.invariant-loop-glyph
invariant-loop-glyph g l = string_bytes l.text ++ flat_map row_text (drop l.glyph-index l.glyphs) ≡ string_bytes l.fn.text ++ flat_map row_text l.glyphs
