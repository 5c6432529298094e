use Rattle.std.proofs.Common.{◌≡◌, ◌++◌, drop, string_bytes}
use Rattle.std.specs.Prelude.{flat_map}
use Rattle.trace_svg.specs.Runs.{line_mark}
use Rattle.trace_svg.proofs.stacks.put_each_mark.Given as goal

-- the text, and the marks that are left, are the whole
abbrev pub invariant-loop-line : goal.invariant-loop-line
invariant-loop-line g l = string_bytes l.text ++ flat_map (line_mark l.window) (drop l.line-index l.lines) ≡ string_bytes l.fn.text ++ flat_map (line_mark l.window) l.lines
