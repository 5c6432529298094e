use Rattle.std.proofs.Common.{◌≡◌, ◌++◌, drop, string_bytes}
use Rattle.std.specs.Prelude.{flat_map}
use Rattle.trace_text.specs.Spelling.{line_text}
use Rattle.trace_svg.proofs.stacks.stack_tip.Given as goal

-- the text, and the lines that are left, are the whole
abbrev pub invariant-loop-line : goal.invariant-loop-line
invariant-loop-line g l = string_bytes l.tip ++ flat_map line_text (drop l.line-index l.stack) ≡ flat_map line_text l.stack
