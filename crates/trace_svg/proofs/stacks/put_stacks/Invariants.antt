use Rattle.std.proofs.Common.{◌≡◌, ◌++◌, length, string_bytes}
use Rattle.std.specs.Prelude.{flat_map}
use Rattle.trace_svg.specs.Groups.{groups_of}
use Rattle.trace_svg.specs.Stacks.{stack_text, stands_on}
use Rattle.trace_svg.proofs.stacks.put_stacks.Given as goal

-- the text, and the stacks that are left, are the whole
abbrev pub invariant-loop-rest : goal.invariant-loop-rest
invariant-loop-rest g l =
    string_bytes l.text ++ flat_map (stack_text l.window) (groups_of (stands_on l.window) l.rest) ≡ string_bytes l.fn.text ++ flat_map (stack_text l.window) (groups_of (stands_on l.window) l.fn.marks)

abbrev pub decreases-loop-rest : goal.decreases-loop-rest
decreases-loop-rest g l = length l.rest
