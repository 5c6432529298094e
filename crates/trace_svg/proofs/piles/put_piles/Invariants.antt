use Rattle.std.proofs.Common.{◌≡◌, ◌++◌, length, map, string_bytes}
use Rattle.std.specs.Prelude.{flat_map}
use Rattle.trace_svg.specs.Groups.{groups_of}
use Rattle.trace_svg.specs.Piles.{lies_on, pile_text}
use Rattle.trace_svg.proofs.piles.put_piles.Given as goal

-- the text, and the piles that are left, are the whole
abbrev pub invariant-loop-rest : goal.invariant-loop-rest
invariant-loop-rest g l =
    let write = pile_text l.window (map (λ n. n.now) l.names) in
    string_bytes l.text ++ flat_map write (groups_of (lies_on l.window) l.rest) ≡ string_bytes l.fn.text ++ flat_map write (groups_of (lies_on l.window) l.fn.lane)

abbrev pub decreases-loop-rest : goal.decreases-loop-rest
decreases-loop-rest g l = length l.rest
