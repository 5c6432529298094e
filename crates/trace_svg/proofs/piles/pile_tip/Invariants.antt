use Rattle.std.proofs.Common.{◌≡◌, ◌++◌, drop, map, string_bytes}
use Rattle.std.specs.Prelude.{flat_map}
use Rattle.trace_svg.specs.Piles.{pile_tip, run_tip}
use Rattle.trace_svg.proofs.piles.pile_tip.Given as goal

-- the text, and the tooltips of the runs that are left, are the whole
abbrev pub invariant-loop-bar : goal.invariant-loop-bar
invariant-loop-bar g l = string_bytes l.tip ++ flat_map (run_tip (map (λ n. n.now) l.names)) (drop l.bar-index l.pile) ≡ pile_tip (map (λ n. n.now) l.names) l.pile
