use Rattle.std.proofs.Common.{◌≡◌, ℕ, List, ◌-◌, ◌++◌, map, string_bytes}
use Rattle.std.specs.Prelude.{flat_map}
use Rattle.std.specs.List.{range_with_len}
use Rattle.trace_svg.specs.Piles.{pile_text, piles_in}
use Rattle.trace_svg.proofs.piles.put_lanes.Given as goal

-- the text, and the lanes that are left, are the whole
abbrev pub invariant-loop-worker : goal.invariant-loop-worker
invariant-loop-worker g l =
    let write : ℕ → List ℕ = λ worker. flat_map (pile_text l.window (map (λ n. n.now) l.names)) (piles_in l.window worker l.bars) in
    string_bytes l.text ++ flat_map write (range_with_len l.worker (l.lanes - l.worker)) ≡ string_bytes l.fn.text ++ flat_map write (range_with_len 0 l.lanes)
