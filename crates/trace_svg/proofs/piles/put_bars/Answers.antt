use Rattle.std.proofs.Common.{◌≡◌, List, ℕ, ◌++◌, map, string_bytes, subst, sym, refl}
use Rattle.std.specs.Prelude.{OnOk, flat_map}
use Rattle.std.specs.List.{range_with_len}
use Rattle.trace_svg.specs.Piles.{pile_text, piles_in, piles_of}
use Rattle.trace_svg.proofs.Groups.{parts_of_parts}
use Rattle.trace_svg.proofs.piles.put_bars.Goals as goal

pub returns : goal.returns
unfolding piles_of
returns g c =
    let write = pile_text c.args.window (map (λ n. n.now) c.args.names.now) in
    let piles = λ (worker : ℕ). piles_in c.args.window worker c.args.bars.now in
    subst (λ (t : List ℕ). OnOk c.put_lanes.result (string_bytes c.put_lanes.new.text ≡ string_bytes c.args.text.now ++ t))
    (sym (parts_of_parts write piles (λ worker. flat_map write (piles worker)) (λ worker. refl) (range_with_len 0 256))) c.put_lanes.ensures
