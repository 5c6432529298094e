use Rattle.std.proofs.Common.{◌≡◌, ◌∷◌, map, string_bytes, sym, ap₂, ◌∙◌}
use Rattle.trace_svg.specs.Groups.{groups_of}
use Rattle.trace_svg.specs.Piles.{lies_on, pile_text}
use Rattle.trace_svg.proofs.Groups.{one_written}
use Rattle.trace_svg.proofs.piles.put_piles.Goals as goal

pub loop-rest-preserved : goal.loop-rest-preserved
loop-rest-preserved g c =
    let joins = lies_on c.args.window in
    let cut : groups_of joins c.loop-rest.rest.now ≡ c.split_at.result.0.now ∷ groups_of joins c.split_at.result.1.now =
    c.pile_len.ensures.pile ∙ ap₂ (λ front behind. front ∷ groups_of joins behind) (sym c.split_at.ensures.front) (sym c.split_at.ensures.back) in
    one_written joins (pile_text c.args.window (map (λ n. n.now) c.args.names.now)) (string_bytes c.loop-rest.text) (string_bytes c.put_pile.new.text) _
    c.loop-rest.rest.now c.split_at.result.0.now c.split_at.result.1.now cut c.in_ok-put_pile.ensures c.loop-rest.invariant
