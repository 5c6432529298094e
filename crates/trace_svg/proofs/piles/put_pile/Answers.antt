use Rattle.std.proofs.Common.{◌≡◌, ℕ, List, ◌++◌, map, string_bytes, subst}
use Rattle.std.specs.Prelude.{OnOk}
use Rattle.trace_svg.proofs.Several.{no_pile, lone_bar, several_bars}
use Rattle.trace_svg.proofs.piles.put_pile.Goals as goal

pub returns-in-empty : goal.returns-in-empty
returns-in-empty g c = no_pile c.args.window (map (λ n. n.now) c.args.names.now) c.args.pile.now (string_bytes c.args.text.now) c.in-empty.len_below

pub returns-in-len1 : goal.returns-in-len1
returns-in-len1 g c =
    subst (λ (t : List ℕ). OnOk c.put_bar.result (string_bytes c.put_bar.new.text ≡ string_bytes c.args.text.now ++ t))
    (lone_bar c.args.window (map (λ n. n.now) c.args.names.now) c.args.pile.now _ c.in-len1.len_at_least c.in-len1.len_below) c.put_bar.ensures

pub returns-in_default : goal.returns-in_default
returns-in_default g c =
    subst (λ (t : List ℕ). OnOk c.put_several.result (string_bytes c.put_several.new.text ≡ string_bytes c.args.text.now ++ t))
    (several_bars c.args.window (map (λ n. n.now) c.args.names.now) c.args.pile.now c.in_default.len_at_least) c.put_several.ensures
