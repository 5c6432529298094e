use Rattle.std.proofs.Common.{◌≡◌, ℕ, List, ◌++◌, string_bytes, subst}
use Rattle.std.specs.Prelude.{OnOk}
use Rattle.trace_svg.specs.Runs.{bar_text, named_bar_text}
use Rattle.trace_svg.proofs.runs.put_bar.Goals as goal

pub returns : goal.returns
unfolding bar_text
returns g c =
    subst
    (λ (name : List ℕ). OnOk c.put_named_bar.result (string_bytes c.put_named_bar.new.text ≡ string_bytes c.args.text.now ++ named_bar_text c.args.window name c.args.bar.now))
    c.name_of.ensures c.put_named_bar.ensures
