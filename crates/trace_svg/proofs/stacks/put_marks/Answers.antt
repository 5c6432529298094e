use Rattle.std.proofs.Common.{◌≡◌, List, ℕ, ◌++◌, string_bytes, subst, sym, refl}
use Rattle.std.specs.Prelude.{OnOk, flat_map}
use Rattle.trace_svg.specs.declared.elements.words.Glyph.{Glyph}
use Rattle.trace_svg.specs.Keys.{rows}
use Rattle.trace_svg.specs.Stacks.{stack_text, stacks_in}
use Rattle.trace_svg.proofs.Groups.{parts_of_parts}
use Rattle.trace_svg.proofs.stacks.put_marks.Goals as goal

pub returns : goal.returns
returns g c =
    let write = stack_text c.args.window in
    let stacks = λ (row : Glyph). stacks_in c.args.window row c.args.lines.now in
    subst (λ (t : List ℕ). OnOk c.put_rows.result (string_bytes c.put_rows.new.text ≡ string_bytes c.args.text.now ++ t))
    (sym (parts_of_parts write stacks (λ row. flat_map write (stacks row)) (λ row. refl) rows)) c.put_rows.ensures
