use Rattle.std.proofs.Common.{rules, ◌≡◌, ℕ, List, ◌++◌, refl, sym, ap, ◌∙◌}
use Rattle.std.specs.Prelude.{unwrap_or}
use Rattle.std.proofs.Output.{has_written_append}
use Rattle.std.specs.Str.Iter.{chars_rest}
use lib.Utf8.{encode}
use Rattle.trace_svg.specs.elements.Escapes.{escaped, reference_of}
use Rattle.trace_svg.proofs.elements.Characters.{one_more}
use Rattle.trace_svg.proofs.elements.escaped.EscapedDisplay.fmt.Goals as goal

pub loop-c-preserved-in-Continue-1 : goal.loop-c-preserved-in-Continue-1
loop-c-preserved-in-Continue-1 g c =
    let char = c.in-Some.c in
    let text : unwrap_or (reference_of char) (encode char) ≡ c.in-Some-reference.text.now = rw (← c.reference.ensures, c.in-Some-reference.is) refl in (
      search rules,
      tt,
      λ plain.
          let so_far = c.loop-c.invariant.2 plain in (
            so_far.0 ++ c.in-Some-reference.text.now,
            has_written_append _ _ _ _ _ _ so_far.1 (search rules),
            rw (← text) (one_more char c.args.self.now.0.now so_far.0 (chars_rest c.loop-c.c-iterator) (chars_rest c.next.new.self) c.in-Some.ensures.steps.0 so_far.2),
          ),
    )

pub loop-c-preserved : goal.loop-c-preserved
loop-c-preserved g c =
    let char = c.in-Some.c in
    let text : unwrap_or (reference_of char) (encode char) ≡ encode char = rw (← c.reference.ensures, c.in-None-reference.is) refl in (
      search rules,
      tt,
      λ plain.
          let so_far = c.loop-c.invariant.2 plain in (
            so_far.0 ++ encode char,
            has_written_append _ _ _ _ _ _ so_far.1 (search rules),
            ap (λ (l : List ℕ). (so_far.0 ++ l) ++ escaped (chars_rest c.next.new.self)) (sym text)
                ∙ one_more char c.args.self.now.0.now so_far.0 (chars_rest c.loop-c.c-iterator) (chars_rest c.next.new.self) c.in-Some.ensures.steps.0 so_far.2,
          ),
    )
