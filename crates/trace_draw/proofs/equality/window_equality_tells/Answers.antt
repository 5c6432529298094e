use Rattle.std.proofs.Common.{◌==◌, ◌∙◌, ap}
use Rattle.std.specs.Prelude.{◌&&◌}
use Rattle.std.proofs.lemmas.Bool.{and_parts, eqb-true, eq-eqb}
use Rattle.trace_draw.specs.declared.window.Window.{Window}
use Rattle.trace_draw.proofs.SameWindows.{same_window}
use Rattle.trace_draw.proofs.equality.window_equality_tells.Goals as goal

pub returns : goal.returns
returns c = λ a b. (
  λ is. let both = and_parts (a.from == b.from) (a.to == b.to) is in same_window a b (eqb-true a.from b.from both.0) (eqb-true a.to b.to both.1),
  λ same.
      ap (λ t. t && (a.to == b.to)) (eq-eqb a.from b.from (ap (λ (w : Window). w.from) same)) ∙ eq-eqb a.to b.to (ap (λ (w : Window). w.to) same),
)
