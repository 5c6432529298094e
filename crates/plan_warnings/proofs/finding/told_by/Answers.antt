use Rattle.std.proofs.Common.{◌∙◌, ℕ, All, List, subst, sym}
use Rattle.std.specs.Prelude.{IfSome}
use Rattle.toml.specs.View.{table_view}
use Rattle.plan_lines.specs.Lines.{IsLineOf}
use Rattle.plan_warnings.specs.declared.warning.Warning.{Warning}
use Rattle.plan_warnings.specs.Units.{stays}
use Rattle.plan_warnings.proofs.Steps.{passed_more}
use Rattle.plan_warnings.proofs.finding.told_by.Goals as goal

pub loop-call-preserved : goal.loop-call-preserved
loop-call-preserved g c =
    let e = c.in_ok-add_warning.ensures in
    let l = c.loop-call in
    let tree = table_view c.args.scribe.tree.now in
    let AreLines : List ℕ → List Warning → Type 0 = λ text warnings. All (λ (w : Warning). IfSome w.line (IsLineOf text)) warnings in
    record {
      text = e.text ∙ l.invariant.text;
      tree = e.tree ∙ l.invariant.tree;
      told = (rw l.invariant.tree at e.told) ∙ passed_more (stays tree) c.args.odd.now l.call-index _ _ c.loop-call-test.true l.invariant.told;
      lines = subst (λ (t : List ℕ). AreLines t c.add_warning.new.warnings.items) l.invariant.text
          (e.lines (subst (λ (t : List ℕ). AreLines t l.warnings.items) (sym l.invariant.text) l.invariant.lines));
    }
