use Rattle.std.proofs.Common.{◌≡◌, All, map, filter, take}
use Rattle.std.specs.Prelude.{IfSome}
use Rattle.toml.specs.View.{table_view}
use Rattle.plan_lines.specs.Lines.{IsLineOf}
use Rattle.plan_warnings.specs.Units.{stays}
use Rattle.plan_warnings.proofs.finding.told_by.Given as goal

abbrev pub invariant-loop-call : goal.invariant-loop-call
invariant-loop-call g l = record {
  text : l.scribe.text.now ≡ l.initial.scribe.text.now;
  tree : l.scribe.tree.now ≡ l.initial.scribe.tree.now;
  told : map (λ w. w.odd) l.warnings.items ≡ filter (stays (table_view l.initial.scribe.tree.now)) (take l.call-index l.odd);
  lines : All (λ w. IfSome w.line (IsLineOf l.initial.scribe.text.now)) l.warnings.items;
}
