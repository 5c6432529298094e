use Rattle.std.proofs.Common.{◌∙◌, ap}
use Rattle.toml.specs.Data.{as_table}
use Rattle.toml.specs.View.{view}
use Rattle.plan_reasons.proofs.Numbered.{numbered_past, numbered_within, numbered_zero}
use Rattle.plan_reasons.proofs.scene.table_in.Goals as goal
use Rattle.plan_reasons.proofs.scene.table_in.Goals.{then-number-eq0-via-then-number-eq0, then-number-eq0-via-else-number-eq0+then-tables-number}

pub returns-then-number-eq0 : goal.returns-then-number-eq0
returns-then-number-eq0 c = elim c.then-number-eq0.branch [
  | then-number-eq0-via-then-number-eq0 w ↦ numbered_zero c.args.number c.args.tables.now w.if-number-eq0.true
  | then-number-eq0-via-else-number-eq0+then-tables-number w ↦ numbered_past c.args.number c.args.tables.now w.if-tables-number.true
]

pub returns : goal.returns
returns c =
    c.as_table.ensures ∙ ap (λ v. as_table (view v)) c.index-tables-number.is
    ∙ numbered_within c.args.number c.args.tables.now c.index-tables-number.result c.if-number-eq0.false c.if-tables-number.false
