use Rattle.std.proofs.Common.{◌∙◌, ap}
use Rattle.toml.specs.Data.{as_table}
use Rattle.toml.specs.View.{view}
use Rattle.plan_warnings.proofs.Numbered.{numbered_past, numbered_within, numbered_zero}
use Rattle.plan_warnings.proofs.units.table_of.Goals as goal
use Rattle.plan_warnings.proofs.units.table_of.Goals.{then-number-eq0-via-then-number-eq0, then-number-eq0-via-else-number-eq0+then-items-number}

pub returns-then-number-eq0 : goal.returns-then-number-eq0
returns-then-number-eq0 c = elim c.then-number-eq0.branch [
  | then-number-eq0-via-then-number-eq0 w ↦ numbered_zero c.args.number c.args.items.now w.if-number-eq0.true
  | then-number-eq0-via-else-number-eq0+then-items-number w ↦ numbered_past c.args.number c.args.items.now w.if-items-number.true
]

pub returns : goal.returns
returns c =
    c.as_table.ensures ∙ ap (λ v. as_table (view v)) c.index-items-number.is
    ∙ numbered_within c.args.number c.args.items.now c.index-items-number.result c.if-number-eq0.false c.if-items-number.false
