use Rattle.toml.specs.View.{table_view}
use Rattle.plan_reasons.specs.own.Keys.{plan_version}
use Rattle.plan_reasons.proofs.Belonging.{has_keys_of}
use Rattle.plan_reasons.proofs.finding.reason_in_tree.Goals as goal

pub returns-clause-kind : goal.returns-clause-kind
returns-clause-kind c =
    let version = plan_version c.of_number.result in
    let number = c.of_number.ensures in
    c.reason.ensures.kind (table_view c.args.tree.now) version (has_keys_of (table_view c.args.tree.now) version c.integer_at.result number.0 number.1 c.integer_at.ensures.value) c.in_ok-detail.ensures.suits
