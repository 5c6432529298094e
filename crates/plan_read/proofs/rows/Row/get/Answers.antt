use Rattle.std.proofs.Common.{◌∙◌, ap, sym, option_map, get_or, rules}
use Rattle.std.proofs.lemmas.List.{get_or_read}
use Rattle.std.specs.Prelude.{None}
use Rattle.toml.specs.View.{view}
use Rattle.toml.proofs.Views.{table_get}
use Rattle.plan_read.specs.own.Rows.{word_of}
use Rattle.plan_read.proofs.rows.Row.get.Goals as goal

pub returns : goal.returns
returns c =
    let row = c.args.self.now in
    let read = get_or_read row.slots.now c.place.result c.index-slots-place.result (search rules) c.index-slots-place.is None ∙ ap (λ i. get_or row.slots.now i None) c.place.ensures.value in
    ap (option_map (λ v. view v.now)) (sym c.index-slots-place.is) ∙ table_get c.index-slots-place.result (word_of c.args.name) row.table.now.entries (ap (option_map (λ v. v.now)) read ∙ row.held c.args.name)
