use Rattle.std.proofs.Common.{◌≡◌, ◌∙◌, Bool, is_some, rules, tests}
use Rattle.std.proofs.lemmas.Iterator.{YieldsList-from_slice}
use Rattle.std.proofs.lemmas.Iterator.Consumers.{YieldsList-from_filter, count_from_yields_List}
use Rattle.std.proofs.lemmas.List.Sums.{length-filter}
use Rattle.toml.specs.Data.{get_member}
use Rattle.toml.specs.View.{table_view}
use Rattle.plan_read.specs.Keys.{Key}
use Rattle.plan_read.specs.own.Rows.{key_as_defined, as_defined}
use Rattle.plan_read.proofs.KeyCounts.{there, only_these, count_as_defined}
use Rattle.plan_read.proofs.keys.has_only.Goals as goal

pub returns : goal.returns
returns c =
    let table = c.args.row.now.table.now in
    let keys = c.args.keys.now in
    let test : Key → Bool = λ k. is_some (get_member k.name (table_view table)) in
    let counted : c.count.result ≡ there (as_defined keys) (table_view table) =
    count_from_yields_List c.filter.result c.count.result c.count.ensures.ran (YieldsList-from_filter _ (λ k. test (key_as_defined k)) (YieldsList-from_slice keys cc) c.filter.ensures.closure (λ x b q k. search (rules, tests)))
    ∙ length-filter (λ k. test (key_as_defined k)) keys
    ∙ count_as_defined test keys in
    rw (counted, c.len.ensures.len) (only_these (as_defined keys) table.entries c.requires c.len.ensures.ordered)
