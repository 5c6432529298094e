use Rattle.std.proofs.Common.{◌≡◌, length, replicate, refl, ap, arith, rules}
use Rattle.executor_core.proofs.plan_table.Pairs.{blank, vacant_tables}
use Rattle.std.proofs.lemmas.List.{length-replicate}
use Rattle.executor_core.proofs.plan_table.Counting.{vacant_counted}
use Rattle.executor_core.proofs.plan_table.tasks.Tasks.new.Goals as goal

pub returns : goal.returns
returns g c = vacant_tables c.args.count c.vacant.result c.in_ok-from_elem.field-0.items c.in_ok-from_elem-2.field-0.items c.vacant.ensures (c.in_ok-from_elem.ensures.items_if_clones_equal (search rules)) (c.in_ok-from_elem-2.ensures.items_if_clones_equal (search rules))

pub invariant_of-result : goal.invariant_of-result
invariant_of-result g c =
    let words : c.in_ok-from_elem.field-0.items ≡ replicate c.args.count c.vacant.result = c.in_ok-from_elem.ensures.items_if_clones_equal (search rules) in
    let details : c.in_ok-from_elem-2.field-0.items ≡ replicate c.args.count blank = c.in_ok-from_elem-2.ensures.items_if_clones_equal (search rules) in
    vacant_counted c.args.count c.in_ok-from_elem.field-0.items c.in_ok-from_elem-2.field-0.items (record { uncancelled = c.args.count; periodic = 0 }) (omega (arith, ap length words, ap length details, length-replicate c.args.count c.vacant.result, length-replicate c.args.count blank)) (omega (arith, c.ranges.count.fits))
    (vacant_tables c.args.count c.vacant.result c.in_ok-from_elem.field-0.items c.in_ok-from_elem-2.field-0.items c.vacant.ensures words details) refl
