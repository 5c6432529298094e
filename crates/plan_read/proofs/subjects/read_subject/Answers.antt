use Rattle.std.proofs.Common.{refl}
use Rattle.toml.specs.View.{table_view}
use Rattle.plan_read.specs.declared.verbs.Verb.TheVariants as verbs
use Rattle.plan_read.proofs.GivenKeys.{name_given}
use Rattle.plan_read.proofs.subjects.read_subject.Goals as goal

pub read_new_name-requires : goal.read_new_name-requires
read_new_name-requires g c = name_given verbs.Schedule (table_view c.args.row.now.table.now) refl (rw c.in-Schedule.is at c.requires)

pub read_new_name-requires-in-Execute : goal.read_new_name-requires-in-Execute
read_new_name-requires-in-Execute g c = name_given verbs.Execute (table_view c.args.row.now.table.now) refl (rw c.in-Execute.is at c.requires)

pub read_new_name-requires-in-Rate : goal.read_new_name-requires-in-Rate
read_new_name-requires-in-Rate g c = name_given verbs.Rate (table_view c.args.row.now.table.now) refl (rw c.in-Rate.is at c.requires)

pub read_new_name-requires-in-Fixed : goal.read_new_name-requires-in-Fixed
read_new_name-requires-in-Fixed g c = name_given verbs.Fixed (table_view c.args.row.now.table.now) refl (rw c.in-Fixed.is at c.requires)

pub read_target-requires : goal.read_target-requires
read_target-requires g c = name_given verbs.Cancel (table_view c.args.row.now.table.now) refl (rw c.in-Cancel.is at c.requires)
