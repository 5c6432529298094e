use Rattle.plan_read.specs.Migrating.{migrated, in_nanoseconds}
use Rattle.plan_read.specs.Texts.{text_checks}
use Rattle.plan_read.specs.declared.versions.Version.TheVariants.{One, Two}
use Rattle.plan_compile.proofs.laws.migrated_texts_call_the_same.Goals as goal

pub returns : goal.returns
unfolding text_checks
returns c = λ text printed m. record {
  plan = m.plan;
  other = in_nanoseconds m.plan;
  writes = record { tree = m.tree; parsed = m.parsed; writes = (One, m.writes) };
  writes_other = record { tree = migrated m.tree; parsed = (m.short, (m.reads, tt)); writes = (Two, c.migrated_trees_write.ensures m.tree m.plan m.writes) };
  same = c.units_make_no_calls.ensures m.plan;
}
