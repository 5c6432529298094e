use Rattle.plan_read.proofs.MigratingTables.{inserted_at_key}
use Rattle.call_journal.proofs.entries.put.Goals as goal

pub returns : goal.returns
returns c = inserted_at_key c.args.table.now.entries c.insert.new.self.entries c.in_ok-key.key c.args.key.now c.args.value c.in_ok-insert.ensures.entries c.in_ok-key.ensures.ok
