use Rattle.std.proofs.Common.{string_bytes}
use Rattle.plan_read.proofs.MigratingText.{migrates_writes, printed_writes, one_migrated, never_fails}
use Rattle.plan_read.proofs.migrating.migrate.Goals as goal

pub returns-in-Ok-clause-only : goal.returns-in-Ok-clause-only
returns-in-Ok-clause-only g c = λ printed m. one_migrated c.args.text.now (string_bytes c.in-Ok.migrated) printed c.in-Ok.ensures.1 c.in-Ok.ensures.0 m

pub returns-in-Ok-clause-plan : goal.returns-in-Ok-clause-plan
returns-in-Ok-clause-plan g c =
    let m = c.in-Ok.ensures.0 in
    (m.plan, migrates_writes c.args.text.now (string_bytes c.in-Ok.migrated) m, printed_writes c.args.text.now (string_bytes c.in-Ok.migrated) m)

pub returns-in-Err-Fault-clause-only : goal.returns-in-Err-Fault-clause-only
returns-in-Err-Fault-clause-only g c = λ printed m. absurd ((rw c.in-Err-Fault.field-0-is at c.in-Err-Fault.ensures).1 printed m)

pub returns-in-Ok-clause-faultless : goal.returns-in-Ok-clause-faultless
returns-in-Ok-clause-faultless g c = λ fault fails. never_fails c.args.text.now (string_bytes c.in-Ok.migrated) fault c.in-Ok.ensures.1 c.in-Ok.ensures.0 fails
