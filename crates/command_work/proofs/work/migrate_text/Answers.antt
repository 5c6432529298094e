use Rattle.std.proofs.Common.{refl, Ok, Err}
use Rattle.command_work.specs.declared.error.ProgramError.TheVariants.{Run}
use Rattle.sched_engine.specs.declared.report.RunError.TheVariants as x
use Rattle.command_work.proofs.Orders.{migrate_done, migrate_wrong_plan}
use Rattle.command_work.proofs.work.migrate_text.Goals as goal

pub returns-in-Err-clause-answers : goal.returns-in-Err-clause-answers
returns-in-Err-clause-answers g c = migrate_wrong_plan c.args.text.now c.in-Err.fault c.from.result (g.W.Sink.contents c.args.writer.now) c.in-Err.ensures.fault c.from.ensures

pub returns-then-not-write_text-clause-answers : goal.returns-then-not-write_text-clause-answers
returns-then-not-write_text-clause-answers g c =
    let migrates = c.in-Ok.ensures.migrated in
    let front = rw c.as_bytes.ensures.value at c.if-not-write_text.ensures.bytes in
    migrate_done c.args.text.now (Err (Run x.Write)) _ _ c.in-Ok.ensures.faultless (_, migrates, front.0, front.2)

pub returns-clause-answers : goal.returns-clause-answers
returns-clause-answers g c =
    let migrates = c.in-Ok.ensures.migrated in
    migrate_done c.args.text.now (Ok 0) _ _ c.in-Ok.ensures.faultless (_, migrates, refl, rw c.as_bytes.ensures.value at c.if-not-write_text.ensures.bytes)
