use Rattle.std.proofs.Common.{◌∙◌, refl, arith}
use Rattle.queue_code.specs.Calls.{submits_task}
use Rattle.executor_model.specs.declared.types.Happening.TheVariants as h
use Rattle.executor_model.proofs.Flowing.{how_many-le}
use Rattle.worker_pool.proofs.Growing.{none_for, noted_for_then, same_handles, handles_then}
use Rattle.worker_pool.proofs.Sweeps.{starts_at_none}
use Rattle.worker_pool.proofs.desk.Desk.sweep_all.Goals as goal

pub loop-task-init : goal.loop-task-init
loop-task-init g c =
    let old = c.args.self.now in
    record {
      table = refl;
      upto = starts_at_none old.core old.seat.view old.happenings.items old.lines.items c.requires.kept;
      handles = same_handles old.seat.view;
      noted = none_for old.core old.happenings.items h.Call;
      room = c.requires.room;
    }

pub loop-task-preserved : goal.loop-task-preserved
loop-task-preserved g c =
    let was = c.loop-task.invariant in
    let first = c.args.self.now in
    let old = c.loop-task.self in
    let new = c.sweep_one.new.self in
    let did = c.sweep_one.ensures in
    record {
      table = did.table ∙ was.table;
      upto = did.upto first.seat.view.own was.upto;
      handles = handles_then first.seat.view old.seat.view new.seat.view was.handles did.handles;
      noted = noted_for_then first.core old.core new.core first.happenings.items old.happenings.items new.happenings.items h.Call was.noted did.noted;
      room = did.room;
    }

pub overflow_cast-task-end : goal.overflow_cast-task-end
overflow_cast-task-end g c =
    let few = c.requires.kept.orderly.0 in
    let low = how_many-le (λ p. submits_task p.1) c.args.self.now.core.calls in
    omega (arith, few, low, c.tasks-tasks.ensures)
