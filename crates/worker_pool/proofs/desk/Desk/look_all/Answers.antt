use Rattle.std.proofs.Common.{◌∙◌, inl, refl, arith}
use Rattle.queue_code.specs.Calls.{submits_task}
use Rattle.executor_model.proofs.Flowing.{how_many-le}
use Rattle.worker_pool.proofs.Growing.{nothing_noted, noted_then, same_handles, handles_then}
use Rattle.worker_pool.proofs.Looking.{marks_then}
use Rattle.worker_pool.proofs.desk.Desk.look_all.Goals as goal

pub overflow_cast-task-end : goal.overflow_cast-task-end
overflow_cast-task-end g c =
    let few = c.requires.kept.orderly.0 in
    let low = how_many-le (λ p. submits_task p.1) c.args.self.now.core.calls in
    omega (arith, few, low, c.tasks-tasks.ensures)

pub loop-task-init : goal.loop-task-init
loop-task-init g c =
    let old = c.args.self.now in
    record {
      table = refl;
      kept = c.requires.kept;
      noted = nothing_noted old.core old.happenings.items;
      own = refl;
      entries = λ k. inl refl;
      handles = same_handles old.seat.view;
      tells = λ k l. absurd (omega (arith, l));
      room = c.requires.room;
    }

pub loop-task-preserved : goal.loop-task-preserved
loop-task-preserved g c =
    let was = c.loop-task.invariant in
    let first = c.args.self.now in
    let old = c.loop-task.self in
    let new = c.look_one.new.self in
    let did = c.look_one.ensures in
    record {
      table = did.table ∙ was.table;
      kept = did.kept;
      noted = noted_then first.core old.core new.core first.happenings.items old.happenings.items new.happenings.items was.noted did.noted;
      own = did.own ∙ was.own;
      entries = marks_then first.seat.view old.seat.view new.seat.view was.entries did.entries;
      handles = handles_then first.seat.view old.seat.view new.seat.view was.handles did.handles;
      tells = did.tells was.tells;
      room = did.room;
    }
