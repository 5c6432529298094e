use Rattle.std.proofs.Common.{◌≡◌}
use Rattle.std.specs.Prelude.{vec_len, vec_capacity}
use Rattle.executor_model.specs.declared.types.Happening.TheVariants as h
use Rattle.worker_pool.specs.own.Steps.{SweepsUpTo, OnlyOwnGrows, NotedFor, HasRoom}
use Rattle.worker_pool.proofs.desk.Desk.sweep_all.Given as goal

-- the tasks below this one were looked at
abbrev pub invariant-loop-task : goal.invariant-loop-task
invariant-loop-task g l = record {
  table : l.self.seat.table ≡ l.fn.self.seat.table;
  upto : SweepsUpTo l.fn.self.seat.view.own l.self.core l.self.seat.view l.self.happenings.items l.self.lines.items l.task;
  handles : OnlyOwnGrows l.fn.self.seat.view l.self.seat.view;
  noted : NotedFor l.fn.self.core l.self.core l.fn.self.happenings.items l.self.happenings.items h.Call;
  room : HasRoom l.self.core (vec_len l.self.lines) (vec_capacity l.self.lines) (vec_len l.self.happenings) (vec_capacity l.self.happenings);
}
