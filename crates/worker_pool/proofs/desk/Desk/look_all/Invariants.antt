use Rattle.std.proofs.Common.{◌≡◌}
use Rattle.std.specs.Prelude.{vec_len, vec_capacity}
use Rattle.worker_pool.specs.Applies.{OnlyMarks, TellsUpTo}
use Rattle.worker_pool.specs.own.Steps.{IsKept, OnlyOwnGrows, OnlyNoted, HasRoom}
use Rattle.worker_pool.proofs.desk.Desk.look_all.Given as goal

-- the tasks below this one were looked at
abbrev pub invariant-loop-task : goal.invariant-loop-task
invariant-loop-task g l = record {
  table : l.self.seat.table ≡ l.fn.self.seat.table;
  kept : IsKept l.self.core l.self.seat.view l.self.happenings.items l.self.lines.items;
  noted : OnlyNoted l.fn.self.core l.self.core l.fn.self.happenings.items l.self.happenings.items;
  own : l.self.seat.view.own ≡ l.fn.self.seat.view.own;
  entries : OnlyMarks l.fn.self.seat.view l.self.seat.view;
  handles : OnlyOwnGrows l.fn.self.seat.view l.self.seat.view;
  tells : TellsUpTo l.self.seat.view l.task;
  room : HasRoom l.self.core (vec_len l.self.lines) (vec_capacity l.self.lines) (vec_len l.self.happenings) (vec_capacity l.self.happenings);
}
