use Rattle.std.proofs.Common.{◌≡◌}
use Rattle.std.specs.Prelude.{vec_len, vec_capacity}
use Rattle.executor_core.specs.CoreView.{IsCounted, room_of}
use Rattle.worker_pool.specs.own.Steps.{IsKept, HasRoom, OnlyOwnGrows, NotedFor, Comes}
use Rattle.worker_pool.proofs.desk.Desk.take_last.Given as goal

-- cancels alone were noted, and the event comes next
abbrev pub invariant-loop-happening : goal.invariant-loop-happening
invariant-loop-happening g l = record {
  table : l.self.seat.table ≡ l.fn.self.seat.table;
  kept : IsKept l.self.core l.self.seat.view l.self.happenings.items l.self.lines.items;
  handles : OnlyOwnGrows l.fn.self.seat.view l.self.seat.view;
  counted : IsCounted l.self.core;
  room : HasRoom l.self.core (vec_len l.self.lines) (vec_capacity l.self.lines) (vec_len l.self.happenings) (vec_capacity l.self.happenings);
  comes : Comes l.self.core l.happening;
  noted : NotedFor l.fn.self.core l.self.core l.fn.self.happenings.items l.self.happenings.items l.happening;
  own : l.self.seat.view.own ≡ l.fn.self.seat.view.own;
}

abbrev pub decreases-loop-happening : goal.decreases-loop-happening
decreases-loop-happening g l = room_of l.self.core
