use Rattle.std.proofs.Common.{◌≡◌, ◌++◌, List}
use Rattle.std.specs.Prelude.{vec_len, vec_capacity}
use Rattle.executor_model.specs.declared.types.Happening.{Happening}
use Rattle.executor_core.specs.CoreView.{IsCounted, room_of}
use Rattle.worker_pool.specs.own.Steps.{IsKept, HasRoom, SamePlan, OnlyOwnGrows, part_in}
use Rattle.worker_pool.proofs.Growing.{PassesBefore}
use Rattle.worker_pool.proofs.desk.Desk.make_calls.Given as goal

-- some calls of the event's part were made, and the rest of the part is left
abbrev pub invariant-loop-event : goal.invariant-loop-event
invariant-loop-event g l = record {
  table : l.self.seat.table ≡ l.fn.self.seat.table;
  kept : IsKept l.self.core l.self.seat.view l.self.happenings.items l.self.lines.items;
  same : SamePlan l.fn.self.core l.self.core;
  handles : OnlyOwnGrows l.fn.self.seat.view l.self.seat.view;
  counted : IsCounted l.self.core;
  room : HasRoom l.self.core (vec_len l.self.lines) (vec_capacity l.self.lines) (vec_len l.self.happenings) (vec_capacity l.self.happenings);
  passed : (more : List Happening) × PassesBefore l.fn.self.core l.self.core l.fn.self.seat.view.own l.self.seat.view.own l.fn.self.happenings.items l.self.happenings.items l.event more
      × (part_in l.fn.self.core l.event ≡ part_in l.self.core l.event ++ more);
}

abbrev pub decreases-loop-event : goal.decreases-loop-event
decreases-loop-event g l = room_of l.self.core
