use Rattle.std.proofs.Common.{◌≡◌, ◌+◌, ◌-◌, ◌≤◌, ◌++◌, List, length}
use Rattle.std.specs.Prelude.{vec_len, vec_capacity}
use Rattle.executor_model.specs.declared.types.Happening.{Happening}
use Rattle.executor_core.specs.CoreView.{IsCounted, Steps, room_of}
use Rattle.executor_core.proofs.Parts.{part_from}
use Rattle.executor_core.proofs.machine.Core.event.Given as goal

-- some calls of the event's part were made, the rest of the part is left, and there is room for its lines
abbrev pub invariant-loop-self : goal.invariant-loop-self
invariant-loop-self g l = record {
  taken : l.self.taken ≡ l.initial.self.taken;
  counted : IsCounted l.self;
  capacity : vec_capacity l.out ≡ vec_capacity l.initial.out;
  room : vec_len l.out + room_of l.self ≤ vec_capacity l.out;
  few : vec_len l.out + room_of l.self ≤ vec_len l.initial.out + room_of l.initial.self;
  shrinks : room_of l.self ≤ room_of l.fn.self;
  steps : (hs : List Happening) × Steps l.fn.self l.self l.fn.out.items l.out.items hs × (part_from l.fn.self l.fn.event ≡ part_from l.self l.fn.event ++ hs);
}

abbrev pub decreases-loop-self : goal.decreases-loop-self
decreases-loop-self g l = length l.self.calls - l.self.made
