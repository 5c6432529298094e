-- The slots before this one are noted.
use Rattle.std.proofs.Common.{◌≡◌, ◌-◌, ◌≤◌, ◌++◌}
use Rattle.std.specs.Prelude.{vec_capacity}
use Rattle.std.specs.List.{range_with_len}
use Rattle.live_core.proofs.notes.Notes.add_empty.Given as goal

abbrev pub invariant-loop-slot : goal.invariant-loop-slot
invariant-loop-slot g l = record {
  order : l.from ≤ l.slot;
  within : l.slot ≤ l.to;
  noted : l.self-inside.free.items ≡ l.fn.self.free ++ range_with_len l.from (l.slot - l.from);
  room : vec_capacity l.self-inside.free ≡ vec_capacity l.initial.self-inside.free;
  index : l.self-inside.index ≡ l.initial.self-inside.index;
}

abbrev pub decreases-loop-slot : goal.decreases-loop-slot
decreases-loop-slot g l = l.to - l.slot
