use Rattle.std.proofs.Common.{◌≡◌, ℕ, ◌<◌, Some, length, slice_get}
use Rattle.queue_code.specs.Cursors.{Enclosing, loop_around}
use Rattle.queue_code.proofs.code.loop_table.Given as goal

abbrev pub invariant-loop-index : goal.invariant-loop-index
invariant-loop-index g l = record {
  count : length l.table.items ≡ l.index;
  entries : (k : ℕ) (loop : Enclosing) → k < l.index → loop_around l.instrs k ≡ Some loop → slice_get l.table.items k ≡ Some loop.place;
  here : (loop : Enclosing) → loop_around l.instrs l.index ≡ Some loop → l.place ≡ loop.place;
}
