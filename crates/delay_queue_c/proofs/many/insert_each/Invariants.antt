use Rattle.std.proofs.Common.{◌≡◌, ◌-◌, ◌≤◌, length, take}
use Rattle.delay_queue_c.specs.Slots.{InsertsEach}
use Rattle.delay_queue_c.proofs.many.insert_each.Given as goal

-- the first entries were added, one after another
abbrev pub invariant-loop-count : goal.invariant-loop-count
invariant-loop-count l = record {
  within : l.count ≤ length l.entries;
  tasks : length l.queue.entries ≡ l.tasks;
  added : InsertsEach l.initial.queue (take l.count l.entries) l.queue;
}

abbrev pub decreases-loop-count : goal.decreases-loop-count
decreases-loop-count l = length l.entries - l.count
