use Rattle.std.proofs.Common.{◌≡◌, ◌-◌, ◌≤◌, length, take, drop}
use Rattle.delay_queue_c.specs.Slots.{PollsEach}
use Rattle.delay_queue_c.proofs.many.poll_each.Given as goal

-- the first places have what was taken out, one after another, and the others are as they were
abbrev pub invariant-loop-count : goal.invariant-loop-count
invariant-loop-count l = record {
  within : l.count ≤ length l.out;
  room : length l.out ≡ length l.initial.out;
  tasks : length l.queue.entries ≡ length l.initial.queue.entries;
  polled : PollsEach l.initial.queue l.now (take l.count l.out) l.queue;
  unwritten : drop l.count l.out ≡ drop l.count l.initial.out;
}

abbrev pub decreases-loop-count : goal.decreases-loop-count
decreases-loop-count l = length l.initial.out - l.count
