use Rattle.std.proofs.Common.{◌≡◌, ◌-◌, ◌≤◌, length, take, drop}
use Rattle.timers_c.specs.Many.{PollsEach}
use Rattle.timers_c.proofs.many.poll_each.Given as goal

-- the first places have the runs that were begun, one after another, and the others are as they were
abbrev pub invariant-loop-count : goal.invariant-loop-count
invariant-loop-count l = record {
  within : l.count ≤ length l.runs;
  size : length l.runs ≡ length l.initial.runs;
  begins : PollsEach l.initial.session l.now (take l.count l.initial.runs) (take l.count l.runs) l.session;
  unwritten : drop l.count l.runs ≡ drop l.count l.initial.runs;
}

abbrev pub decreases-loop-count : goal.decreases-loop-count
decreases-loop-count l = length l.initial.runs - l.count
