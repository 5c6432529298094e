use Rattle.std.proofs.Common.{◌≡◌, ◌-◌, ◌≤◌, length, take, drop}
use Rattle.timers_c.specs.Many.{FinishesEach}
use Rattle.timers_c.proofs.many.finish_each.Given as goal

-- the first places have the ends of the runs that ended, one after another, and the others are as they were
abbrev pub invariant-loop-count : goal.invariant-loop-count
invariant-loop-count l = record {
  within : l.count ≤ length l.endings;
  size : length l.ends ≡ length l.initial.ends;
  ends : FinishesEach l.initial.session l.now (take l.count l.endings) (take l.count l.ends) l.session;
  unwritten : drop l.count l.ends ≡ drop l.count l.initial.ends;
}

abbrev pub decreases-loop-count : goal.decreases-loop-count
decreases-loop-count l = length l.endings - l.count
