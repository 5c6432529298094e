use Rattle.std.proofs.Common.{◌≡◌, ◌+◌, ◌≤◌, length, drop}
use Rattle.std.specs.Prelude.{IsTrue, vec_capacity}
use Rattle.executor_core.specs.CoreView.{workers_of, state_of}
use Rattle.trace_check.specs.own.Standing.{IsReady}
use Rattle.trace_check.proofs.Texts.{HasCome}
use Rattle.trace_check.proofs.Keeping.{AreKept}
use Rattle.trace_check.proofs.checking.Checker.run.Given as goal

abbrev pub invariant-loop-rest : goal.invariant-loop-rest
invariant-loop-rest g l = record {
  calls : l.self.core.calls ≡ l.fn.self.core.calls;
  workers : workers_of l.self.core ≡ workers_of l.fn.self.core;
  limit : l.self.core.limit ≡ l.fn.self.core.limit;
  taken : l.self.core.taken ≤ l.count;
  ready : IsReady l.self.core l.self.busy.workers (vec_capacity l.self.out);
  come : HasCome l.self.core.calls (workers_of l.self.core) l.text l.rest l.count (state_of l.self.core) (drop l.self.met l.self.out.items) l.self.busy.flags;
  few : l.count + length l.rest ≤ length l.text;
  kept : IsTrue l.keeps → AreKept l.text l.rest l.count l.lines.items;
}

abbrev pub decreases-loop-rest : goal.decreases-loop-rest
decreases-loop-rest g l = length l.rest
