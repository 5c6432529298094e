-- The calls of a written plan are in order and within the limits.
use Rattle.std.proofs.Common.{◌≡◌, ◌≤◌, ℕ, zero, suc, ◌*◌, ℤ, pos, negsuc, List, [], ◌∷◌, ◌++◌, length, Option, codes, refl, arith, subst, sym, ◌∙◌}
use Rattle.toml.specs.Data.{Members, string}
use Rattle.sched_time.specs.Times.{longest, nanos_of, span_of, period_of}
use Rattle.sched_time.specs.declared.unit.Unit.{Unit as TimeUnit}
use Rattle.sched_time.specs.declared.unit.Unit.TheVariants.{Ns, Us, Ms, S, Min, Hour, Day}
use Rattle.plan_read.specs.declared.plans.Call.{Call}
use Rattle.plan_read.specs.declared.plans.Header.{Header}
use Rattle.plan_read.specs.declared.plans.Op.{Op}
use Rattle.plan_read.specs.declared.plans.Op.TheVariants as ops
use Rattle.plan_read.specs.declared.plans.Target.{Target}
use Rattle.plan_read.specs.declared.versions.Version.{Version}
use Rattle.plan_read.specs.Plans.{BlockTree, PlanTree, submissions_before, IsPeriodInRange, IsWithinLimits, StandsBefore, IsAimed, IsCallAfter, AreCallsAfter, IsBlockAfter, AreBlocksAfter, IsOrdered}
use Rattle.plan_read.specs.Writes.{Has, PeriodAt, HasTarget, IsClear, HasSpans, top_checks, header_checks, call_checks, WritesCall, WritesCalls, WritesBlock, WritesBlocks, TreeWrites}
use Rattle.plan_read.proofs.Found.{stands_before}

-- ---- one call

some_nanos : (n : ℕ) (unit : TimeUnit) → 1 ≤ suc n * nanos_of unit
some_nanos n Ns = omega arith
some_nanos n Us = omega arith
some_nanos n Ms = omega arith
some_nanos n S = omega arith
some_nanos n Min = omega arith
some_nanos n Hour = omega arith
some_nanos n Day = omega arith

period_in_range : (value : ℤ) (unit : TimeUnit) → span_of value unit ≤ longest → IsPeriodInRange (period_of value unit)
period_in_range (pos zero) unit h = tt
period_in_range (pos (suc n)) unit h = (some_nanos n unit, h)
period_in_range (negsuc n) unit h = tt

written_in_range : (version : Version) (block : TimeUnit) (key : List ℕ) (ms : Members) (period : Option ℕ) → PeriodAt version block key ms period → IsPeriodInRange period
written_in_range version block key ms period w = rw w.4 (period_in_range w.2 w.0 w.5)

op_within : (version : Version) (block : TimeUnit) (ms : Members) (op : Op) → HasSpans version block ms op → IsWithinLimits op
op_within version block ms (ops.Schedule name delay) w = w.5
op_within version block ms (ops.Rate name first period) w = (w.0.5, written_in_range version block (codes "period") ms period w.1)
op_within version block ms (ops.Fixed name first delay) w = (w.0.5, written_in_range version block (codes "delay") ms delay w.1)
op_within version block ms op w = tt

-- the target of a written cancel
target_stands : (earlier : PlanTree) (h : Header) (before : List Call) (ms : Members) (target : Target) → HasTarget (submissions_before earlier h before) ms (ops.Cancel target)
    → IsClear (length earlier) (submissions_before earlier h before) ms (ops.Cancel target) → (name : List ℕ) × Has ms (codes "name") (string name) × StandsBefore earlier before name target
target_stands earlier h before ms target w v =
    let name : w.1.0 ≡ v.1.0 = (let e = sym w.1.1.0 ∙ v.1.1.0 in cc) in
    let same : w.0 ≡ v.0 = (let e = sym w.1.2 ∙ rw (← name) at v.1.2 in cc) in
    (w.1.0, w.1.1.0, subst (λ (t : Target). StandsBefore earlier before w.1.0 t) (sym w.2) (stands_before earlier h before w.1.0 w.0 w.1.2 (rw same v.2)))

op_aimed : (earlier : PlanTree) (h : Header) (before : List Call) (ms : Members) (op : Op) → HasTarget (submissions_before earlier h before) ms op → IsClear (length earlier) (submissions_before earlier h before) ms op
    → IsAimed earlier before op
op_aimed earlier h before ms (ops.Cancel target) w v = let r = target_stands earlier h before ms target w v in (r.0, r.2)
op_aimed earlier h before ms op w v = tt

-- the law on targets
pub cancels_aimed : (version : Version) (earlier : PlanTree) (h : Header) (before : List Call) (ms : Members) (c : Call) (target : Target) → WritesCall version earlier h before ms c → c.op ≡ ops.Cancel target
    → (name : List ℕ) × Has ms (codes "name") (string name) × StandsBefore earlier before name target
unfolding call_checks
cancels_aimed version earlier h before ms c target w is =
    let subs = submissions_before earlier h before in
    let aimed : HasTarget subs ms (ops.Cancel target) = rw is at w.1.1.1.1.1.1.1.1.0 in
    let clear : IsClear (length earlier) subs ms (ops.Cancel target) = rw is at w.1.1.1.1.1.1.1.1.1.0 in
    target_stands earlier h before ms target aimed clear

call_ordered : (version : Version) (earlier : PlanTree) (h : Header) (before : List Call) (ms : Members) (c : Call) → WritesCall version earlier h before ms c → IsCallAfter earlier h before c
unfolding call_checks
call_ordered version earlier h before ms c w =
    let times = w.1.1.1.1.1.1.1.1.1.1.1.0 in
    let order = w.1.1.1.1.1.1.1.1.1.1.1.1.0 in
    record {
      order = order.0;
      within = order.1;
      last = times.2;
      limits = op_within version h.unit ms c.op times.1;
      aimed = op_aimed earlier h before ms c.op w.1.1.1.1.1.1.1.1.0 w.1.1.1.1.1.1.1.1.1.0;
    }

-- ---- all of them

calls_ordered : (version : Version) (earlier : PlanTree) (h : Header) (before : List Call) (tables : List Members) (cs : List Call) → WritesCalls version earlier h before tables cs
    → AreCallsAfter earlier h before cs × (length cs ≡ length tables)
calls_ordered version earlier h before [] [] w = (tt, refl)
calls_ordered version earlier h before [] (c ∷ cs) w = absurd w
calls_ordered version earlier h before (ms ∷ tables) [] w = absurd w
calls_ordered version earlier h before (ms ∷ tables) (c ∷ cs) w =
    let r = calls_ordered version earlier h (before ++ c ∷ []) tables cs w.1 in
    ((call_ordered version earlier h before ms c w.0, r.0), omega (arith, r.1))

block_ordered : (version : Version) (earlier : PlanTree) (ms : Members) (b : BlockTree) (w : WritesBlock version earlier ms b) → AreCallsAfter earlier b.header [] b.calls → length b.calls ≡ length w.tables → IsBlockAfter earlier b
unfolding header_checks
block_ordered version earlier ms b w calls count =
    let times = w.head.1.1.1.0 in
    let spans = w.head.1.1.1.1.1.1.0 in
    let few = w.head.1.1.1.1.1.1.1.1.0 in
    record {
      order = w.head.1.1.1.1.1.1.1.0;
      at = spans.0.5;
      every = spans.1.5;
      least = times.1;
      most = times.2;
      few = rw count few.0;
      total = rw count few.1;
      calls = calls;
    }

blocks_ordered : (version : Version) (earlier : PlanTree) (tables : List Members) (bs : PlanTree) → WritesBlocks version earlier tables bs → AreBlocksAfter earlier bs × (length bs ≡ length tables)
blocks_ordered version earlier [] [] w = (tt, refl)
blocks_ordered version earlier [] (b ∷ bs) w = absurd w
blocks_ordered version earlier (ms ∷ tables) [] w = absurd w
blocks_ordered version earlier (ms ∷ tables) (b ∷ bs) w =
    let calls = calls_ordered version earlier b.header [] w.0.tables b.calls w.0.calls in
    let rest = blocks_ordered version (earlier ++ b ∷ []) tables bs w.1 in
    ((block_ordered version earlier ms b w.0 calls.0 calls.1, rest.0), omega (arith, rest.1))

-- the law on order
pub plan_ordered : (ms : Members) (plan : PlanTree) → TreeWrites ms plan → IsOrdered plan
unfolding top_checks
plan_ordered ms plan w = let r = blocks_ordered w.0 [] w.1.tables plan w.1.blocks in (rw r.1 w.1.top.1.1.1.0, r.0)
