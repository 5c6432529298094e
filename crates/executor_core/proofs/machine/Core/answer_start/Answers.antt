-- A worker begins a run of the first task that is due, or none.
use Rattle.std.proofs.Common.{length, arith, sym, subst}
use Rattle.executor_model.specs.Needs.{need_of}
use Rattle.executor_model.specs.declared.types.Happening.TheVariants as h
use Rattle.executor_model.specs.declared.types.Answer.TheVariants as a
use Rattle.task_table.specs.Runs.{Starts}
use Rattle.task_table.specs.Tables.{StandsBefore}
use Rattle.task_table.proofs.Starts.{stands_before}
use Rattle.executor_core.specs.CoreView.{CoreView, workers_of, state_of, RunsBelowTaken}
use Rattle.executor_core.specs.own.Invariants.{core_of}
use Rattle.executor_core.specs.own.OwnSteps.{Takes}
use Rattle.executor_core.proofs.Starting.{first_below, begins, idles, may_run}
use Rattle.executor_core.proofs.machine.Core.answer_start.Goals as goal

pub start_free-requires-clause-runs : goal.start_free-requires-clause-runs
start_free-requires-clause-runs g c =
    let m = c.self.inside in
    let f = c.self.invariant in
    let w = c.args.worker in
    let mid = c.drop_met.new.table in
    let counted : RunsBelowTaken (core_of m.calls.items m.limit m.taken m.calls.made m.table) (need_of m.calls.items (length m.table.work) (state_of (core_of m.calls.items m.limit m.taken m.calls.made m.table)) (h.Start w)) = subst (λ (x : CoreView). RunsBelowTaken x (need_of x.calls (workers_of x) (state_of x) (h.Start w))) (sym c.self.view_is) c.requires in
    let before : StandsBefore mid m.calls.items f.past (h.Start w) = c.drop_met.ensures.steps w c.in_default.ensures.free m.calls.items f.past (stands_before m.table m.calls.items f.past (h.Start w) f.reached.stands) in
    may_run m.taken mid (omega (arith, c.self.ranges)) (λ i x first. first_below m.calls.items m.limit m.taken m.calls.made m.table mid m.sought w i x f c.in_default.ensures.free c.drop_met.ensures.unkept before counted first)

pub invariant_of-self : goal.invariant_of-self
invariant_of-self g c =
    let m = c.self.inside in
    let f = c.self.invariant in
    let w = c.args.worker in
    let mid = c.drop_met.new.table in
    let counted : RunsBelowTaken (core_of m.calls.items m.limit m.taken m.calls.made m.table) (need_of m.calls.items (length m.table.work) (state_of (core_of m.calls.items m.limit m.taken m.calls.made m.table)) (h.Start w)) = subst (λ (x : CoreView). RunsBelowTaken x (need_of x.calls (workers_of x) (state_of x) (h.Start w))) (sym c.self.view_is) c.requires in
    let before : StandsBefore mid m.calls.items f.past (h.Start w) = c.drop_met.ensures.steps w c.in_default.ensures.free m.calls.items f.past (stands_before m.table m.calls.items f.past (h.Start w) f.reached.stands) in
    (idles m.calls.items m.limit m.taken m.calls.made m.table mid c.start_free.new.self m.sought w f c.drop_met.ensures.unkept before (subst (λ o. Starts mid c.start_free.new.self w o) c.in_default-begun.is c.in-Ok.ensures.started)).1

pub returns-in_default-begun-clause-step : goal.returns-in_default-begun-clause-step
returns-in_default-begun-clause-step g c =
    let m = c.self.inside in
    let f = c.self.invariant in
    let w = c.args.worker in
    let mid = c.drop_met.new.table in
    let counted : RunsBelowTaken (core_of m.calls.items m.limit m.taken m.calls.made m.table) (need_of m.calls.items (length m.table.work) (state_of (core_of m.calls.items m.limit m.taken m.calls.made m.table)) (h.Start w)) = subst (λ (x : CoreView). RunsBelowTaken x (need_of x.calls (workers_of x) (state_of x) (h.Start w))) (sym c.self.view_is) c.requires in
    let before : StandsBefore mid m.calls.items f.past (h.Start w) = c.drop_met.ensures.steps w c.in_default.ensures.free m.calls.items f.past (stands_before m.table m.calls.items f.past (h.Start w) f.reached.stands) in
    subst (λ (x : CoreView). Takes x (core_of m.calls.items m.limit m.taken m.calls.made c.start_free.new.self) (h.Start w) (a.Idle w)) c.self.view_is
    (idles m.calls.items m.limit m.taken m.calls.made m.table mid c.start_free.new.self m.sought w f c.drop_met.ensures.unkept before (subst (λ o. Starts mid c.start_free.new.self w o) c.in_default-begun.is c.in-Ok.ensures.started)).0

pub invariant_of-self-2 : goal.invariant_of-self-2
invariant_of-self-2 g c =
    let m = c.self.inside in
    let f = c.self.invariant in
    let w = c.args.worker in
    let mid = c.drop_met.new.table in
    let counted : RunsBelowTaken (core_of m.calls.items m.limit m.taken m.calls.made m.table) (need_of m.calls.items (length m.table.work) (state_of (core_of m.calls.items m.limit m.taken m.calls.made m.table)) (h.Start w)) = subst (λ (x : CoreView). RunsBelowTaken x (need_of x.calls (workers_of x) (state_of x) (h.Start w))) (sym c.self.view_is) c.requires in
    let before : StandsBefore mid m.calls.items f.past (h.Start w) = c.drop_met.ensures.steps w c.in_default.ensures.free m.calls.items f.past (stands_before m.table m.calls.items f.past (h.Start w) f.reached.stands) in
    (begins m.calls.items m.limit m.taken m.calls.made m.table mid c.start_free.new.self m.sought w c.in-Some-begun.begun f c.in_default.ensures.free c.drop_met.ensures.unkept before counted (subst (λ o. Starts mid c.start_free.new.self w o) c.in-Some-begun.is c.in-Ok.ensures.started)).1

pub returns-clause-step : goal.returns-clause-step
returns-clause-step g c =
    let m = c.self.inside in
    let f = c.self.invariant in
    let w = c.args.worker in
    let mid = c.drop_met.new.table in
    let counted : RunsBelowTaken (core_of m.calls.items m.limit m.taken m.calls.made m.table) (need_of m.calls.items (length m.table.work) (state_of (core_of m.calls.items m.limit m.taken m.calls.made m.table)) (h.Start w)) = subst (λ (x : CoreView). RunsBelowTaken x (need_of x.calls (workers_of x) (state_of x) (h.Start w))) (sym c.self.view_is) c.requires in
    let before : StandsBefore mid m.calls.items f.past (h.Start w) = c.drop_met.ensures.steps w c.in_default.ensures.free m.calls.items f.past (stands_before m.table m.calls.items f.past (h.Start w) f.reached.stands) in
    subst (λ (x : CoreView). Takes x (core_of m.calls.items m.limit m.taken m.calls.made c.start_free.new.self) (h.Start w) (a.Start w c.in-Some-begun.begun.task.slot c.in-Some-begun.begun.run c.in-Some-begun.begun.due)) c.self.view_is
    (begins m.calls.items m.limit m.taken m.calls.made m.table mid c.start_free.new.self m.sought w c.in-Some-begun.begun f c.in_default.ensures.free c.drop_met.ensures.unkept before counted (subst (λ o. Starts mid c.start_free.new.self w o) c.in-Some-begun.is c.in-Ok.ensures.started)).0
