-- The clock takes its step, or is answered by an error.
use Rattle.std.proofs.Common.{◌≡◌, ◌+◌, true, vec_capacity, refl, ap, subst}
use Rattle.std.specs.Prelude.{is_ok}
use Rattle.executor_model.specs.Answers.{bare, is_accepted}
use Rattle.executor_model.specs.declared.types.Answer.TheVariants as a
use Rattle.executor_model.specs.declared.types.Happening.TheVariants as h
use Rattle.task_table.specs.Runs.{IsClockError}
use Rattle.live_core.specs.Lives.{LiveView, Happens}
use Rattle.live_core.specs.Events.{Fails}
use Rattle.live_core.proofs.Occurring.{clocks_there, taken_within, live_clock, fails_there}
use Rattle.live_core.proofs.executor.ScheduledExecutor.clock.Goals as goal

pub invariant_of-self : goal.invariant_of-self
invariant_of-self g c =
    let e = c.self.inside in
    let m : LiveView = record { table = e.table; count = e.count; accepted = e.accepted; earliest = e.earliest; ended = e.ended.items } in
    let taken : is_accepted e.table.moment c.args.moment ≡ true = c.clock.ensures.accepted.0 (ap is_ok c.in-Ok.is) in
    live_clock m c.clock.new.self c.clear.new.self.items c.args.moment e.notes.free e.notes.entries e.notes.slot_room (vec_capacity e.ended) (vec_capacity c.clear.new.self) c.self.invariant taken c.in-Ok.ensures.moved c.clear.ensures.capacity

pub returns-in-Ok-clause-happens : goal.returns-in-Ok-clause-happens
returns-in-Ok-clause-happens g c =
    let e = c.self.inside in
    let m : LiveView = record { table = e.table; count = e.count; accepted = e.accepted; earliest = e.earliest; ended = e.ended.items } in
    let new : LiveView = record { table = c.clock.new.self; count = e.count; accepted = e.accepted; earliest = c.args.moment + 1; ended = c.clear.new.self.items } in
    let taken : is_accepted e.table.moment c.args.moment ≡ true = c.clock.ensures.accepted.0 (ap is_ok c.in-Ok.is) in
    subst (λ (v : LiveView). Happens v new (h.Clock c.args.moment) (bare a.Clock)) c.self.view_is
    (clocks_there m c.clock.new.self c.clear.new.self.items c.args.moment c.clear.ensures.items c.self.invariant.behind (taken_within e.table.moment c.args.moment taken).0 c.in-Ok.ensures.moved c.in-Ok.ensures.steps)

pub returns-in-Err-clause-failed : goal.returns-in-Err-clause-failed
returns-in-Err-clause-failed g c =
    let e = c.self.inside in
    let m : LiveView = record { table = e.table; count = e.count; accepted = e.accepted; earliest = e.earliest; ended = e.ended.items } in
    let new : LiveView = record m { table = c.clock.new.self; ended = c.clear.new.self.items } in
    let error = c.in-Err.error in
    let failed = c.in-Err.ensures.failed in
    subst (λ (v : LiveView). IsClockError v.table c.args.moment error × Fails v new (h.Clock c.args.moment) error) c.self.view_is
    (failed.0, fails_there m c.clock.new.self c.clear.new.self.items (h.Clock c.args.moment) error refl refl (λ q. absurd cc) c.clear.ensures.items c.in-Err.ensures.unchanged failed.1)
