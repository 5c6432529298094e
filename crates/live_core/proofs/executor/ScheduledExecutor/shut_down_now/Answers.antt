-- The executor is shut from then on.
use Rattle.std.proofs.Common.{◌∙◌, vec_capacity, refl, sym, subst}
use Rattle.std.proofs.lemmas.Bool.{false≢true}
use Rattle.queue_code.specs.declared.call.CodeCall.TheVariants as call
use Rattle.executor_model.specs.declared.types.Answer.TheVariants as answer
use Rattle.live_core.specs.Lives.{LiveView, Stays}
use Rattle.live_core.specs.Said.{ending}
use Rattle.live_core.proofs.Called.{SubmitsNone, calls_other, live_other}
use Rattle.live_core.proofs.Leaving.{stays_left}
use Rattle.live_core.proofs.executor.ScheduledExecutor.shut_down_now.Goals as goal

pub invariant_of-self : goal.invariant_of-self
invariant_of-self g c =
    let e = c.self.inside in
    let m : LiveView = record { table = e.table; count = e.count; accepted = e.accepted; earliest = e.earliest; ended = e.ended.items } in
    let s = c.shut_down_now in
    live_other m c.args.self.now s.new.table s.new.ended.items c.args.at c.moment_of-moment.result e.notes.free e.notes.entries e.notes.slot_room (vec_capacity e.ended) s.new.notes.free s.new.notes.entries s.new.notes.slot_room (vec_capacity s.new.ended)
    c.self.view_is c.moment_of-moment.ensures s.ensures.moment (λ q. absurd (false≢true (sym q ∙ s.ensures.shut))) c.self.invariant (s.ensures.noted e.count c.self.invariant.noted) (s.ensures.alive c.self.invariant.alive)

pub returns-clause-made : goal.returns-clause-made
returns-clause-made g c =
    let e = c.self.inside in
    let m : LiveView = record { table = e.table; count = e.count; accepted = e.accepted; earliest = e.earliest; ended = e.ended.items } in
    let s = c.shut_down_now in
    let none : SubmitsNone e.count call.ShutdownNow (ending answer.ShutdownNow s.new.ended.items) = record { orderly = tt; same = refl; none = λ k. refl } in
    calls_other m c.args.self.now s.new.table s.new.ended.items c.args.at c.moment_of-moment.result call.ShutdownNow (ending answer.ShutdownNow s.new.ended.items)
    c.self.view_is c.moment_of-moment.ensures c.if-moment-gt-LONGEST.false c.self.invariant.few none s.ensures.workers s.ensures.steps

pub returns-clause-stays : goal.returns-clause-stays
returns-clause-stays g c =
    let e = c.self.inside in
    let m : LiveView = record { table = e.table; count = e.count; accepted = e.accepted; earliest = e.earliest; ended = e.ended.items } in
    let s = c.shut_down_now in
    let new : LiveView = record m { table = s.new.table; ended = s.new.ended.items } in
    subst (λ (v : LiveView). Stays v new v.count) c.self.view_is
    (stays_left m new s.new.notes.free s.new.notes.entries s.new.notes.slot_room (vec_capacity s.new.ended) s.ensures.workers refl s.ensures.leaves (s.ensures.noted e.count c.self.invariant.noted)
    (s.ensures.alive c.self.invariant.alive))
