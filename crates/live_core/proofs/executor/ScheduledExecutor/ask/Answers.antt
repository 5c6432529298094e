-- The table answers, and stays as it is.
use Rattle.std.proofs.Common.{◌∙◌, vec_capacity, refl, sym, ap, subst}
use Rattle.std.specs.Prelude.{is_some}
use Rattle.queue_code.specs.Calls.{how_many}
use Rattle.queue_code.specs.declared.call.CodeCall.TheVariants as call
use Rattle.executor_model.specs.declared.types.Answer.TheVariants as answer
use Rattle.executor_model.specs.Answers.{bare, is_terminated}
use Rattle.task_table.specs.Firsts.{queue_in}
use Rattle.task_table.specs.Tables.{TableView, workers_of}
use Rattle.live_core.specs.Lives.{LiveView, StaysQuiet, AreAlive}
use Rattle.live_core.proofs.Called.{SubmitsNone, calls_other, live_other, noted_same_room}
use Rattle.live_core.proofs.Leaving.{leaves_still, stays_left}
use Rattle.live_core.proofs.executor.ScheduledExecutor.ask.Goals as goal

pub invariant_of-self : goal.invariant_of-self
invariant_of-self g c =
    let e = c.self.inside in
    let m : LiveView = record { table = e.table; count = e.count; accepted = e.accepted; earliest = e.earliest; ended = e.ended.items } in
    let s = c.ask in
    live_other m c.args.self.now s.new.self c.clear.new.self.items c.args.at c.moment_of-moment.result e.notes.free e.notes.entries e.notes.slot_room (vec_capacity e.ended) e.notes.free e.notes.entries e.notes.slot_room (vec_capacity c.clear.new.self)
    c.self.view_is c.moment_of-moment.ensures (ap (λ (t : TableView). t.moment) s.ensures.slots) (λ q. sym (ap (λ (t : TableView). t.shut) s.ensures.slots) ∙ q) c.self.invariant
    (noted_same_room e.table.slots s.new.self.slots e.count e.notes.free e.notes.entries e.notes.slot_room (vec_capacity e.ended) (vec_capacity c.clear.new.self) (ap (λ (t : TableView). t.slots) s.ensures.slots) c.clear.ensures.capacity c.self.invariant.noted)
    (subst (λ (t : TableView). AreAlive t.slots) (sym s.ensures.slots) c.self.invariant.alive)

pub returns-clause-made : goal.returns-clause-made
returns-clause-made g c =
    let e = c.self.inside in
    let m : LiveView = record { table = e.table; count = e.count; accepted = e.accepted; earliest = e.earliest; ended = e.ended.items } in
    let s = c.ask in
    let none : SubmitsNone e.count call.Ask (bare (answer.Ask s.result.queue s.result.running s.result.shutdown s.result.terminated)) = record { orderly = tt; same = refl; none = λ k. refl } in
    let makes = calls_other m c.args.self.now s.new.self c.clear.new.self.items c.args.at c.moment_of-moment.result call.Ask (bare (answer.Ask s.result.queue s.result.running s.result.shutdown s.result.terminated))
    c.self.view_is c.moment_of-moment.ensures c.if-moment-gt-LONGEST.false c.self.invariant.few none (ap workers_of s.ensures.slots) s.ensures.steps in
    record {
      queue = s.ensures.queue ∙ ap (λ (v : LiveView). queue_in v.table.slots) c.self.view_is;
      running = s.ensures.running ∙ ap (λ (v : LiveView). how_many is_some v.table.work) c.self.view_is;
      shutdown = s.ensures.shutdown ∙ ap (λ (v : LiveView). v.table.shut) c.self.view_is;
      ended = c.clear.ensures.items;
      terminated = s.ensures.terminated ∙ ap (λ b. is_terminated b s.result.queue s.result.running) (sym s.ensures.shutdown);
      makes = makes;
    }

pub returns-clause-stays : goal.returns-clause-stays
returns-clause-stays g c =
    let e = c.self.inside in
    let m : LiveView = record { table = e.table; count = e.count; accepted = e.accepted; earliest = e.earliest; ended = e.ended.items } in
    let table = c.ask.new.self in
    let new : LiveView = record m { table = table; ended = c.clear.new.self.items } in
    let same = ap (λ (t : TableView). t.slots) c.ask.ensures.slots in
    subst (λ (v : LiveView). StaysQuiet v new v.count) c.self.view_is (record {
      stays = stays_left m new e.notes.free e.notes.entries e.notes.slot_room (vec_capacity e.ended) (ap workers_of c.ask.ensures.slots) refl (leaves_still e.table table same)
          (noted_same_room e.table.slots table.slots e.count e.notes.free e.notes.entries e.notes.slot_room (vec_capacity e.ended) (vec_capacity e.ended) same refl c.self.invariant.noted)
          (subst (λ (t : TableView). AreAlive t.slots) (sym c.ask.ensures.slots) c.self.invariant.alive);
      ended = c.clear.ensures.items;
    })
