-- The table refuses it, and stays as it is.
use Rattle.std.proofs.Common.{◌≡◌, ◌+◌, ◌≤◌, ◌∙◌, true, vec_capacity, refl, sym, ap, subst, arith}
use Rattle.std.proofs.lemmas.Bool.{false≢true}
use Rattle.queue_code.specs.declared.call.CodeCall.TheVariants as call
use Rattle.executor_model.specs.declared.types.Answer.TheVariants as answer
use Rattle.executor_model.specs.declared.types.Refusal.TheVariants as refusal
use Rattle.executor_model.specs.Answers.{bare}
use Rattle.task_table.specs.Seats.{IsNew}
use Rattle.task_table.specs.Tables.{TableView, workers_of}
use Rattle.live_core.specs.Lives.{LiveView, Calls, StaysQuiet, never, AreAlive}
use Rattle.live_core.proofs.Living.{live_on}
use Rattle.live_core.proofs.Noted.{noted_number, noted_later}
use Rattle.live_core.proofs.Steps.{may_submit, rejects_there}
use Rattle.live_core.proofs.Leaving.{leaves_still, stays_left}
use Rattle.live_core.proofs.executor.ScheduledExecutor.reject.Goals as goal

pub invariant_of-self : goal.invariant_of-self
invariant_of-self g c =
    let e = c.self.inside in
    let m : LiveView = record { table = e.table; count = e.count; accepted = e.accepted; earliest = e.earliest; ended = e.ended.items } in
    let table = c.refuse.new.self in
    let new : LiveView = record { table = table; count = e.count + 1; accepted = e.accepted; earliest = e.earliest; ended = c.clear.new.self.items } in
    let shut : table.shut ≡ true = ap (λ (x : TableView). x.shut) c.refuse.ensures.slots ∙ (ap (λ (v : LiveView). v.table.shut) c.self.view_is ∙ c.requires.shut) in
    live_on m new e.notes.free e.notes.entries e.notes.slot_room (vec_capacity e.ended) e.notes.free e.notes.entries e.notes.slot_room (vec_capacity c.clear.new.self) c.self.invariant
    (subst (λ (v : LiveView). v.count + 1 ≤ never) (sym c.self.view_is) (omega (arith, c.requires.few))) refl
    (omega (arith, ap (λ (x : TableView). x.moment) c.refuse.ensures.slots, ap (λ (v : LiveView). v.table.moment) c.self.view_is, c.requires.ahead))
    (λ q. absurd (false≢true (sym q ∙ shut)))
    (noted_later e.table.slots table.slots e.count e.notes.free e.notes.entries e.notes.slot_room (vec_capacity e.ended) (vec_capacity c.clear.new.self) (ap (λ (x : TableView). x.slots) c.refuse.ensures.slots) c.clear.ensures.capacity c.self.invariant.noted)
    (subst (λ (x : TableView). AreAlive x.slots) (sym c.refuse.ensures.slots) c.self.invariant.alive)

pub returns-clause-made : goal.returns-clause-made
returns-clause-made g c =
    let e = c.self.inside in
    let m : LiveView = record { table = e.table; count = e.count; accepted = e.accepted; earliest = e.earliest; ended = e.ended.items } in
    let table = c.refuse.new.self in
    let new : LiveView = record { table = table; count = e.count + 1; accepted = e.accepted; earliest = e.earliest; ended = c.clear.new.self.items } in
    λ timing delay short timed.
    let may = may_submit m c.args.self.now c.args.moment delay timing c.self.view_is c.requires.early c.requires.ahead c.requires.limit c.requires.few short timed in
    subst (λ (v : LiveView). Calls v new (c.args.moment, call.Submit v.count timing delay) (bare (answer.Refuse e.count refusal.Rejected))) c.self.view_is
    (rejects_there m table c.clear.new.self.items c.args.moment delay timing may c.refuse.ensures.slots c.clear.ensures.items (c.refuse.ensures.steps e.count timing delay))

pub returns-clause-stays : goal.returns-clause-stays
returns-clause-stays g c =
    let e = c.self.inside in
    let m : LiveView = record { table = e.table; count = e.count; accepted = e.accepted; earliest = e.earliest; ended = e.ended.items } in
    let table = c.refuse.new.self in
    let new : LiveView = record { table = table; count = e.count + 1; accepted = e.accepted; earliest = e.earliest; ended = c.clear.new.self.items } in
    let same = ap (λ (x : TableView). x.slots) c.refuse.ensures.slots in
    subst (λ (v : LiveView). StaysQuiet v new (v.count + 1)) c.self.view_is (record {
      stays = stays_left m new e.notes.free e.notes.entries e.notes.slot_room (vec_capacity e.ended) (ap workers_of c.refuse.ensures.slots) refl (leaves_still e.table table same)
          (noted_later e.table.slots table.slots e.count e.notes.free e.notes.entries e.notes.slot_room (vec_capacity e.ended) (vec_capacity e.ended) same refl c.self.invariant.noted)
          (subst (λ (x : TableView). AreAlive x.slots) (sym c.refuse.ensures.slots) c.self.invariant.alive);
      ended = c.clear.ensures.items;
    })

pub returns-clause-seated : goal.returns-clause-seated
returns-clause-seated g c =
    let e = c.self.inside in
    subst (λ (x : TableView). IsNew x.slots e.count) (sym c.refuse.ensures.slots)
    (noted_number e.table.slots e.count e.notes.free e.notes.entries e.notes.slot_room (vec_capacity e.ended) c.self.invariant.noted)
