-- The task has an entry, and takes its step.
use Rattle.std.proofs.Common.{◌+◌, List, Option, refl, sym, subst}
use Rattle.queue_code.specs.declared.call.CodeCall.TheVariants as c
use Rattle.executor_model.specs.declared.types.Answer.TheVariants as a
use Rattle.executor_model.specs.Answers.{bare, kind_of}
use Rattle.task_table.specs.declared.seat.Seat.{Seat}
use Rattle.task_table.specs.Tables.{TableView, CallSteps}
use Rattle.task_table.specs.Changes.{admitted}
use Rattle.task_table.specs.own.Queues.{IsTable}
use Rattle.task_table.proofs.Tabled.{tabled_admitted, tabled_roomy}
use Rattle.task_table.proofs.Submits.{admit_steps}
use Rattle.task_table.proofs.table.Table.admit.Goals as goal

pub invariant_of-self : goal.invariant_of-self
invariant_of-self g k =
    let T = g.Q.TaskQueue in
    let q = k.self.inside in
    let t : IsTable T.admits g.S.Slots.may_run k.args.self.now (T.keys q.queue) (T.keys q.kept) (T.room q.queue) (T.room q.kept) =
    subst (λ m. IsTable T.admits g.S.Slots.may_run m (T.keys q.queue) (T.keys q.kept) (T.room q.queue) (T.room q.kept)) k.self.view_is k.self.invariant
    in
    let x = k.args in
    let n : TableView = admitted x.self.now x.slot x.number x.at x.timing x.delay in
    let m : TableView = record { moment = q.moment; slots = g.S.Slots.seats q.slots; work = q.work.items; policies = q.policies; shut = q.shut; stopped = q.stopped } in
    subst (λ (s : List (Option Seat)). IsTable T.admits g.S.Slots.may_run (record m { moment = x.at; slots = s }) (T.keys k.insert.new.self) (T.keys q.kept) (T.room k.insert.new.self) (T.room q.kept)) (sym k.admit.ensures)
    (subst (λ v. IsTable T.admits g.S.Slots.may_run (admitted v x.slot x.number x.at x.timing x.delay) (T.keys k.insert.new.self) (T.keys q.kept) (T.room k.insert.new.self) (T.room q.kept)) (sym k.self.view_is)
    (tabled_roomy n (T.keys k.insert.new.self) (T.keys q.kept) (T.room q.queue) (T.room q.kept) (T.room k.insert.new.self) (T.room q.kept)
    (tabled_admitted x.self.now x.slot x.number x.at x.timing x.delay (T.keys q.queue) (T.keys q.kept) (T.keys k.insert.new.self) t k.requires.empty k.requires.slot k.requires.number k.requires.moment k.requires.limit
    k.requires.spans.0 k.requires.spans.1 k.requires.admits.1 k.insert.ensures.inserted) k.insert.ensures.room refl))

pub returns-clause-steps : goal.returns-clause-steps
returns-clause-steps g k =
    let T = g.Q.TaskQueue in
    let q = k.self.inside in
    let t : IsTable T.admits g.S.Slots.may_run k.args.self.now (T.keys q.queue) (T.keys q.kept) (T.room q.queue) (T.room q.kept) =
    subst (λ m. IsTable T.admits g.S.Slots.may_run m (T.keys q.queue) (T.keys q.kept) (T.room q.queue) (T.room q.kept)) k.self.view_is k.self.invariant
    in
    let x = k.args in
    let m : TableView = record { moment = q.moment; slots = g.S.Slots.seats q.slots; work = q.work.items; policies = q.policies; shut = q.shut; stopped = q.stopped } in
    subst (λ (s : List (Option Seat)). CallSteps x.self.now (record m { moment = x.at; slots = s }) (x.at, c.Submit x.number x.timing x.delay) (bare (a.Submit x.number (kind_of x.timing) (x.at + x.delay)))) (sym k.admit.ensures)
    (subst (λ v. CallSteps x.self.now (admitted v x.slot x.number x.at x.timing x.delay) (x.at, c.Submit x.number x.timing x.delay) (bare (a.Submit x.number (kind_of x.timing) (x.at + x.delay)))) (sym k.self.view_is)
    (admit_steps x.self.now x.slot x.number x.at x.delay x.timing t.formed k.requires.unshut k.requires.slot k.requires.empty k.requires.number k.requires.moment))
