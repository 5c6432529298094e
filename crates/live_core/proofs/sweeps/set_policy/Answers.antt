-- Where the call sweeps, the tasks that are kept leave their slots before it, and those that it ends after it.
use Rattle.std.proofs.Common.{◌≡◌, ◌∙◌, true, vec_capacity, refl, sym, ap, subst}
use Rattle.std.specs.List.{All}
use Rattle.sched_time.specs.Policies as settings
use Rattle.queue_code.specs.declared.call.CodeCall.TheVariants as call
use Rattle.executor_model.specs.declared.types.Answer.TheVariants as answer
use Rattle.executor_model.specs.Answers.{setting_sweeps}
use Rattle.task_table.specs.Tables.{TableView, workers_of}
use Rattle.task_table.specs.Changes.{at_moment}
use Rattle.live_core.specs.Said.{ending}
use Rattle.live_core.specs.own.Places.{IsEmptyAt}
use Rattle.live_core.proofs.Alive.{alive_swept, gone_from}
use Rattle.live_core.proofs.Swept.{noted_swept, sweep_steps}
use Rattle.live_core.proofs.Leaving.{leaves_swept}
use Rattle.live_core.proofs.sweeps.set_policy.Goals as goal

pub set_policy-requires-clause-room : goal.set_policy-requires-clause-room
set_policy-requires-clause-room g c = (c.drop_kept.ensures.noted c.requires.noted.0 (vec_capacity c.args.ended.now) c.requires.noted.1).spare

pub release_each-requires-clause-noted : goal.release_each-requires-clause-noted
release_each-requires-clause-noted g c =
    let x = c.args in
    let mid = c.drop_kept.new.table in
    let n = c.drop_kept.new.notes in
    let room = vec_capacity x.ended.now in
    let count = c.requires.noted.0 in
    let m : TableView = record (at_moment mid x.at) { policies = settings.set_policy x.which x.value mid.policies } in
    let told : setting_sweeps mid.shut x.which x.value ≡ true = ap (λ (v : TableView). setting_sweeps v.shut x.which x.value) c.drop_kept.ensures.rest ∙ (sym c.setting_sweeps.ensures ∙ c.if-setting_sweeps.true) in
    (count, room, noted_swept m c.set_policy.new.self c.set_policy.new.ends.items count n.free n.entries n.slot_room room room (c.set_policy.ensures.swept told) refl (c.drop_kept.ensures.noted count room c.requires.noted.1))

pub returns-then-setting_sweeps-clause-noted : goal.returns-then-setting_sweeps-clause-noted
returns-then-setting_sweeps-clause-noted g c =
    let x = c.args in
    let mid = c.drop_kept.new.table in
    let n = c.drop_kept.new.notes in
    let room = vec_capacity x.ended.now in
    let more = vec_capacity c.set_policy.new.ends in
    let m : TableView = record (at_moment mid x.at) { policies = settings.set_policy x.which x.value mid.policies } in
    let told : setting_sweeps mid.shut x.which x.value ≡ true = ap (λ (v : TableView). setting_sweeps v.shut x.which x.value) c.drop_kept.ensures.rest ∙ (sym c.setting_sweeps.ensures ∙ c.if-setting_sweeps.true) in
    λ count before. c.release_each.ensures.noted count more
    (noted_swept m c.set_policy.new.self c.set_policy.new.ends.items count n.free n.entries n.slot_room room more (c.set_policy.ensures.swept told) c.set_policy.ensures.room (c.drop_kept.ensures.noted count room before))

pub returns-then-setting_sweeps-clause-steps : goal.returns-then-setting_sweeps-clause-steps
returns-then-setting_sweeps-clause-steps g c =
    let x = c.args in
    let old = x.table.now in
    let mid = c.drop_kept.new.table in
    let swept = c.set_policy.new.self in
    let new = c.release_each.new.table in
    let asked : setting_sweeps old.shut x.which x.value ≡ true = sym c.setting_sweeps.ensures ∙ c.if-setting_sweeps.true in
    let told : setting_sweeps mid.shut x.which x.value ≡ true = ap (λ (v : TableView). setting_sweeps v.shut x.which x.value) c.drop_kept.ensures.rest ∙ asked in
    let width : workers_of swept ≡ workers_of old = ap workers_of (c.set_policy.ensures.swept told).is ∙ ap workers_of c.drop_kept.ensures.rest in
    sweep_steps old mid swept new (x.at, call.SetPolicy x.which x.value) (ending (answer.Policy x.which x.value) c.set_policy.new.ends.items) width (ap workers_of c.release_each.ensures.rest)
    (λ calls past next before. c.drop_kept.ensures.stands calls past (x.at, call.SetPolicy x.which x.value) next asked before) (c.set_policy.ensures.sweeps told) c.release_each.ensures.stands

pub returns-then-setting_sweeps-clause-alive : goal.returns-then-setting_sweeps-clause-alive
returns-then-setting_sweeps-clause-alive g c =
    let x = c.args in
    let mid = c.drop_kept.new.table in
    let n = c.drop_kept.new.notes in
    let room = vec_capacity x.ended.now in
    let count = c.requires.noted.0 in
    let ends = c.set_policy.new.ends.items in
    let swept = c.set_policy.new.self in
    let m : TableView = record (at_moment mid x.at) { policies = settings.set_policy x.which x.value mid.policies } in
    let told : setting_sweeps mid.shut x.which x.value ≡ true = ap (λ (v : TableView). setting_sweeps v.shut x.which x.value) c.drop_kept.ensures.rest ∙ (sym c.setting_sweeps.ensures ∙ c.if-setting_sweeps.true) in
    let noted = noted_swept m swept ends count n.free n.entries n.slot_room room room (c.set_policy.ensures.swept told) refl (c.drop_kept.ensures.noted count room c.requires.noted.1) in
    let gone = subst (All (IsEmptyAt c.release_each.new.table)) c.deref.ensures.value c.release_each.ensures.gone in
    λ alive. alive_swept m swept c.release_each.new.table ends n.entries count noted.index (c.set_policy.ensures.swept told) gone c.release_each.ensures.leaves (c.drop_kept.ensures.alive alive)

pub returns-then-setting_sweeps-clause-gone : goal.returns-then-setting_sweeps-clause-gone
returns-then-setting_sweeps-clause-gone g c =
    let x = c.args in
    let mid = c.drop_kept.new.table in
    let told : setting_sweeps mid.shut x.which x.value ≡ true = ap (λ (v : TableView). setting_sweeps v.shut x.which x.value) c.drop_kept.ensures.rest ∙ (sym c.setting_sweeps.ensures ∙ c.if-setting_sweeps.true) in
    let m : TableView = record (at_moment mid x.at) { policies = settings.set_policy x.which x.value mid.policies } in
    let s = (c.set_policy.ensures.swept told) in
    let empty = subst (All (IsEmptyAt c.release_each.new.table)) c.deref.ensures.value c.release_each.ensures.gone in
    record { each = gone_from c.args.table.now m c.set_policy.new.self c.release_each.new.table c.set_policy.new.ends.items s.is c.drop_kept.ensures.leaves s.over empty; ascending = s.ended.ascending }

pub returns-then-setting_sweeps-clause-leaves : goal.returns-then-setting_sweeps-clause-leaves
returns-then-setting_sweeps-clause-leaves g c =
    let x = c.args in
    let mid = c.drop_kept.new.table in
    let told : setting_sweeps mid.shut x.which x.value ≡ true = ap (λ (v : TableView). setting_sweeps v.shut x.which x.value) c.drop_kept.ensures.rest ∙ (sym c.setting_sweeps.ensures ∙ c.if-setting_sweeps.true) in
    let m : TableView = record (at_moment mid x.at) { policies = settings.set_policy x.which x.value mid.policies } in
    leaves_swept x.table.now m c.set_policy.new.self c.release_each.new.table c.set_policy.new.ends.items c.drop_kept.ensures.leaves c.drop_kept.ensures.size (c.set_policy.ensures.swept told) c.release_each.ensures.leaves c.release_each.ensures.size
