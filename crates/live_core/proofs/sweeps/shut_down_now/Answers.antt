-- The tasks that are kept leave their slots before the call, and those that it ends after it.
use Rattle.std.proofs.Common.{◌≡◌, ◌∙◌, true, vec_capacity, refl, ap, subst}
use Rattle.std.specs.List.{All}
use Rattle.queue_code.specs.declared.call.CodeCall.TheVariants as call
use Rattle.executor_model.specs.declared.types.Answer.TheVariants as answer
use Rattle.task_table.specs.Tables.{TableView, workers_of}
use Rattle.task_table.specs.Changes.{at_moment}
use Rattle.live_core.specs.Said.{ending}
use Rattle.live_core.specs.own.Places.{IsEmptyAt}
use Rattle.live_core.proofs.Alive.{alive_swept, gone_from}
use Rattle.live_core.proofs.Swept.{noted_swept, sweep_steps}
use Rattle.live_core.proofs.Leaving.{leaves_swept}
use Rattle.live_core.proofs.sweeps.shut_down_now.Goals as goal

pub shut_down_now-requires-clause-room : goal.shut_down_now-requires-clause-room
shut_down_now-requires-clause-room g c = (c.drop_kept.ensures.noted c.requires.noted.0 (vec_capacity c.args.ended.now) c.requires.noted.1).spare

pub release_each-requires-clause-noted : goal.release_each-requires-clause-noted
release_each-requires-clause-noted g c =
    let mid = c.drop_kept.new.table in
    let n = c.drop_kept.new.notes in
    let room = vec_capacity c.args.ended.now in
    let count = c.requires.noted.0 in
    let m : TableView = record (at_moment mid c.args.at) { shut = true; stopped = true } in
    (count, room, noted_swept m c.shut_down_now.new.self c.shut_down_now.new.ends.items count n.free n.entries n.slot_room room room c.shut_down_now.ensures.swept refl (c.drop_kept.ensures.noted count room c.requires.noted.1))

pub returns-clause-noted : goal.returns-clause-noted
returns-clause-noted g c =
    let mid = c.drop_kept.new.table in
    let n = c.drop_kept.new.notes in
    let room = vec_capacity c.args.ended.now in
    let more = vec_capacity c.shut_down_now.new.ends in
    let m : TableView = record (at_moment mid c.args.at) { shut = true; stopped = true } in
    λ count before. c.release_each.ensures.noted count more
    (noted_swept m c.shut_down_now.new.self c.shut_down_now.new.ends.items count n.free n.entries n.slot_room room more c.shut_down_now.ensures.swept c.shut_down_now.ensures.room (c.drop_kept.ensures.noted count room before))

pub returns-clause-steps : goal.returns-clause-steps
returns-clause-steps g c =
    let old = c.args.table.now in
    let mid = c.drop_kept.new.table in
    let swept = c.shut_down_now.new.self in
    let new = c.release_each.new.table in
    let width : workers_of swept ≡ workers_of old = ap workers_of c.shut_down_now.ensures.swept.is ∙ ap workers_of c.drop_kept.ensures.rest in
    sweep_steps old mid swept new (c.args.at, call.ShutdownNow) (ending answer.ShutdownNow c.shut_down_now.new.ends.items) width (ap workers_of c.release_each.ensures.rest)
    (λ calls past next before. c.drop_kept.ensures.stands calls past (c.args.at, call.ShutdownNow) next refl before) c.shut_down_now.ensures.sweeps c.release_each.ensures.stands

pub returns-clause-alive : goal.returns-clause-alive
returns-clause-alive g c =
    let mid = c.drop_kept.new.table in
    let n = c.drop_kept.new.notes in
    let room = vec_capacity c.args.ended.now in
    let count = c.requires.noted.0 in
    let ends = c.shut_down_now.new.ends.items in
    let swept = c.shut_down_now.new.self in
    let m : TableView = record (at_moment mid c.args.at) { shut = true; stopped = true } in
    let noted = noted_swept m swept ends count n.free n.entries n.slot_room room room c.shut_down_now.ensures.swept refl (c.drop_kept.ensures.noted count room c.requires.noted.1) in
    let gone = subst (All (IsEmptyAt c.release_each.new.table)) c.deref.ensures.value c.release_each.ensures.gone in
    λ alive. alive_swept m swept c.release_each.new.table ends n.entries count noted.index c.shut_down_now.ensures.swept gone c.release_each.ensures.leaves (c.drop_kept.ensures.alive alive)

pub returns-clause-gone : goal.returns-clause-gone
returns-clause-gone g c =
    let mid = c.drop_kept.new.table in
    let m : TableView = record (at_moment mid c.args.at) { shut = true; stopped = true } in
    let s = c.shut_down_now.ensures.swept in
    let empty = subst (All (IsEmptyAt c.release_each.new.table)) c.deref.ensures.value c.release_each.ensures.gone in
    record { each = gone_from c.args.table.now m c.shut_down_now.new.self c.release_each.new.table c.shut_down_now.new.ends.items s.is c.drop_kept.ensures.leaves s.over empty; ascending = s.ended.ascending }

pub returns-clause-leaves : goal.returns-clause-leaves
returns-clause-leaves g c =
    let m : TableView = record (at_moment c.drop_kept.new.table c.args.at) { shut = true; stopped = true } in
    leaves_swept c.args.table.now m c.shut_down_now.new.self c.release_each.new.table c.shut_down_now.new.ends.items c.drop_kept.ensures.leaves c.drop_kept.ensures.size c.shut_down_now.ensures.swept c.release_each.ensures.leaves c.release_each.ensures.size
