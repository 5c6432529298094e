-- The task that is dropped leaves its slot.
use Rattle.std.proofs.Common.{◌∙◌, inl, length, refl, sym, ap, subst}
use Rattle.std.proofs.lemmas.List.{length-set}
use Rattle.task_table.specs.Tables.{TableView}
use Rattle.live_core.specs.Lives.{AreAlive}
use Rattle.live_core.specs.own.Formed.{AreNoted}
use Rattle.live_core.proofs.Alive.{alive_dropped, leaves_dropped, LeavesThere}
use Rattle.live_core.proofs.Swept.{noted_dropped, over_dropped, fewer_kept, slots_more, goes_dropped, goes_all, StaysUnkept, others_dropped}
use Rattle.task_table.specs.Ends.{sweeps_at}
use Rattle.task_table.specs.Changes.{unkept}
use Rattle.std.specs.Prelude.{slice_set, Some, None}
use Rattle.live_core.proofs.sweeps.drop_kept.Goals as goal

pub release-requires-clause-noted : goal.release-requires-clause-noted
release-requires-clause-noted g c =
    let n = c.loop-slot.notes in
    let count = c.requires.0 in
    let room = c.requires.1 in
    (count, room, noted_dropped c.loop-slot.table c.drop_kept.new.self c.in-Some.slot count n.free n.entries n.slot_room room c.in-Some.ensures.dropped (c.loop-slot.invariant.noted count room c.requires.2))

pub release-requires-clause-over : goal.release-requires-clause-over
release-requires-clause-over g c = over_dropped c.loop-slot.table c.drop_kept.new.self c.in-Some.slot c.in-Some.ensures.dropped

pub loop-slot-smaller : goal.loop-slot-smaller
loop-slot-smaller g c = fewer_kept c.loop-slot.table c.drop_kept.new.self c.release.new.table c.in-Some.slot c.in-Some.ensures.dropped c.release.ensures.slots

pub loop-slot-preserved : goal.loop-slot-preserved
loop-slot-preserved g c =
    let m = c.loop-slot.table in
    let n = c.loop-slot.notes in
    let mid = c.drop_kept.new.self in
    let slot = c.in-Some.slot in
    let d = c.in-Some.ensures.dropped in
    let kept = c.loop-slot.invariant in
    record {
      goes = goes_dropped c.args.table.now m mid c.release.new.table slot kept.goes d c.release.ensures.slots;
      others = others_dropped c.args.table.now m mid c.release.new.table slot kept.others d c.release.ensures.slots;
      leaves = leaves_dropped c.args.table.now m mid c.release.new.table slot (unkept d.task) d.is c.release.ensures.slots kept.leaves;
      size = c.release.ensures.leaves.size ∙ (ap (λ (v : TableView). length v.slots) d.is ∙ (length-set m.slots slot (Some (unkept d.task)) ∙ kept.size));
      rest = slots_more c.args.table.now mid c.release.new.table (slice_set mid.slots slot None)
          (slots_more c.args.table.now m mid (slice_set m.slots slot (Some (unkept d.task))) kept.rest d.is) c.release.ensures.slots;
      noted = λ count room before. c.release.ensures.noted count room (noted_dropped m mid slot count n.free n.entries n.slot_room room d (kept.noted count room before));
      alive = λ alive. alive_dropped m mid c.release.new.table slot d c.release.ensures.slots (kept.alive alive);
      stands = λ calls past p next sweeps before. c.release.ensures.stands_before calls past _
          (c.in-Some.ensures.steps calls past p next (ap (λ (v : TableView). sweeps_at v.shut p.1) kept.rest ∙ sweeps) (kept.stands calls past p next sweeps before));
      purges = λ calls past before. c.release.ensures.stands_before calls past _ (c.in-Some.ensures.purges calls past (kept.purges calls past before));
    }

pub returns-clause-noted : goal.returns-clause-noted
returns-clause-noted g c =
    let n = c.loop-slot.notes in
    λ count room before. subst (λ (v : TableView). AreNoted v.slots count n.free n.entries n.slot_room room) (sym c.in_default.ensures.none.0) (c.loop-slot.invariant.noted count room before)

pub loop-slot-init : goal.loop-slot-init
loop-slot-init g c = record {
  goes = λ i x there kept. inl there;
  others = λ i x there loose. there;
  leaves = λ i x there. there;
  size = refl;
  rest = refl;
  noted = λ count room before. before;
  alive = λ alive. alive;
  stands = λ calls past p next sweeps before. before;
  purges = λ calls past before. before;
}

pub returns-clause-gone : goal.returns-clause-gone
returns-clause-gone g c = goes_all c.args.table.now c.loop-slot.table c.drop_kept.new.self c.loop-slot.invariant.goes c.in_default.ensures.none.0 c.in_default.ensures.none.1

pub returns-clause-alive : goal.returns-clause-alive
returns-clause-alive g c = λ alive. subst (λ (v : TableView). AreAlive v.slots) (sym c.in_default.ensures.none.0) (c.loop-slot.invariant.alive alive)

pub returns-clause-leaves : goal.returns-clause-leaves
returns-clause-leaves g c = subst (LeavesThere c.args.table.now) (sym c.in_default.ensures.none.0) c.loop-slot.invariant.leaves

pub returns-clause-others : goal.returns-clause-others
returns-clause-others g c = subst (StaysUnkept c.args.table.now) (sym c.in_default.ensures.none.0) c.loop-slot.invariant.others

pub returns-clause-purges : goal.returns-clause-purges
returns-clause-purges g c = λ calls past before. c.in_default.ensures.purged calls past (c.loop-slot.invariant.purges calls past before)
