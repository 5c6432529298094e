-- The slot of the task holds it still, and those behind it are left where they are.
use Rattle.std.proofs.Common.{◌+◌, ◌∙◌, drop, subst}
use Rattle.std.specs.Prelude.{slice_index_or, slice_set, None}
use Rattle.std.proofs.lemmas.List.{drop_more}
use Rattle.live_core.proofs.Alive.{leaves_released}
use Rattle.live_core.proofs.Swept.{AreOver, over_first, over_rest, slots_more, gone_rest}
use Rattle.live_core.proofs.sweeps.release_each.Goals as goal

pub release-requires-clause-noted : goal.release-requires-clause-noted
release-requires-clause-noted g c = (c.requires.noted.0, c.requires.noted.1, c.loop-task.invariant.noted c.requires.noted.0 c.requires.noted.1 c.requires.noted.2)

pub release-requires-clause-over : goal.release-requires-clause-over
release-requires-clause-over g c =
    let m = c.loop-task.table in
    let i = c.loop-task.task-index in
    let task = slice_index_or c.args.tasks.now i (record { number = 0; slot = 0 }) in
    over_first m task (drop (i + 1) c.args.tasks.now) (subst (AreOver m) (drop_more c.args.tasks.now i (record { number = 0; slot = 0 }) c.loop-task-test.true) c.loop-task.invariant.over)

pub loop-task-preserved : goal.loop-task-preserved
loop-task-preserved g c =
    let m = c.loop-task.table in
    let i = c.loop-task.task-index in
    let kept = c.loop-task.invariant in
    let task = slice_index_or c.args.tasks.now i (record { number = 0; slot = 0 }) in
    record {
      rest = slots_more c.args.table.now m c.release.new.table (slice_set m.slots task.slot None) kept.rest c.release.ensures.slots;
      noted = λ count room before. c.release.ensures.noted count room (kept.noted count room before);
      leaves = leaves_released c.args.table.now m c.release.new.table task.slot c.release.ensures.slots kept.leaves;
      size = c.release.ensures.leaves.size ∙ kept.size;
      stands = λ calls past st. c.release.ensures.stands calls past (kept.stands calls past st);
      over = over_rest m c.release.new.table task (drop (i + 1) c.args.tasks.now) c.release.ensures.slots
          (subst (AreOver m) (drop_more c.args.tasks.now i (record { number = 0; slot = 0 }) c.loop-task-test.true) kept.over);
      gone = gone_rest m c.release.new.table c.args.tasks.now i (record { number = 0; slot = 0 }) (drop (i + 1) c.args.tasks.now) c.loop-task-test.true
          (subst (AreOver m) (drop_more c.args.tasks.now i (record { number = 0; slot = 0 }) c.loop-task-test.true) kept.over) c.release.ensures.slots kept.gone;
    }
