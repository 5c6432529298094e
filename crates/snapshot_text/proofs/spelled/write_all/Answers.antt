use Rattle.byte_ends.proofs.Tries.{good_then_bad, good_then_good}
use Rattle.std.proofs.Common.{ℕ, List, take, drop, ◌++◌, subst}
use Rattle.std.specs.Prelude.{flat_map}
use Rattle.snapshot_text.proofs.Pages.{front_of_more, line_more, lines_cut, put_given}
use Rattle.snapshot_text.specs.own.Pages.{IsGiven}
use Rattle.snapshot_text.proofs.spelled.write_all.Goals as goal

pub returns-then-not-make_room-clause-given : goal.returns-then-not-make_room-clause-given
returns-then-not-make_room-clause-given g c = λ before text given.
    let so_far = c.loop-value.invariant.given before text given in
    let cut = c.if-not-make_room.ensures.given before _ so_far in
    front_of_more before (g.W.Sink.contents c.make_room.new.writer) (text ++ flat_map g.V.Spelled.spell (take c.loop-value.value-index c.args.values.now))
    (flat_map g.V.Spelled.spell (drop c.loop-value.value-index c.args.values.now)) (text ++ flat_map g.V.Spelled.spell c.args.values.now) cut.0
    (lines_cut g.V.Spelled.spell c.args.values.now c.loop-value.value-index text) cut.1 cut.2

pub returns-then-not-make_room-clause-counts : goal.returns-then-not-make_room-clause-counts
returns-then-not-make_room-clause-counts g c = good_then_bad _ _ _ _ _ _ c.loop-value.invariant.counts c.if-not-make_room.ensures.counts

pub loop-value-preserved : goal.loop-value-preserved
loop-value-preserved g c = record {
  given = λ before text given.
      let so_far = c.loop-value.invariant.given before text given in
      let room = c.if-not-make_room.ensures.given before _ so_far in
      let put = put_given before (g.W.Sink.contents c.make_room.new.writer) c.make_room.new.page c.put.new.page _ (g.V.Spelled.spell c.value-item.result) room c.put.ensures in
      subst (λ (l : List ℕ). IsGiven before (g.W.Sink.contents c.make_room.new.writer) c.put.new.page l)
      (line_more g.V.Spelled.spell c.args.values.now c.loop-value.value-index _ c.value-item.result text c.loop-value-test.true c.value-item.is) put;
  counts = good_then_good _ _ _ _ _ _ c.loop-value.invariant.counts c.if-not-make_room.ensures.counts;
}
