use Rattle.std.proofs.Common.{take, drop, length, ◌-◌, subst, ap, arith, zero-le, length-drop}
use Rattle.std.proofs.KnownBytes.{Appends-nil, Appends-trans}
use Rattle.std.specs.Io.KnownBytes.{Appends}
use Rattle.std.proofs.lemmas.List.{take_rest}
use Rattle.byte_ends.proofs.Ranges.{take_next}
use Rattle.byte_ends.proofs.Tries.{bad_try, good_then_bad, good_then_good, good_try, no_try}
use Rattle.byte_ends.proofs.ends.write_text.Goals as goal

pub loop-at-init : goal.loop-at-init
loop-at-init g c =
    let sink = c.args.sink.now in
    record {
      written = Appends-nil (g.W.Sink.contents sink);
      counts = no_try (g.W.Sink.failed sink) (g.W.Sink.fruitless sink);
      within = zero-le;
    }

-- the text so far, and then what this write took
pub loop-at-preserved : goal.loop-at-preserved
loop-at-preserved g c =
    let text = c.args.text.now in
    let at = c.loop-at.at in
    let n = c.in-Some.n in
    let first = c.args.sink.now in
    let here = c.loop-at.sink in
    let there = c.write_some.new.sink in
    let so_far = c.loop-at.invariant in
    let taken = c.in-Some.ensures.bytes in
    let start = g.W.Sink.contents first in
    let before = g.W.Sink.contents here in
    let after = g.W.Sink.contents there in
    let rest = take (length text - at) (drop at text) in
    record {
      written = subst (Appends start after) (take_next at n text) (Appends-trans start before after (take at text) (take n rest) so_far.written taken.2);
      counts = good_then_good _ _ _ _ _ _ so_far.counts (good_try _ _ _ _ c.in-Some.ensures.counts);
      within = omega (arith, taken, ap length (take_rest text at), length-drop at text);
    }

-- this write was at fault
pub returns-in-None-clause-counts : goal.returns-in-None-clause-counts
returns-in-None-clause-counts g c = good_then_bad _ _ _ _ _ _ c.loop-at.invariant.counts (bad_try _ _ _ _ c.in-None.ensures.counts)
