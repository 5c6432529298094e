use Rattle.std.proofs.Common.{inl, refl, rules}
use Rattle.std.proofs.lemmas.List.{with_items_is, places}
use Rattle.byte_ends.proofs.Tries.{bad_try, good_then_bad, good_then_good, good_try}
use Rattle.command_work.proofs.Readings.{read_more}
use Rattle.command_work.proofs.files.front_of.Goals as goal

pub returns-in-Some-eq0-clause-counts : goal.returns-in-Some-eq0-clause-counts
returns-in-Some-eq0-clause-counts g c = good_then_good _ _ _ _ _ _ c.loop-filled.invariant.counts (good_try _ _ _ _ c.in-Some-eq0.ensures.counts)

-- what was read so far, and then what this read brought
pub loop-filled-preserved : goal.loop-filled-preserved
loop-filled-preserved g c =
    let so_far = c.loop-filled.invariant in
    let filled = c.loop-filled.filled in
    let read = c.in-Some.ensures in
    let items = with_items_is c.make_room.new.text c.read_behind.new.text (search (rules, places)) in
    record {
      read =
          rw items (read_more _ _ _ c.loop-filled.text.items c.make_room.new.text.items c.as_mut_slice.result.now c.read_behind.new.text filled c.in-Some.n
          c.make_room.ensures.front c.as_mut_slice.ensures.value c.read_behind.ensures.front so_far.read read.read);
      counts = good_then_good _ _ _ _ _ _ so_far.counts (good_try _ _ _ _ read.counts);
      within = rw items read.fits;
      few = search (rules, places);
    }

-- this read was at fault
pub returns-in-None-clause-counts : goal.returns-in-None-clause-counts
returns-in-None-clause-counts g c = inl (refl, good_then_bad _ _ _ _ _ _ c.loop-filled.invariant.counts (bad_try _ _ _ _ c.in-None.ensures.counts))
