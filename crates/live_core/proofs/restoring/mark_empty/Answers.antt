-- One slot more is marked, or is not empty, or is one of those before it.
use Rattle.std.proofs.Common.{◌≡◌, ◌+◌, ◌++◌, ◌∷◌, [], List, ℕ, Bool, true, false, length, get_or, take, set, refl, sym, ap, subst, ◌∙◌, arith, length-set}
use Rattle.std.proofs.lemmas.Bool.{false≢true}
use Rattle.std.proofs.lemmas.List.{length-replicate, take_all, take_more}
use Rattle.std.proofs.lemmas.Option.{slice_get-get_or}
use Rattle.live_core.specs.Empties.{held_numbers}
use Rattle.live_core.specs.own.Restoring.{AreOnceEmpty, AreMarked}
use Rattle.live_core.proofs.Held.{held_length, none_there}
use Rattle.live_core.proofs.Restored.{none_marked, none_once, once_marked, mark_more, among_at, twice, number_none}
use Rattle.live_core.proofs.restoring.mark_empty.Goals as goal

pub loop-slot-init : goal.loop-slot-init
loop-slot-init c = record {
  size = ap length c.requires ∙ length-replicate (length c.args.seats.now) false;
  marked = subst (λ (marks : List Bool). AreMarked marks []) (sym c.requires) (none_marked (length c.args.seats.now));
  each = none_once (held_numbers c.args.seats.now);
}

pub loop-slot-preserved : goal.loop-slot-preserved
loop-slot-preserved c =
    let seats = c.args.seats.now in
    let empty = c.args.empty.now in
    let i = c.loop-slot.slot-index in
    let slot = get_or empty i 0 in
    let kept = c.loop-slot.invariant in
    let there = c.is_empty_at.ensures.0 c.if-not-is_empty_at.false in
    let next : take i empty ++ slot ∷ [] ≡ take (i + 1) empty = sym (take_more empty i 0 c.loop-slot-test.true) in
    record {
      size = length-set c.loop-slot.marks slot true ∙ kept.size;
      marked = subst (λ (free : List ℕ). AreMarked (set c.loop-slot.marks slot true) free) next (mark_more c.loop-slot.marks (take i empty) slot kept.marked (omega (arith, there.0, kept.size)));
      each = subst (λ (free : List ℕ). AreOnceEmpty (held_numbers seats) free) next
          (once_marked (held_numbers seats) c.loop-slot.marks (take i empty) slot kept.marked kept.each (omega (arith, there.0, held_length seats)) (number_none seats slot there.1) c.if-marked.false);
    }

pub bounds-marks-place : goal.bounds-marks-place
bounds-marks-place c = omega (arith, (c.is_empty_at.ensures.0 c.if-not-is_empty_at.false).0, c.loop-slot.invariant.size)

pub returns-then-not-is_empty_at : goal.returns-then-not-is_empty_at
returns-then-not-is_empty_at c =
    let seats = c.args.seats.now in
    let empty = c.args.empty.now in
    let i = c.loop-slot.slot-index in
    let slot = get_or empty i 0 in
    let among = among_at empty i slot (slice_get-get_or empty i 0 c.loop-slot-test.true) in (
      λ q. absurd (false≢true q),
      λ each. absurd (false≢true (sym c.if-not-is_empty_at.true ∙ c.is_empty_at.ensures.1 (omega (arith, each.within slot among, held_length seats), none_there seats slot (each.empty slot among)))),
    )

pub returns-then-marked : goal.returns-then-marked
returns-then-marked c =
    let empty = c.args.empty.now in
    let i = c.loop-slot.slot-index in
    let slot = get_or empty i 0 in (
      λ q. absurd (false≢true q),
      λ each. absurd (twice empty i slot each.once (slice_get-get_or empty i 0 c.loop-slot-test.true) (sym (c.loop-slot.invariant.marked slot) ∙ c.if-marked.true)),
    )

pub returns : goal.returns
returns c =
    let all = take_all c.loop-slot.slot-index c.args.empty.now (omega (arith, c.loop-slot-test.false)) in (
      λ _. subst (λ (free : List ℕ). AreOnceEmpty (held_numbers c.args.seats.now) free) all c.loop-slot.invariant.each,
      λ _. refl,
    )
