-- An entry is kept or dropped.
use Rattle.std.proofs.Common.{◌-◌, get_or, set, refl, sym, ◌∙◌, arith}
use Rattle.live_core.specs.Empties.{held_numbers}
use Rattle.live_core.specs.own.Slots.{is_held}
use Rattle.live_core.proofs.Paired.{pairs_none, pairs_kept, pairs_left, pairs_full}
use Rattle.live_core.proofs.index.gather_held.Goals as goal

pub loop-i-init : goal.loop-i-init
loop-i-init c = pairs_none (is_held (held_numbers c.args.seats.now)) c.args.numbers.now c.args.slots.now _ c.requires.pairs refl

pub loop-i-preserved : goal.loop-i-preserved
loop-i-preserved c =
    pairs_left (is_held (held_numbers c.args.seats.now)) c.args.numbers.now c.args.slots.now c.loop-i.numbers c.loop-i.slots c.loop-i.from c.loop-i.i (c.loop-i.i - 1) c.requires.pairs (omega (arith, c.loop-i-test.true)) (sym c.is_held_in.ensures ∙ c.if-is_held_in.false) c.loop-i.invariant

pub loop-i-preserved-else-from-first : goal.loop-i-preserved-else-from-first
loop-i-preserved-else-from-first c =
    pairs_kept (is_held (held_numbers c.args.seats.now)) c.args.numbers.now c.args.slots.now c.loop-i.numbers c.loop-i.slots c.loop-i.from c.loop-i.i (c.loop-i.from - 1) (c.loop-i.i - 1) c.requires.pairs (omega (arith, c.loop-i-test.true)) (omega (arith, c.loop-i-test.true, c.loop-i.invariant.order)) (sym c.is_held_in.ensures ∙ c.if-is_held_in.true) c.loop-i.invariant

pub returns-then-from-first-clause-held : goal.returns-then-from-first-clause-held
returns-then-from-first-clause-held c =
    let test = is_held (held_numbers c.args.seats.now) in
    let numbers = c.loop-i.numbers in
    let slots = c.loop-i.slots in
    let place = c.loop-i.from - 1 in
    let k = c.loop-i.i - 1 in
    pairs_full test c.args.numbers.now c.args.slots.now (set numbers place (get_or numbers k 0)) (set slots place (get_or slots k 0)) place k c.args.tasks c.requires.pairs c.requires.few (c.if-from-first.true ∙ c.saturating_sub-first.ensures)
    (pairs_kept test c.args.numbers.now c.args.slots.now numbers slots c.loop-i.from c.loop-i.i place k c.requires.pairs (omega (arith, c.loop-i-test.true)) (omega (arith, c.loop-i-test.true, c.loop-i.invariant.order)) (sym c.is_held_in.ensures ∙ c.if-is_held_in.true) c.loop-i.invariant)
