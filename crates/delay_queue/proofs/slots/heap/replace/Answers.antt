-- What sinking and rising touch together.
use Rattle.std.proofs.Common.{◌+◌, length, ◌∙◌, arith}
use Rattle.delay_queue.specs.slots.Entries.{seen}
use Rattle.delay_queue.proofs.slots.Digits.{digits_within, few_touches}
use Rattle.delay_queue.proofs.slots.Lookups.{seen_long}
use Rattle.delay_queue.proofs.slots.heap.replace.Goals as goal

pub returns-clause-few : goal.returns-clause-few
returns-clause-few g c =
    let all = seen_long g.R.Rank.rank c.args.heap.now in
    few_touches c.sink-hole.result.1 c.rise-risen.result c.args.place c.sink-hole.result.0 (length c.args.heap.now)
    (omega (arith, all, c.sink-hole.ensures.moves.inside (omega (arith, c.requires.inside, all)))) c.sink-hole.ensures.few c.rise-risen.ensures.few

pub overflow_add-result : goal.overflow_add-result
overflow_add-result g c = omega (arith, returns-clause-few g c, digits_within (length c.args.heap.now + 1) 33 (omega (arith, c.requires.few)))

pub overflow_add-result-2 : goal.overflow_add-result-2
overflow_add-result-2 g c = omega (arith, returns-clause-few g c, digits_within (length c.args.heap.now + 1) 33 (omega (arith, c.requires.few)))

pub returns-clause-keys : goal.returns-clause-keys
returns-clause-keys g c slot =
    let rank = g.R.Rank.rank in
    c.rise-risen.ensures.keys slot
    ∙ c.sink-hole.ensures.moves.keys (seen rank c.args.entry) (omega (arith, c.requires.inside, seen_long rank c.args.heap.now)) c.requires.placed slot
