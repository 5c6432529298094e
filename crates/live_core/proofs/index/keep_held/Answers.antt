-- The entries at the end come to the front, in both lists.
use Rattle.std.proofs.Common.{◌≡◌, ◌+◌, ◌-◌, ◌≤◌, ◌∙◌, ℕ, List, take, drop, length, refl, sym, ap, arith}
use Rattle.std.specs.List.{copy_within}
use Rattle.std.proofs.lemmas.List.{take_rest, length-drop}
use Rattle.std.proofs.lemmas.List.Edits.{take-paste}
use Rattle.live_core.specs.own.Slots.{entries_of}
use Rattle.live_core.proofs.Paired.{paired_take, paired_drop}
use Rattle.live_core.proofs.index.keep_held.Goals as goal

-- one list whose end comes to the front
front : (all new : List ℕ) (from n : ℕ) → from ≤ length all → n ≡ length all - from → new ≡ copy_within all from (length all) 0 → take n new ≡ drop from all
front all new from n within is after =
    let size = length all - from in
    let zero : size ≡ 0 + size = omega arith in
    ap (λ (k : ℕ). take k new) is ∙ (ap (take size) after
    ∙ (ap (λ (k : ℕ). take k (copy_within all from (length all) 0)) zero ∙ (take-paste all 0 (drop from all) size (omega arith) (omega (arith, length-drop from all)) ∙ take_rest all from)))

pub returns-clause-kept : goal.returns-clause-kept
returns-clause-kept c =
    let numbers = c.gather_held-from.new.numbers in
    let slots = c.gather_held-from.new.slots in
    let from = c.gather_held-from.result in
    let n = length numbers - from in
    let told = c.gather_held-from.ensures in
    let paired : length numbers ≡ length slots = omega (arith, told.numbers, told.slots, c.requires.pairs) in
    sym (paired_take n c.copy_within.new.self c.copy_within-2.new.self)
    ∙ (ap (λ (l : List ℕ). entries_of l (take n c.copy_within-2.new.self)) (front numbers c.copy_within.new.self from n told.within refl c.copy_within.ensures.after)
    ∙ (ap (entries_of (drop from numbers)) (front slots c.copy_within-2.new.self from n (omega (arith, told.within, paired)) (ap (λ (k : ℕ). k - from) paired) c.copy_within-2.ensures.after)
    ∙ (paired_drop from numbers slots paired ∙ told.held)))
