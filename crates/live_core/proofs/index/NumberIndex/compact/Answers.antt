-- The entries that were kept are left, in both lists.
use Rattle.std.proofs.Common.{◌≡◌, ℕ, List, Option, ◌++◌, take, drop, ap, length, refl, sym, subst, ◌∙◌, arith}
use Rattle.std.proofs.Math.Seq.{take-append_seam}
use Rattle.std.proofs.lemmas.List.{length-take}
use Rattle.std.specs.Prelude.{min, vec_capacity}
use Rattle.std.specs.List.{filter}
use Rattle.task_table.specs.declared.seat.Seat.{Seat}
use Rattle.task_table.specs.declared.seat.TaskRef.{TaskRef}
use Rattle.live_core.specs.Empties.{held_numbers}
use Rattle.live_core.specs.own.Slots.{is_held, entries_of, Ascends, IndexView}
use Rattle.live_core.proofs.Few.{few_held}
use Rattle.live_core.proofs.Held.{held_count}
use Rattle.live_core.proofs.Paired.{paired_take, ascends_from_rises, pairs_ascend}
use Rattle.live_core.proofs.index.NumberIndex.compact.Goals as goal
use Rattle.live_core.proofs.index.NumberIndex.compact.Goals.{After-truncate-2}

-- what stands first in a list that was written over
written : (n size : ℕ) (new old out : List ℕ) → size ≡ length new → out ≡ take n (take size (new ++ drop (length new) old)) → out ≡ take n new
written n size new old out is cut = cut ∙ ap (take n) (subst (λ k. take k (new ++ drop (length new) old) ≡ new) (sym is) (take-append_seam new (drop (length new) old)))

-- the entries that are looked at are those of the index
seen : (held seats : List (Option Seat)) (numbers slots numbers_seen slots_seen : List ℕ) (entries : List TaskRef) → seats ≡ held → numbers_seen ≡ numbers → slots_seen ≡ slots → entries_of numbers slots ≡ entries →
    filter (is_held (held_numbers seats)) (entries_of numbers_seen slots_seen) ≡ filter (is_held (held_numbers held)) entries
seen held seats numbers slots numbers_seen slots_seen entries a b c d =
    ap (λ (l : List (Option Seat)). filter (is_held (held_numbers l)) (entries_of numbers_seen slots_seen)) a
    ∙ ap (filter (is_held (held_numbers held))) (ap (λ (l : List ℕ). entries_of l slots_seen) b ∙ (ap (entries_of numbers) c ∙ d))

-- those that were kept are left
left : (n : ℕ) (numbers slots numbers_left slots_left : List ℕ) (kept entries : List TaskRef) → numbers_left ≡ take n numbers → slots_left ≡ take n slots → take n (entries_of numbers slots) ≡ kept → kept ≡ entries → entries_of numbers_left slots_left ≡ entries
left n numbers slots numbers_left slots_left kept entries a b is same =
    ap (λ (l : List ℕ). entries_of l slots_left) a ∙ (ap (entries_of (take n numbers)) b ∙ (paired_take n numbers slots ∙ (is ∙ same)))

pub keep_held-kept-requires-clause-few : goal.keep_held-kept-requires-clause-few
keep_held-kept-requires-clause-few g c =
    let held = c.args.table.now.slots in
    let numbers = c.self.inside.numbers.items in
    let slots = c.self.inside.slots.items in
    let few = few_held (held_numbers held) (entries_of numbers slots) (ascends_from_rises numbers slots c.self.invariant.ascending) in
    let same = seen held c.seats.result.now numbers slots c.deref_mut.result.now c.deref_mut-2.result.now (entries_of numbers slots) c.seats.ensures c.deref_mut.ensures.value c.deref_mut-2.ensures.value refl in
    omega (arith, few, ap length same, held_count held, c.requires)

-- the entries ascend
rising : (g : _) (c : After-truncate-2 g) → Ascends c.args.self.now.entries
rising g c = subst Ascends (ap (λ (v : IndexView). v.entries) c.self.view_is) (ascends_from_rises c.self.inside.numbers.items c.self.inside.slots.items c.self.invariant.ascending)

numbers_left : (g : _) (c : After-truncate-2 g) → c.truncate.new.self.items ≡ take c.keep_held-kept.result c.keep_held-kept.new.numbers
numbers_left g c =
    let numbers = c.self.inside.numbers in
    let new = c.keep_held-kept.new.numbers in
    written c.keep_held-kept.result numbers.len new numbers.items c.truncate.new.self.items (omega (arith, c.keep_held-kept.ensures.numbers, ap length c.deref_mut.ensures.value, numbers.ok.0)) c.truncate.ensures.items

slots_left : (g : _) (c : After-truncate-2 g) → c.truncate-2.new.self.items ≡ take c.keep_held-kept.result c.keep_held-kept.new.slots
slots_left g c =
    let slots = c.self.inside.slots in
    let new = c.keep_held-kept.new.slots in
    written c.keep_held-kept.result slots.len new slots.items c.truncate-2.new.self.items (omega (arith, c.keep_held-kept.ensures.slots, ap length c.deref_mut-2.ensures.value, slots.ok.0)) c.truncate-2.ensures.items

-- the entries whose slot holds their task are left
all : (g : _) (c : After-truncate-2 g) → entries_of c.truncate.new.self.items c.truncate-2.new.self.items ≡ filter (is_held (held_numbers c.args.table.now.slots)) c.args.self.now.entries
all g c =
    let held = c.args.table.now.slots in
    let entries = c.args.self.now.entries in
    left c.keep_held-kept.result c.keep_held-kept.new.numbers c.keep_held-kept.new.slots c.truncate.new.self.items c.truncate-2.new.self.items
    (filter (is_held (held_numbers c.seats.result.now)) (entries_of c.deref_mut.result.now c.deref_mut-2.result.now)) (filter (is_held (held_numbers held)) entries)
    (numbers_left g c) (slots_left g c) c.keep_held-kept.ensures.kept
    (seen held c.seats.result.now c.self.inside.numbers.items c.self.inside.slots.items c.deref_mut.result.now c.deref_mut-2.result.now entries c.seats.ensures c.deref_mut.ensures.value c.deref_mut-2.ensures.value (ap (λ (v : IndexView). v.entries) c.self.view_is))

pub invariant_of-self : goal.invariant_of-self
invariant_of-self g c =
    let n = c.keep_held-kept.result in
    let new = c.keep_held-kept.new in
    let told = c.keep_held-kept.ensures in
    let size : length c.truncate.new.self.items ≡ length c.truncate-2.new.self.items =
    omega (arith, ap length (numbers_left g c), ap length (slots_left g c), length-take n new.numbers, length-take n new.slots, told.numbers, told.slots, ap length c.deref_mut.ensures.value, ap length c.deref_mut-2.ensures.value, c.self.invariant.size) in
    pairs_ascend (is_held (held_numbers c.args.table.now.slots)) c.truncate.new.self.items c.truncate-2.new.self.items c.args.self.now.entries size (all g c) (rising g c)

pub returns-clause-left : goal.returns-clause-left
returns-clause-left g c =
    let entries = all g c in
    let room : min (vec_capacity c.truncate.new.self) (vec_capacity c.truncate-2.new.self) ≡ c.args.self.now.room =
    ap (λ (k : ℕ). min k (vec_capacity c.truncate-2.new.self)) c.truncate.ensures.capacity ∙ (ap (min (vec_capacity c.self.inside.numbers)) c.truncate-2.ensures.capacity ∙ ap (λ (v : IndexView). v.room) c.self.view_is) in
    (λ i. record { entries = entries i; room = room i })

pub returns-clause-few : goal.returns-clause-few
returns-clause-few g c =
    let held = c.args.table.now.slots in
    omega (arith, few_held (held_numbers held) c.args.self.now.entries (rising g c), ap length (all g c), held_count held)
