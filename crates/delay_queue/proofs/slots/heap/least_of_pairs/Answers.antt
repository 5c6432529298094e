-- The least of two pairs is the least of the four.
use Rattle.std.proofs.Common.{◌≡◌, ℕ, ◌+◌, ◌*◌, ◌≤◌, Bool, true, false, List, refl, subst, sym, arith}
use Rattle.std.proofs.lemmas.Bool.{false≢true}
use Rattle.std.specs.Prelude.{◌&&◌, ◌||◌, not}
use mir.Val.{bool_byte}
use Rattle.delay_queue.specs.slots.Entries.{Seen, seen_all}
use Rattle.delay_queue.specs.slots.own.Heaps.{entry_at, IsInHeapOrder}
use Rattle.delay_queue.proofs.slots.Order.{ordered_self, ordered_through}
use Rattle.delay_queue.proofs.slots.Holes.{above_four}
use Rattle.delay_queue.proofs.slots.Lookups.{seen_long}
use Rattle.delay_queue.proofs.slots.heap.least_of_pairs.Goals as goal

-- the entry at one place is not after the one at another
abbrev IsNotAfter : List Seen → ℕ → ℕ → Type 0
IsNotAfter heap m n = IsInHeapOrder (entry_at heap m) (entry_at heap n)

-- of two places the chosen one has the lesser entry
chosen : (heap : List Seen) (one other place : ℕ) (is_other : Bool) → (is_other ≡ true → place ≡ other) → (is_other ≡ false → place ≡ one)
    → (is_other ≡ true → IsNotAfter heap other one) → (is_other ≡ false → IsNotAfter heap one other) → IsNotAfter heap place one × IsNotAfter heap place other
chosen heap one other place true at_other at_one so unso =
    (subst (λ (n : ℕ). IsNotAfter heap n one) (sym (at_other refl)) (so refl), subst (λ (n : ℕ). IsNotAfter heap n other) (sym (at_other refl)) (ordered_self (entry_at heap other)))
chosen heap one other place false at_other at_one so unso =
    (subst (λ (n : ℕ). IsNotAfter heap n one) (sym (at_one refl)) (ordered_self (entry_at heap one)), subst (λ (n : ℕ). IsNotAfter heap n other) (sym (at_one refl)) (unso refl))

one_more : (b : Bool) (n : ℕ) → n ≡ bool_byte b → b ≡ true → n ≡ 1
one_more true n is so = is
one_more false n is so = absurd (false≢true so)

none_more : (b : Bool) (n : ℕ) → n ≡ bool_byte b → b ≡ false → n ≡ 0
none_more false n is unso = is
none_more true n is unso = absurd (false≢true (sym unso))

-- what is added up is the place of the lesser of both pairs' lesser ones
high_sum : (second fourth high : Bool) (most pair side : ℕ) → most ≡ bool_byte fourth → pair ≡ bool_byte high → side ≡ bool_byte ((high && fourth) || (not high && second)) → high ≡ true → 2 * pair + side ≡ 2 + most
high_sum second true true most pair side is_most is_pair is_side so = omega (arith, is_most, is_pair, is_side)
high_sum second false true most pair side is_most is_pair is_side so = omega (arith, is_most, is_pair, is_side)
high_sum second fourth false most pair side is_most is_pair is_side so = absurd (false≢true so)

low_sum : (second fourth high : Bool) (more pair side : ℕ) → more ≡ bool_byte second → pair ≡ bool_byte high → side ≡ bool_byte ((high && fourth) || (not high && second)) → high ≡ false → 2 * pair + side ≡ more
low_sum true fourth false more pair side is_more is_pair is_side unso = omega (arith, is_more, is_pair, is_side)
low_sum false fourth false more pair side is_more is_pair is_side unso = omega (arith, is_more, is_pair, is_side)
low_sum second fourth true more pair side is_more is_pair is_side unso = absurd (false≢true (sym unso))

at_most_one : (b : Bool) (n : ℕ) → n ≡ bool_byte b → n ≤ 1
at_most_one true n is = omega (arith, is)
at_most_one false n is = omega (arith, is)

pub returns : goal.returns
returns g c =
    let h = seen_all g.R.Rank.rank c.args.heap.now in
    let i = c.args.hole in
    let second = c.is_lesser_from-is_second in
    let fourth = c.is_lesser_from-is_fourth in
    let upper = c.is_lesser-is_high in
    let low = 4 * i + 1 + c.from.result in
    let high = 4 * i + 1 + 2 + c.from-2.result in
    let place = 4 * i + 1 + 2 * c.from-3.result + c.from-4.result in
    let of_low = chosen h (4 * i + 1 + 0) (4 * i + 1 + 1) low second.result
    (λ so. omega (arith, one_more second.result c.from.result c.from.ensures so)) (λ unso. omega (arith, none_more second.result c.from.result c.from.ensures unso)) second.ensures.yes second.ensures.no in
    let of_high = chosen h (4 * i + 1 + 2) (4 * i + 1 + 3) high fourth.result
    (λ so. omega (arith, one_more fourth.result c.from-2.result c.from-2.ensures so)) (λ unso. omega (arith, none_more fourth.result c.from-2.result c.from-2.ensures unso)) fourth.ensures.yes fourth.ensures.no in
    let at_high : upper.result ≡ true → place ≡ high = λ so. omega (arith, high_sum second.result fourth.result upper.result c.from-2.result c.from-3.result c.from-4.result c.from-2.ensures c.from-3.ensures c.from-4.ensures so) in
    let at_low : upper.result ≡ false → place ≡ low = λ unso. omega (arith, low_sum second.result fourth.result upper.result c.from.result c.from-3.result c.from-4.result c.from.ensures c.from-3.ensures c.from-4.ensures unso) in
    let of_both = chosen h low high place upper.result at_high at_low upper.ensures.yes upper.ensures.no in
    let e = entry_at h place in
    let through : (m n : ℕ) → IsNotAfter h place m → IsNotAfter h m n → IsNotAfter h place n = λ m n. ordered_through e (entry_at h m) (entry_at h n) in
    let at : (m n : ℕ) → m ≡ n → IsNotAfter h place m → IsNotAfter h place n = λ m n is order. subst (λ (k : ℕ). IsNotAfter h place k) is order in
    let few = at_most_one upper.result c.from-3.result c.from-3.ensures in
    let less = at_most_one ((upper.result && fourth.result) || (not upper.result && second.result)) c.from-4.result c.from-4.ensures in
    record {
      inside = omega (arith, seen_long g.R.Rank.rank c.args.heap.now, c.requires.four, few, less);
      below = omega arith;
      parent_is = omega (arith, few, less);
      least = above_four h i e (at (4 * i + 1 + 0) (4 * i + 1) (omega arith) (through low (4 * i + 1 + 0) of_both.0 of_low.0))
          (at (4 * i + 1 + 1) (4 * i + 2) (omega arith) (through low (4 * i + 1 + 1) of_both.0 of_low.1))
          (at (4 * i + 1 + 2) (4 * i + 3) (omega arith) (through high (4 * i + 1 + 2) of_both.1 of_high.0))
          (at (4 * i + 1 + 3) (4 * i + 4) (omega arith) (through high (4 * i + 1 + 3) of_both.1 of_high.1));
    }
