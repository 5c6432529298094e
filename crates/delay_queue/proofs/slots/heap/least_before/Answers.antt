-- One more entry is looked at.
use Rattle.std.proofs.Common.{◌≡◌, ◌≢◌, ⊎_elim, ℕ, ◌+◌, ◌*◌, ◌<◌, ◌≤◌, List, subst, sym, arith}
use Rattle.std.proofs.lemmas.Bool.{cases_eq}
use Rattle.delay_queue.specs.slots.Entries.{Seen, seen_all}
use Rattle.delay_queue.specs.slots.own.Heaps.{entry_at, IsInHeapOrder}
use Rattle.delay_queue.proofs.slots.Lookups.{seen_long}
use Rattle.delay_queue.proofs.slots.Order.{ordered_self, ordered_through}
use Rattle.delay_queue.proofs.slots.heap.least_before.Goals as goal
use Rattle.delay_queue.proofs.slots.heap.least_before.Goals.{then-is_lesser, else-is_lesser}

-- no entry from one place to another comes before this one
abbrev IsLeastTo : List Seen → ℕ → ℕ → Seen → Type 0
IsLeastTo heap first end e = (k : ℕ) → first ≤ k → k < end → IsInHeapOrder e (entry_at heap k)

-- one more place
one_further : (heap : List Seen) (first place : ℕ) (e : Seen) → IsLeastTo heap first place e → IsInHeapOrder e (entry_at heap place) → IsLeastTo heap first (place + 1) e
one_further heap first place e least order k from to =
    ⊎_elim (λ (last : k ≡ place). subst (λ (n : ℕ). IsInHeapOrder e (entry_at heap n)) (sym last) order)
    (λ (other : k ≢ place). least k from (omega (arith, to, other)))
    (cases_eq k place)

-- an entry before the least one
lower : (heap : List Seen) (first end : ℕ) (e f : Seen) → IsLeastTo heap first end e → IsInHeapOrder f e → IsLeastTo heap first end f
lower heap first end e f least order k from to = ordered_through f e (entry_at heap k) order (least k from to)

pub loop-place-preserved : goal.loop-place-preserved
loop-place-preserved g c =
    let h = seen_all g.R.Rank.rank c.args.heap.now in
    let kept = c.loop-place.invariant in
    let first = 4 * c.args.hole + 1 in
    let place = c.loop-place.place in
    let at : (m n : ℕ) → m ≡ n → IsLeastTo h first (place + 1) (entry_at h n) → IsLeastTo h first (place + 1) (entry_at h m) = λ m n is least. subst (λ (k : ℕ). IsLeastTo h first (place + 1) (entry_at h k)) (sym is) least in
    elim c.if-is_lesser.branch [
      | then-is_lesser w ↦
          record {
            from = omega (arith, w.least-is, kept.from, kept.to);
            to = omega (arith, w.least-is);
            least = at c.if-is_lesser.least place w.least-is (one_further h first place (entry_at h place)
                (lower h first place (entry_at h c.loop-place.least) (entry_at h place) kept.least (c.is_lesser.ensures.yes w.if-is_lesser.true)) (ordered_self (entry_at h place)));
          }
      | else-is_lesser w ↦
          record {
            from = omega (arith, w.least-is, kept.from);
            to = omega (arith, w.least-is, kept.to);
            least = at c.if-is_lesser.least c.loop-place.least w.least-is (one_further h first place (entry_at h c.loop-place.least) kept.least (c.is_lesser.ensures.no w.if-is_lesser.false));
          }
    ]

pub returns : goal.returns
returns g c =
    let kept = c.loop-place.invariant in
    let all = seen_long g.R.Rank.rank c.args.heap.now in
    record {
      inside = omega (arith, all, kept.to, c.loop-place-test.false, c.loop-place.auto.place-end, c.requires.inside);
      below = omega (arith, kept.from);
      parent_is = omega (arith, kept.from, kept.to, c.loop-place-test.false, c.loop-place.auto.place-end, c.requires.few_below);
      least = λ k positive inside is. kept.least k (omega (arith, positive, is))
          (omega (arith, c.requires.all k positive (omega (arith, inside, all)) is, c.loop-place-test.false, c.loop-place.auto.place-end));
    }
