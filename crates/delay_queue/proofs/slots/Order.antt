-- The order of entries.
use Rattle.std.proofs.Common.{◌≡◌, ◌≤◌, ◌≢◌, true, arith}
use Rattle.std.proofs.lemmas.Bool.Decides.{nat_tests}
use Rattle.delay_queue.specs.slots.Entries.{Seen, is_before}
use Rattle.delay_queue.specs.slots.own.Heaps.{IsInHeapOrder}

-- an entry that comes before another is in order with it
pub ordered_from_before : (e f : Seen) → is_before e f ≡ true → IsInHeapOrder e f
ordered_from_before e f h = grind (arith, nat_tests)

-- entries in order, one after the other
pub ordered_through : (e f g : Seen) → IsInHeapOrder e f → IsInHeapOrder f g → IsInHeapOrder e g
ordered_through e f g h k = grind (arith, nat_tests)

-- of two entries of two slots in order, the first comes before the second
pub before_from_ordered : (e f : Seen) → e.slot ≢ f.slot → IsInHeapOrder e f → is_before e f ≡ true
before_from_ordered e f apart h = grind (arith, nat_tests)

-- what is in order is due in order
pub due_from_ordered : (e f : Seen) → IsInHeapOrder e f → e.due ≤ f.due
due_from_ordered e f h = grind (arith, nat_tests)

-- an entry is in order with itself
pub ordered_self : (e : Seen) → IsInHeapOrder e e
ordered_self e = grind (arith, nat_tests)
