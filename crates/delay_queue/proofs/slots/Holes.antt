-- How the order of a heap stands while entries move into its hole.
use Rattle.std.proofs.Common.{◌≡◌, ◌≢◌, ℕ, zero, suc, ◌+◌, ◌*◌, ◌<◌, ◌≤◌, ⊎_elim, List, [], ◌∷◌, ◌++◌, set, length, sym, ◌∙◌, ap, subst, subst₂, arith, length-set, length-append}
use Rattle.std.proofs.lemmas.Bool.{cases_eq}
use Rattle.std.proofs.lemmas.List.{get_or_append_left}
use Rattle.delay_queue.specs.slots.own.Heaps.{no_entry, entry_at, parent, IsInHeapOrder, IsHeap}
use Rattle.delay_queue.specs.slots.own.Heaps.{IsHeapAround, IsAboveChildren}
use Rattle.delay_queue.specs.slots.Entries.{Seen}
use Rattle.delay_queue.proofs.slots.Order.{ordered_through, ordered_self}
use Rattle.delay_queue.proofs.slots.Lookups.{at_same, at_other}

-- two entries in order, by what stands at their places
ordered_at : (heap : List Seen) (i j : ℕ) (e f : Seen) → entry_at heap i ≡ e → entry_at heap j ≡ f → IsInHeapOrder e f → IsInHeapOrder (entry_at heap i) (entry_at heap j)
ordered_at heap i j e f p q h = subst₂ IsInHeapOrder (sym p) (sym q) h

-- the entry above the hole moves down into it
pub around_up : (heap : List Seen) (hole up : ℕ) → hole < length heap → 0 < hole → parent hole ≡ up → IsHeapAround heap hole
    → IsHeapAround (set heap hole (entry_at heap up)) up
around_up heap hole up inside below above around =
    let e : Seen = entry_at heap up in
    let after : List Seen = set heap hole e in
    let len : length after ≡ length heap = length-set heap hole e in
    let here : entry_at after hole ≡ e = at_same heap hole e inside in
    record {
      ordered = λ k some short apart off.
          let rest : entry_at after k ≡ entry_at heap k = at_other heap hole k e (λ same. off (ap parent same ∙ above)) in
          ⊎_elim
          (λ (same : parent k ≡ hole). ordered_at after (parent k) k e (entry_at heap k) (ap (entry_at after) same ∙ here) rest
          (subst (λ (n : ℕ). IsInHeapOrder (entry_at heap n) (entry_at heap k)) above (around.across k some (omega arith) same below)))
          (λ (other : parent k ≢ hole). ordered_at after (parent k) k (entry_at heap (parent k)) (entry_at heap k)
          (at_other heap hole (parent k) e other) rest (around.ordered k some (omega arith) (λ same. off (ap parent same ∙ above)) other))
          (cases_eq (parent k) hole);
      across = λ k some short same high.
          let top : entry_at after (parent up) ≡ entry_at heap (parent up) = at_other heap hole (parent up) e (λ eq. omega arith) in
          let first : IsInHeapOrder (entry_at heap (parent up)) e = around.ordered up high (omega arith) (λ eq. omega arith) (λ eq. omega arith) in
          ⊎_elim
          (λ (moved : k ≡ hole). ordered_at after (parent up) k (entry_at heap (parent up)) e top (ap (entry_at after) moved ∙ here) first)
          (λ (other : k ≢ hole). ordered_at after (parent up) k (entry_at heap (parent up)) (entry_at heap k) top (at_other heap hole k e other)
          (ordered_through (entry_at heap (parent up)) e (entry_at heap k) first
          (subst (λ (n : ℕ). IsInHeapOrder (entry_at heap n) (entry_at heap k)) same (around.ordered k some (omega arith) other (λ eq. omega arith)))))
          (cases_eq k hole);
    }

-- an entry that comes before the one above the hole stands above those below the next hole
pub above_up : (heap : List Seen) (hole up : ℕ) (x : Seen) → hole < length heap → 0 < hole → parent hole ≡ up → IsHeapAround heap hole
    → IsInHeapOrder x (entry_at heap up) → IsAboveChildren (set heap hole (entry_at heap up)) up x
above_up heap hole up x inside below above around order = λ k some short same.
    let e : Seen = entry_at heap up in
    let after : List Seen = set heap hole e in
    let len : length after ≡ length heap = length-set heap hole e in
    ⊎_elim
    (λ (moved : k ≡ hole). subst (λ (f : Seen). IsInHeapOrder x f) (sym (ap (entry_at after) moved ∙ at_same heap hole e inside)) order)
    (λ (other : k ≢ hole). subst (λ (f : Seen). IsInHeapOrder x f) (sym (at_other heap hole k e other))
    (ordered_through x e (entry_at heap k) order
    (subst (λ (n : ℕ). IsInHeapOrder (entry_at heap n) (entry_at heap k)) same (around.ordered k some (omega arith) other (λ eq. omega arith)))))
    (cases_eq k hole)

-- the lesser of the entries right below the hole moves up into it
pub around_down : (heap : List Seen) (hole low : ℕ) → low < length heap → 0 < low → parent low ≡ hole → IsHeapAround heap hole
    → IsAboveChildren heap hole (entry_at heap low) → IsHeapAround (set heap hole (entry_at heap low)) low
around_down heap hole low inside below above around least =
    let e : Seen = entry_at heap low in
    let after : List Seen = set heap hole e in
    let len : length after ≡ length heap = length-set heap hole e in
    let here : entry_at after hole ≡ e = at_same heap hole e (omega arith) in
    record {
      ordered = λ k some short apart off.
          ⊎_elim
          (λ (moved : k ≡ hole). ordered_at after (parent k) k (entry_at heap (parent k)) e
          (at_other heap hole (parent k) e (λ eq. omega arith)) (ap (entry_at after) moved ∙ here)
          (subst (λ (n : ℕ). IsInHeapOrder (entry_at heap (parent n)) e) (sym moved) (around.across low below inside above (omega arith))))
          (λ (other : k ≢ hole).
          let rest : entry_at after k ≡ entry_at heap k = at_other heap hole k e other in
          ⊎_elim
          (λ (same : parent k ≡ hole). ordered_at after (parent k) k e (entry_at heap k) (ap (entry_at after) same ∙ here) rest (least k some (omega arith) same))
          (λ (else : parent k ≢ hole). ordered_at after (parent k) k (entry_at heap (parent k)) (entry_at heap k)
          (at_other heap hole (parent k) e else) rest (around.ordered k some (omega arith) other else))
          (cases_eq (parent k) hole))
          (cases_eq k hole);
      across = λ k some short same high.
          ordered_at after (parent low) k e (entry_at heap k) (ap (entry_at after) above ∙ here) (at_other heap hole k e (λ eq. omega arith))
          (subst (λ (n : ℕ). IsInHeapOrder (entry_at heap n) (entry_at heap k)) same (around.ordered k some (omega arith) (λ eq. omega arith) (λ eq. omega arith)));
    }

-- an entry that fits is put into the hole
pub heap_filled : (heap : List Seen) (hole : ℕ) (x : Seen) → hole < length heap → IsHeapAround heap hole → IsAboveChildren heap hole x
    → (0 < hole → IsInHeapOrder (entry_at heap (parent hole)) x) → IsHeap (set heap hole x)
heap_filled heap hole x inside around above below =
    let after : List Seen = set heap hole x in
    let len : length after ≡ length heap = length-set heap hole x in
    let here : entry_at after hole ≡ x = at_same heap hole x inside in
    record {
      ordered = λ k some short.
          ⊎_elim
          (λ (moved : k ≡ hole). ordered_at after (parent k) k (entry_at heap (parent k)) x
          (at_other heap hole (parent k) x (λ eq. omega arith)) (ap (entry_at after) moved ∙ here)
          (subst (λ (n : ℕ). IsInHeapOrder (entry_at heap (parent n)) x) (sym moved) (below (omega arith))))
          (λ (other : k ≢ hole).
          let rest : entry_at after k ≡ entry_at heap k = at_other heap hole k x other in
          ⊎_elim
          (λ (same : parent k ≡ hole). ordered_at after (parent k) k x (entry_at heap k) (ap (entry_at after) same ∙ here) rest (above k some (omega arith) same))
          (λ (else : parent k ≢ hole). ordered_at after (parent k) k (entry_at heap (parent k)) (entry_at heap k)
          (at_other heap hole (parent k) x else) rest (around.ordered k some (omega arith) other else))
          (cases_eq (parent k) hole))
          (cases_eq k hole);
    }

-- nothing stands below the last places
pub above_lowest : (heap : List Seen) (hole : ℕ) (x : Seen) → length heap ≤ 4 * hole + 1 → IsAboveChildren heap hole x
above_lowest heap hole x low k some short same = absurd (omega arith)

-- each place of a heap may be its hole
pub around_any : (heap : List Seen) (hole : ℕ) → hole < length heap → IsHeap heap → IsHeapAround heap hole
around_any heap hole inside is =
    record {
      ordered = λ k some short apart off. is.ordered k some short;
      across = λ k some short same high.
          ordered_through (entry_at heap (parent hole)) (entry_at heap hole) (entry_at heap k) (is.ordered hole high inside)
          (subst (λ (n : ℕ). IsInHeapOrder (entry_at heap n) (entry_at heap k)) same (is.ordered k some short));
    }

-- the place behind the last one may be the hole of a longer heap
pub around_pushed : (heap : List Seen) (x : Seen) → IsHeap heap → IsHeapAround (heap ++ x ∷ []) (length heap)
around_pushed heap x is =
    let len : length (heap ++ x ∷ []) ≡ length heap + 1 = length-append heap (x ∷ []) in
    let same : (k : ℕ) → k < length heap → entry_at (heap ++ x ∷ []) k ≡ entry_at heap k = λ k short. get_or_append_left heap (x ∷ []) no_entry k short in
    record {
      ordered = λ k some short apart off.
          let inside : k < length heap = omega (arith, short, len, apart) in
          ordered_at (heap ++ x ∷ []) (parent k) k (entry_at heap (parent k)) (entry_at heap k) (same (parent k) (omega (arith, some, inside))) (same k inside) (is.ordered k some inside);
      across = λ k some short at_end high. absurd (omega (arith, short, len, at_end, some));
    }

-- the first entry of a heap is in order with each
pub first_is_least : (heap : List Seen) (turns k : ℕ) → k ≤ turns → k < length heap → IsHeap heap → IsInHeapOrder (entry_at heap 0) (entry_at heap k)
first_is_least heap zero k small inside is = subst (λ (n : ℕ). IsInHeapOrder (entry_at heap 0) (entry_at heap n)) (omega arith) (ordered_self (entry_at heap 0))
first_is_least heap (suc turns) k small inside is =
    ⊎_elim
    (λ (none : k ≡ 0). subst (λ (n : ℕ). IsInHeapOrder (entry_at heap 0) (entry_at heap n)) (sym none) (ordered_self (entry_at heap 0)))
    (λ (some : k ≢ 0). ordered_through (entry_at heap 0) (entry_at heap (parent k)) (entry_at heap k)
    (first_is_least heap turns (parent k) (omega arith) (omega arith) is) (is.ordered k (omega arith) inside))
    (cases_eq k 0)

-- an entry that does not come after each of the four right below a place
pub above_four : (heap : List Seen) (hole : ℕ) (e : Seen) → IsInHeapOrder e (entry_at heap (4 * hole + 1)) → IsInHeapOrder e (entry_at heap (4 * hole + 2))
    → IsInHeapOrder e (entry_at heap (4 * hole + 3)) → IsInHeapOrder e (entry_at heap (4 * hole + 4)) → IsAboveChildren heap hole e
above_four heap hole e one two three four k some short same =
    let at : (n : ℕ) → k ≡ n → IsInHeapOrder e (entry_at heap n) → IsInHeapOrder e (entry_at heap k) = λ n is order. subst (λ (m : ℕ). IsInHeapOrder e (entry_at heap m)) (sym is) order in
    ⊎_elim (λ (is : k ≡ 4 * hole + 1). at (4 * hole + 1) is one)
    (λ (no : k ≢ 4 * hole + 1). ⊎_elim (λ (is : k ≡ 4 * hole + 2). at (4 * hole + 2) is two)
    (λ (nor : k ≢ 4 * hole + 2). ⊎_elim (λ (is : k ≡ 4 * hole + 3). at (4 * hole + 3) is three)
    (λ (not : k ≢ 4 * hole + 3). at (4 * hole + 4) (omega arith) four)
    (cases_eq k (4 * hole + 3)))
    (cases_eq k (4 * hole + 2)))
    (cases_eq k (4 * hole + 1))
