-- What the least entry of each queue of a table says: which task the next start gets, and which kept tasks it meets.
use Rattle.std.proofs.Common.{◌≡◌, ℕ, ◌<◌, ◌≤◌, Bool, true, false, inl, inr, ◌⊎◌, Option, Some, None, refl, sym, ap, ◌∙◌, arith, subst}
use Rattle.std.proofs.lemmas.Bool.{false≢true, false_from_ne_true}
use Rattle.std.proofs.lemmas.Bool.Decides.{nat_tests}
use Rattle.std.proofs.lemmas.Option.{none-some, same_Some}
use Rattle.delay_queue.specs.Queues.{comes_before}
use Rattle.task_table.specs.declared.seat.Seat.{Seat}
use Rattle.task_table.specs.Seats.{task_in, slot_of, waits}
use Rattle.task_table.specs.Tables.{TableView}
use Rattle.task_table.specs.Firsts.{IsFirstDue, NoneDue, is_met, MeetsNone, NoneKept}
use Rattle.task_table.specs.Formed.{IsFormed}
use Rattle.task_table.specs.Orders.{IsLeastKey}
use Rattle.task_table.specs.own.Queues.{Queues, key_where, queued_key, kept_key}

-- of two entries of which the second does not come before the first, the first comes before the second, or they are of one number
either : (due number later other : ℕ) → comes_before later other due number ≡ false → (other ≡ number) ⊎ (comes_before due number later other ≡ true)
either due number later other q = grind (arith, nat_tests)

-- what does not come before an entry is due no earlier
not_earlier : (due number later other : ℕ) → comes_before later other due number ≡ false → due ≤ later
not_earlier due number later other q = grind (arith, nat_tests)

-- what comes before what is met is met
met_before : (now : ℕ) (first : Option Seat) (x y : Seat) → comes_before x.due x.number y.due y.number ≡ true → is_met now first y ≡ true → is_met now first x ≡ true
met_before now None x y p q = grind (arith, nat_tests)
met_before now (Some first) x y p q = grind (arith, nat_tests)

-- the task that stands in a queue
record HasKey (stands : Bool) (x : Seat) (due number : ℕ) : Type 0 where
  stood : stands ≡ true
  dues : x.due ≡ due
  named : x.number ≡ number

has_key : (stands : Bool) (x : Seat) (due number : ℕ) → key_where stands x ≡ Some (due, number) → HasKey stands x due number
has_key true x due number q =
    let same : (x.due, x.number) ≡ (due, number) = same_Some (x.due, x.number) (due, number) q in
    record { stood = refl; dues = ap (λ (k : ℕ × ℕ). k.0) same; named = ap (λ (k : ℕ × ℕ). k.1) same }
has_key false x due number q = absurd (none-some (due, number) q)

-- ---- the queue of the tasks that wait

-- the task of an entry
pub record Waits (m : TableView) (slot due number : ℕ) : Type 0 where
  pub x : Seat
  pub there : slot_of m.slots slot ≡ Some x
  pub waiting : waits (task_in x) ≡ true
  pub dues : x.due ≡ due
  pub named : x.number ≡ number

pub waits_at : (m : TableView) (entries kept : ℕ → Option (ℕ × ℕ)) (slot due number : ℕ) → Queues m entries kept → entries slot ≡ Some (due, number) → Waits m slot due number
waits_at m entries kept slot due number q e = by (slot_of m.slots slot) refl (sym (q.waiting slot) ∙ e)
  where
    by : (o : Option Seat) → slot_of m.slots slot ≡ o → queued_key o ≡ Some (due, number) → Waits m slot due number
    by None is e = absurd (none-some (due, number) e)
    by (Some x) is e = let k = has_key (waits (task_in x)) x due number e in record { x = x; there = is; waiting = k.stood; dues = k.dues; named = k.named }

-- the entry of a task that waits
pub entry_at : (m : TableView) (entries kept : ℕ → Option (ℕ × ℕ)) (slot : ℕ) (x : Seat) → Queues m entries kept → slot_of m.slots slot ≡ Some x → waits (task_in x) ≡ true → entries slot ≡ Some (x.due, x.number)
entry_at m entries kept slot x q there waiting = q.waiting slot ∙ (ap queued_key there ∙ ap (λ b. key_where b x) waiting)

-- the least entry is that of the task that the next start gets, where it is due
pub first_due : (m : TableView) (entries kept : ℕ → Option (ℕ × ℕ)) (slot due number : ℕ) (x : Seat) → IsFormed m → Queues m entries kept → IsLeastKey entries slot due number → slot_of m.slots slot ≡ Some x → due ≤ m.moment → IsFirstDue m slot x
first_due m entries kept slot due number x formed q least there reached =
    let here = has_key (waits (task_in x)) x due number (sym (q.waiting slot ∙ ap queued_key there) ∙ least.there) in
    record {
      there = there;
      waiting = here.stood;
      due = omega (arith, here.dues, reached);
      least = λ i y at waiting ripe.
          let after : comes_before y.due y.number x.due x.number ≡ false =
          (λ j. comes_before y.due y.number (here.dues j) (here.named j)) ∙ least.least i y.due y.number (entry_at m entries kept i y q at waiting)
          in
          elim (either x.due x.number y.due y.number after) [ inl same ↦ inl (formed.apart i slot y x at there same) | inr before ↦ inr before ];
    }

-- where the least entry is not due, none is
pub least_not_due : (m : TableView) (entries kept : ℕ → Option (ℕ × ℕ)) (slot due number : ℕ) → Queues m entries kept → IsLeastKey entries slot due number → m.moment < due → NoneDue m
least_not_due m entries kept slot due number q least ahead i y there waiting ripe =
    omega (arith, ahead, ripe, not_earlier due number y.due y.number (least.least i y.due y.number (entry_at m entries kept i y q there waiting)))

-- where no entry is due, no task is
pub none_due : (m : TableView) (entries kept : ℕ → Option (ℕ × ℕ)) → Queues m entries kept → ((i due number : ℕ) → entries i ≡ Some (due, number) → m.moment < due) → NoneDue m
none_due m entries kept q ahead i y there waiting ripe = omega (arith, ripe, ahead i y.due y.number (entry_at m entries kept i y q there waiting))

-- ---- the queue of kept tasks

-- the task of an entry
pub record Stays (m : TableView) (slot due number : ℕ) : Type 0 where
  pub x : Seat
  pub there : slot_of m.slots slot ≡ Some x
  pub kept : x.kept ≡ true
  pub dues : x.due ≡ due
  pub named : x.number ≡ number

pub stays_at : (m : TableView) (entries kept : ℕ → Option (ℕ × ℕ)) (slot due number : ℕ) → Queues m entries kept → kept slot ≡ Some (due, number) → Stays m slot due number
stays_at m entries kept slot due number q e = by (slot_of m.slots slot) refl (sym (q.keeping slot) ∙ e)
  where
    by : (o : Option Seat) → slot_of m.slots slot ≡ o → kept_key o ≡ Some (due, number) → Stays m slot due number
    by None is e = absurd (none-some (due, number) e)
    by (Some x) is e = let k = has_key x.kept x due number e in record { x = x; there = is; kept = k.stood; dues = k.dues; named = k.named }

-- the entry of a kept task
pub kept_at : (m : TableView) (entries kept : ℕ → Option (ℕ × ℕ)) (slot : ℕ) (x : Seat) → Queues m entries kept → slot_of m.slots slot ≡ Some x → x.kept ≡ true → kept slot ≡ Some (x.due, x.number)
kept_at m entries kept slot x q there held = q.keeping slot ∙ (ap kept_key there ∙ ap (λ b. key_where b x) held)

-- where a start does not meet the least kept task, it meets none
pub least_unmet : (m : TableView) (entries kept : ℕ → Option (ℕ × ℕ)) (slot due number : ℕ) (x : Seat) (first : Option Seat) → IsFormed m → Queues m entries kept → IsLeastKey kept slot due number → slot_of m.slots slot ≡ Some x →
    is_met m.moment first x ≡ false → MeetsNone m first
least_unmet m entries kept slot due number x first formed q least there unmet i y at held =
    elim (either x.due x.number y.due y.number after) [
      | inl same ↦ subst (λ (z : Seat). is_met m.moment first z ≡ false) (same_Some x y (sym there ∙ (ap (slot_of m.slots) (sym (formed.apart i slot y x at there same)) ∙ at))) unmet
      | inr before ↦ false_from_ne_true (is_met m.moment first y) (λ met. absurd (false≢true (sym unmet ∙ met_before m.moment first x y before met)))
    ]
  where
    here : HasKey x.kept x due number
    here = has_key x.kept x due number (sym (q.keeping slot ∙ ap kept_key there) ∙ least.there)

    after : comes_before y.due y.number x.due x.number ≡ false
    after = (λ j. comes_before y.due y.number (here.dues j) (here.named j)) ∙ least.least i y.due y.number (kept_at m entries kept i y q at held)

-- where no entry is kept, no task is
pub none_kept : (m : TableView) (entries kept : ℕ → Option (ℕ × ℕ)) → Queues m entries kept → ((i : ℕ) → kept i ≡ None) → NoneKept m
none_kept m entries kept q none i x there = false_from_ne_true x.kept (λ held. absurd (none-some (x.due, x.number) (sym (none i) ∙ kept_at m entries kept i x q there held)))
