-- The key of a slot's entry, by the place that is noted for the slot.
use Rattle.std.proofs.Common.{◌≡◌, ◌≢◌, ⊎_elim, ℕ, ◌<◌, ◌≤◌, Bool, true, false, cond, List, Option, Some, None, length, get_or, eqb, refl, sym, ap, ◌∙◌, eq-eqb, ne_eqb, eqb-true}
use Rattle.std.specs.Prelude.{slice_get}
use Rattle.std.proofs.lemmas.Bool.{cases_lt}
use Rattle.std.proofs.lemmas.Option.{slice_get-get_or, slice_get_past, same_Some, none-some}
use Rattle.delay_queue.specs.slots.own.Heaps.{no_entry, entry_at, key_if_of, key_in_heap}
use Rattle.delay_queue.specs.slots.Entries.{Key, Seen, key_of}

-- the entry at the noted place is the slot's
pub key_here : (heap : List Seen) (places : List ℕ) (slot k : ℕ) (e : Seen) → get_or places slot 0 ≡ k → k < length heap → entry_at heap k ≡ e → e.slot ≡ slot
    → key_in_heap heap places slot ≡ Some (key_of e)
key_here heap places slot k e noted inside is same =
    ap (λ (n : ℕ). key_if_of (slice_get heap n) slot) noted
    ∙ ap (λ (o : Option Seen). key_if_of o slot) (slice_get-get_or heap k no_entry inside ∙ ap Some is)
    ∙ ap (λ (b : Bool). cond b (Some (key_of e)) None) (eq-eqb e.slot slot same)

-- another entry stands at the noted place
pub key_apart : (heap : List Seen) (places : List ℕ) (slot k : ℕ) (e : Seen) → get_or places slot 0 ≡ k → k < length heap → entry_at heap k ≡ e → e.slot ≢ slot
    → key_in_heap heap places slot ≡ None
key_apart heap places slot k e noted inside is apart =
    ap (λ (n : ℕ). key_if_of (slice_get heap n) slot) noted
    ∙ ap (λ (o : Option Seen). key_if_of o slot) (slice_get-get_or heap k no_entry inside ∙ ap Some is)
    ∙ ap (λ (b : Bool). cond b (Some (key_of e)) None) (ne_eqb e.slot slot apart)

-- no entry stands at the noted place
pub key_past : (heap : List Seen) (places : List ℕ) (slot k : ℕ) → get_or places slot 0 ≡ k → length heap ≤ k → key_in_heap heap places slot ≡ None
key_past heap places slot k noted past =
    ap (λ (n : ℕ). key_if_of (slice_get heap n) slot) noted ∙ ap (λ (o : Option Seen). key_if_of o slot) (slice_get_past heap k past)

-- two heaps with one entry at the noted place
pub key_alike : (heap heap' : List Seen) (places places' : List ℕ) (slot k : ℕ) → get_or places slot 0 ≡ k → get_or places' slot 0 ≡ k → k < length heap → k < length heap'
    → entry_at heap k ≡ entry_at heap' k → key_in_heap heap places slot ≡ key_in_heap heap' places' slot
key_alike heap heap' places places' slot k noted noted' inside inside' same =
    ap (λ (n : ℕ). key_if_of (slice_get heap n) slot) noted
    ∙ ap (λ (o : Option Seen). key_if_of o slot) (slice_get-get_or heap k no_entry inside ∙ ap Some same ∙ sym (slice_get-get_or heap' k no_entry inside'))
    ∙ sym (ap (λ (n : ℕ). key_if_of (slice_get heap' n) slot) noted')

-- the entry of a slot, with that key
pub record IsFound (heap : List Seen) (places : List ℕ) (slot : ℕ) (key : Key) (k : ℕ) : Type 0 where
  pub inside : k < length heap
  pub own : (entry_at heap k).slot ≡ slot
  pub same : key_of (entry_at heap k) ≡ key

if_found : (slot : ℕ) (key : Key) (e : Seen) (b : Bool) → eqb e.slot slot ≡ b → cond b (Some (key_of e)) None ≡ Some key → (e.slot ≡ slot) × (key_of e ≡ key)
if_found slot key e true test h = (eqb-true e.slot slot test, same_Some (key_of e) key h)
if_found slot key e false test h = absurd (none-some key h)

-- a slot that has an entry has it at the noted place
pub key_found : (heap : List Seen) (places : List ℕ) (slot : ℕ) (key : Key) → key_in_heap heap places slot ≡ Some key → IsFound heap places slot key (get_or places slot 0)
key_found heap places slot key h =
    let k : ℕ = get_or places slot 0 in
    ⊎_elim
    (λ (inside : k < length heap).
    let e : Seen = entry_at heap k in
    let r = if_found slot key e (eqb e.slot slot) refl (sym (ap (λ (o : Option Seen). key_if_of o slot) (slice_get-get_or heap k no_entry inside)) ∙ h) in
    record { inside = inside; own = r.0; same = r.1 })
    (λ (past : length heap ≤ k). absurd (none-some key (sym (key_past heap places slot k refl past) ∙ h)))
    (cases_lt k (length heap))
