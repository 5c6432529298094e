-- How the entries are kept: a heap of four children in a list, the least entry first, and beside it a list with the place of
-- each slot's entry in the heap. All of it is this project's rule.
use Rattle.std.specs.Prelude.{◌≡◌, ◌≢◌, ℕ, ◌+◌, ◌-◌, ◌*◌, ◌/◌, ◌^◌, ◌<◌, ◌≤◌, false, if◌then◌else◌, ◌==◌, List, length, map, Option, Some, None, slice_get, slice_index_or, slice_set}
use Rattle.std.specs.List.{range_with_len}
use Rattle.delay_queue.specs.slots.Entries.{Key, Seen, key_of, is_before}
use Rattle.delay_queue.specs.Touches.{binary_digits}

-- what is read past the end of a heap
abbrev pub no_entry : Seen
no_entry = record { due = 0; rank = 0; slot = 0 }

-- the entry at a place
abbrev pub entry_at : List Seen → ℕ → Seen
entry_at heap place = slice_index_or heap place no_entry

-- the place above a place, which has four below it
abbrev pub parent : ℕ → ℕ
parent place = (place - 1) / 4

-- the second entry does not come before the first
abbrev pub IsInHeapOrder : Seen → Seen → Type 0
IsInHeapOrder e f = is_before f e ≡ false

-- no entry comes before the one above it
pub record IsHeap (heap : List Seen) : Type 0 where
  pub ordered : (k : ℕ) → 0 < k → k < length heap → IsInHeapOrder (entry_at heap (parent k)) (entry_at heap k)

-- the place of each entry is the one that is noted for its slot
pub record IsPlaced (heap : List Seen) (places : List ℕ) : Type 0 where
  pub known : (k : ℕ) → k < length heap → (entry_at heap k).slot < length places
  pub noted : (k : ℕ) → k < length heap → slice_index_or places (entry_at heap k).slot 0 ≡ k

-- the key of an entry, if it is of that slot
abbrev pub key_if_of : Option Seen → ℕ → Option Key
key_if_of None slot = None
key_if_of (Some e) slot = if e.slot == slot then Some (key_of e) else None

-- the key of a slot's entry: at the place that is noted for the slot stands its entry, or it has none
abbrev pub key_in_heap : List Seen → List ℕ → ℕ → Option Key
key_in_heap heap places slot = key_if_of (slice_get heap (slice_index_or places slot 0)) slot

-- the key of each slot's entry
abbrev pub table : List Seen → List ℕ → List (Option Key)
table heap places = map (key_in_heap heap places) (range_with_len 0 (length places))

-- the same but for one place, the hole, whose entry does not count: those below it do not come before the one above it
pub record IsHeapAround (heap : List Seen) (hole : ℕ) : Type 0 where
  pub ordered : (k : ℕ) → 0 < k → k < length heap → k ≢ hole → parent k ≢ hole → IsInHeapOrder (entry_at heap (parent k)) (entry_at heap k)
  pub across : (k : ℕ) → 0 < k → k < length heap → parent k ≡ hole → 0 < hole → IsInHeapOrder (entry_at heap (parent hole)) (entry_at heap k)

-- an entry does not come after those right below a place
abbrev pub IsAboveChildren : List Seen → ℕ → Seen → Type 0
IsAboveChildren heap place e = (k : ℕ) → 0 < k → k < length heap → parent k ≡ place → IsInHeapOrder e (entry_at heap k)

-- a place right below another, whose entry does not come after those at its side
pub record IsLeastBelow (heap : List Seen) (place low : ℕ) : Type 0 where
  pub inside : low < length heap
  pub below : 0 < low
  pub parent_is : parent low ≡ place
  pub least : IsAboveChildren heap place (entry_at heap low)

-- A number that grows from each place to those below it by 2 at least, so that as many moves down are bounded by it: how many
-- binary digits three times the place and one more have.
abbrev pub level : ℕ → ℕ
level place = binary_digits (3 * place + 1)

-- the same once an entry is put into the hole
abbrev pub IsPlacedWith : List Seen → List ℕ → ℕ → Seen → Type 0
IsPlacedWith heap places hole e = IsPlaced (slice_set heap hole e) (slice_set places e.slot hole)

-- the same once an entry is put into the hole
abbrev pub key_with : List Seen → List ℕ → ℕ → Seen → ℕ → Option Key
key_with heap places hole e slot = key_in_heap (slice_set heap hole e) (slice_set places e.slot hole) slot

-- the hole went from one place to another, and entries into it: whatever entry is put into it, the places and the keys
-- are those that they would have been
pub record MovesHole (heap : List Seen) (places : List ℕ) (hole : ℕ) (heap' : List Seen) (places' : List ℕ) (hole' : ℕ) : Type 0 where
  pub heap_length : length heap' ≡ length heap
  pub places_length : length places' ≡ length places
  pub inside : hole < length heap → hole' < length heap
  pub placed : (e : Seen) → hole < length heap → IsPlacedWith heap places hole e → IsPlacedWith heap' places' hole' e
  pub keys : (e : Seen) → hole < length heap → IsPlacedWith heap places hole e → (slot : ℕ) → key_with heap' places' hole' e slot ≡ key_with heap places hole e slot

-- what is true of each queue: its heap and its places, and the heap's room
pub record IsWellFormedQueue (entries : List Seen) (places : List ℕ) (room : ℕ) : Type 0 where
  pub heap : IsHeap entries
  pub placed : IsPlaced entries places
  pub few : length places < 2 ^ 32
  pub roomy : length places ≤ room
