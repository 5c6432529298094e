-- What the contracts of a queue speak of: its entries as a table by slot, and what its calls touched.
use Rattle.std.specs.Prelude.{◌≡◌, ℕ, ◌+◌, ◌-◌, ◌<◌, ◌≢◌, ◌⊎◌, ◌++◌, length, replicate, is_some, count_by, true, List, Option, Some, None, slice_index_or}
use Rattle.delay_queue.specs.slots.Entries.{Key, comes_before}

-- A queue. At the place k of its entries stands `Some key` where it has the entry of slot k, with that key, and `None`
-- where it has no entry of that slot. So no slot has two entries. There are as many places as slots that there is room
-- for. Beside them stands how often its calls compared two entries or changed the index of an entry that stays. (This
-- project's rule.)
pub record Queue : Type 0 where
  pub entries : List (Option Key)
  pub touched : ℕ

-- The key of a slot's entry, and `None` where the queue has no entry of it, as for a slot that there is no room for.
-- (This project's rule.)
abbrev pub key_in : List (Option Key) → ℕ → Option Key
key_in entries slot = slice_index_or entries slot None

-- When an entry with a key is due, where there is one. (This project's rule.)
abbrev pub due_by : Option Key → Option ℕ
due_by None = None
due_by (Some key) = Some key.due

-- The queue has the entry (key, slot), and it comes before each other entry. (This project's rule, as in DelayQueue, Java
-- SE 17 documentation, `peek`: "returns the element that will expire next, if one exists".)
pub record IsLeast (entries : List (Option Key)) (key : Key) (slot : ℕ) : Type 0 where
  pub there : key_in entries slot ≡ Some key
  pub least : (j : ℕ) (other : Key) → key_in entries j ≡ Some other → (j ≡ slot) ⊎ (comes_before key slot other j ≡ true)

-- The queue has no entry. (This project's rule, as in DelayQueue, Java SE 17 documentation, `peek`: "or returns null if
-- this queue is empty".)
abbrev pub IsEmpty : List (Option Key) → Type 0
IsEmpty entries = (j : ℕ) (key : Key) → key_in entries j ≢ Some key

-- Each entry is due after the moment `now`. (This project's rule, as in DelayQueue, Java SE 17 documentation, `poll`: "or
-- returns null if this queue has no elements with an expired delay".)
abbrev pub NoneIsDue : List (Option Key) → ℕ → Type 0
NoneIsDue entries now = (j : ℕ) (key : Key) → key_in entries j ≡ Some key → now < key.due

-- The entries once there is room for so many slots at least. The new slots have none. (This project's rule.)
abbrev pub with_slots : List (Option Key) → ℕ → List (Option Key)
with_slots entries slots = entries ++ replicate (slots - length entries) None

-- How many entries there are. (This project's rule.)
abbrev pub entry_count : List (Option Key) → ℕ
entry_count entries = count_by is_some entries
