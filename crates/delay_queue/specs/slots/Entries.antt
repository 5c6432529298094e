-- Entries as contracts see them, the rank as a number, and their order.
use Rattle.std.specs.Prelude.{ℕ, Bool, ◌||◌, ◌&&◌, ◌==◌, nat_lt, List, map}
use Rattle.delay_queue.specs.declared.slots.entry.Entry.{Entry}

-- The key of an entry: when it is due, and its rank among the entries due at that moment. (This project's rule.)
pub record Key : Type 0 where
  pub due : ℕ
  pub rank : ℕ

-- An entry, with its rank as a number. (This project's rule.)
pub record Seen : Type 0 where
  pub due : ℕ
  pub rank : ℕ
  pub slot : ℕ

-- An entry of any kind of rank, by the number that each rank stands for. (This project's rule.)
abbrev pub seen : {X : Type 0} → (X → ℕ) → Entry X → Seen
seen rank e = record { due = e.due; rank = rank e.rank; slot = e.slot }

-- The same of each entry of a list. (This project's rule.)
abbrev pub seen_all : {X : Type 0} → (X → ℕ) → List (Entry X) → List Seen
seen_all rank entries = map (seen rank) entries

-- The key of an entry. (This project's rule.)
abbrev pub key_of : Seen → Key
key_of e = record { due = e.due; rank = e.rank }

-- The order of two entries, (key, slot) and (later, other): the earlier due moment first, at the same moment the lower
-- rank, and at the same rank the smaller slot number. (This project's rule, also for equal due moments. By due moment as
-- in DelayQueue, Java SE 17 documentation: "The head of the queue is that Delayed element whose delay expired furthest in
-- the past." Where the rank is the number of a submission it is that of ScheduledThreadPoolExecutor, Java SE 17
-- documentation: "Tasks scheduled for exactly the same execution time are enabled in first-in-first-out (FIFO) order of
-- submission.")
abbrev pub comes_before : Key → ℕ → Key → ℕ → Bool
comes_before key slot later other =
    nat_lt key.due later.due || ((key.due == later.due) && (nat_lt key.rank later.rank || ((key.rank == later.rank) && nat_lt slot other)))

-- The first entry comes before the second. (This project's rule.)
abbrev pub is_before : Seen → Seen → Bool
is_before e f = comes_before (key_of e) e.slot (key_of f) f.slot
