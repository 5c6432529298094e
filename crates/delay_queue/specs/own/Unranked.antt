-- How a queue is kept: as a queue of slots, whose entries have no rank. All of it is this project's rule.
use Rattle.std.specs.Prelude.{◌≡◌, ℕ, List, map, Option, Some, None}
use Rattle.delay_queue.specs.slots.Entries.{Key}
use Rattle.delay_queue.specs.slots.Queues.{due_by}

-- the key of an entry that is due at a moment
abbrev pub key_due : ℕ → Key
key_due due = record { due = due; rank = 0 }

-- the key of a slot's entry, by when the task is due
abbrev pub key_by : Option ℕ → Option Key
key_by None = None
key_by (Some due) = Some (key_due due)

-- the keys of all slots, by when the tasks are due
abbrev pub keys_by : List (Option ℕ) → List (Option Key)
keys_by entries = map key_by entries

-- each entry of a queue of slots has the rank 0: its due moment says all of its key
abbrev pub IsUnranked : List (Option Key) → Type 0
IsUnranked slots = slots ≡ keys_by (map due_by slots)
