-- What stands in the queues of a table, by slot: for each entry the due moment and the number of the task.
-- All of it is this project's rule, but where a source is named.
use Rattle.std.specs.Prelude.{◌≡◌, ℕ, ◌==◌, false, if◌then◌else◌, List, Option, Some}
use Rattle.std.specs.Option.{option_map}
use Rattle.delay_queue.specs.Queues.{comes_before}
use Rattle.delay_queue.specs.slots.Entries.{Key}
use Rattle.delay_queue.specs.slots.Queues.{key_in}

-- a queue once this stands at a slot
abbrev pub with_key : (ℕ → Option (ℕ × ℕ)) → ℕ → Option (ℕ × ℕ) → ℕ → Option (ℕ × ℕ)
with_key entries slot key i = if slot == i then key else entries i

-- an entry stands at a slot, and no other one comes before it (as in DelayQueue, Java SE 17 documentation, `peek`: "returns the
-- element that will expire next, if one exists")
pub record IsLeastKey (entries : ℕ → Option (ℕ × ℕ)) (slot due number : ℕ) : Type 0 where
  pub there : entries slot ≡ Some (due, number)
  pub least : (i later other : ℕ) → entries i ≡ Some (later, other) → comes_before later other due number ≡ false

-- the due moment and the number that a key stands for: the rank of an entry is the number of its task
abbrev pub pair_of : Key → ℕ × ℕ
pair_of key = (key.due, key.rank)

-- what stands in a queue, by slot
abbrev pub keys : List (Option Key) → ℕ → Option (ℕ × ℕ)
keys entries i = option_map pair_of (key_in entries i)
