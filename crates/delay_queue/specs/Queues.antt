-- What the contracts of a delay queue speak of: its entries as a table by task number, and what its calls touched.
use Rattle.std.specs.Prelude.{◌≡◌, ℕ, ◌<◌, ◌≢◌, ◌⊎◌, is_some, count_by, Bool, true, ◌||◌, ◌&&◌, ◌==◌, nat_lt, List, Option, Some, None, slice_index_or}

-- A queue. At the place k of its entries stands `Some due` where it has the entry of task k, due at that moment, and
-- `None` where it has no entry of that task. So no task has two entries. Beside them stands how often its calls compared
-- two entries or changed the index of an entry that stays. (This project's rule.)
pub record Queue : Type 0 where
  pub entries : List (Option ℕ)
  pub touched : ℕ

-- When the entry of a task is due, and `None` where the queue has no entry of it, as for a task past the
-- count of tasks. (This project's rule.)
abbrev pub due_in : List (Option ℕ) → ℕ → Option ℕ
due_in entries task = slice_index_or entries task None

-- The order of two entries, (due, task) and (later, other): the earlier due moment first, and at the same
-- moment the smaller task number. (This project's rule, also for equal due moments. By due moment as in
-- DelayQueue, Java SE 17 documentation: "The head of the queue is that Delayed element whose delay expired
-- furthest in the past.")
abbrev pub comes_before : ℕ → ℕ → ℕ → ℕ → Bool
comes_before due task later other = nat_lt due later || ((due == later) && nat_lt task other)

-- The queue has the entry (due, task), and it comes before each other entry. (This project's rule, as in
-- DelayQueue, Java SE 17 documentation, `peek`: "returns the element that will expire next, if one exists".)
pub record IsLeast (entries : List (Option ℕ)) (due task : ℕ) : Type 0 where
  pub there : due_in entries task ≡ Some due
  pub least : (j d : ℕ) → due_in entries j ≡ Some d → (j ≡ task) ⊎ (comes_before due task d j ≡ true)

-- The queue has no entry. (This project's rule, as in DelayQueue, Java SE 17 documentation, `peek`: "or returns
-- null if this queue is empty".)
abbrev pub IsEmpty : List (Option ℕ) → Type 0
IsEmpty entries = (j d : ℕ) → due_in entries j ≢ Some d

-- Each entry is due after the moment `now`. (This project's rule, as in DelayQueue, Java SE 17 documentation, `poll`: "or
-- returns null if this queue has no elements with an expired delay".)
abbrev pub NoneIsDue : List (Option ℕ) → ℕ → Type 0
NoneIsDue entries now = (j d : ℕ) → due_in entries j ≡ Some d → now < d

-- How many entries there are. (This project's rule.)
abbrev pub entry_count : List (Option ℕ) → ℕ
entry_count entries = count_by is_some entries
