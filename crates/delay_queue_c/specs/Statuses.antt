-- The numbers by which the calls answer, and which of them an insertion answers. (All of it is this project's rule.)
use Rattle.std.specs.Prelude.{ℕ, Bool, List, Option, length, is_some, nat_lt, if◌then◌else◌}
use Rattle.delay_queue.specs.Queues.{due_in}

-- the call did what it says
abbrev pub done : ℕ
done = 0

-- there is no entry to answer with: none is due, none is there, or none is of this task
abbrev pub no_entry : ℕ
no_entry = 1

-- the allocator refused
abbrev pub no_memory : ℕ
no_memory = 2

-- the slot is empty
abbrev pub no_queue : ℕ
no_queue = 3

-- the slot has a queue already
abbrev pub has_queue : ℕ
has_queue = 4

-- the task is not below the count of tasks
abbrev pub unknown_task : ℕ
unknown_task = 5

-- the task has an entry already
abbrev pub has_entry : ℕ
has_entry = 6

-- what an insertion answers, by whether the slot is full, the entries of its queue and the task
abbrev pub insert_status : Bool → List (Option ℕ) → ℕ → ℕ
insert_status full entries task =
    if full then (if nat_lt task (length entries) then (if is_some (due_in entries task) then has_entry else done) else unknown_task)
    else no_queue

-- what a call answers that looks the entry of a task up
abbrev pub look_status : Bool → List (Option ℕ) → ℕ → ℕ
look_status full entries task = if full then (if is_some (due_in entries task) then done else no_entry) else no_queue

-- what a call answers that needs a queue and nothing else
abbrev pub queue_status : Bool → ℕ
queue_status full = if full then done else no_queue
