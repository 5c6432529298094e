-- Statuses and their numbers.
use Rattle.std.specs.Prelude.{ℕ}
use Rattle.delay_queue_c.specs.Statuses.{done, no_entry, no_memory, no_queue, has_queue, unknown_task, has_entry}
use Rattle.delay_queue_c.specs.declared.status.Status.{Status}
use Rattle.delay_queue_c.specs.declared.status.Status.TheVariants.{Done, NoEntry, NoMemory, NoQueue, HasQueue, UnknownTask, HasEntry}

-- the number of each status
abbrev pub number_of : Status → ℕ
number_of Done = done
number_of NoEntry = no_entry
number_of NoMemory = no_memory
number_of NoQueue = no_queue
number_of HasQueue = has_queue
number_of UnknownTask = unknown_task
number_of HasEntry = has_entry
