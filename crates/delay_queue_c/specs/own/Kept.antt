-- How a slot sees what it keeps.
use base.Stored.{Coded}
use Rattle.std.specs.Prelude.{[]}
use Rattle.delay_queue.specs.Queues.{Queue}
use Rattle.delay_queue_c.specs.Held.{QueueRow}

-- the code of a queue, as the logic sees it
abbrev pub queue_coded : Coded Queue
queue_coded = QueueRow.coded

-- what stands for the queue of an empty slot
abbrev pub nothing : Queue
nothing = record { entries = []; touched = 0 }
