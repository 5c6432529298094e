-- What a slot of a delay queue owns. (This project's rule.)
use base.Fml.{Fml}
use denote.RawPtr.{Ptr}
use denote.RattleType.{RattleType}
use Rattle.std.specs.Prelude.{Bool}
use Rattle.std.specs.Global.{Global}
use Rattle.std.specs.contracts.alloc.Global as heap
use Rattle.std.specs.contracts.impls.GlobalAllocator.TheImpl.{ghosts}
use Rattle.c_slot.specs.Slots.{slot_owns}
use Rattle.delay_queue.specs.Queues.{Queue}
use Rattle.delay_queue.specs.contracts.queue.DelayQueue as queue

-- a queue over the heap, as the logic sees it
abbrev pub QueueRow : RattleType
QueueRow = queue.the_row heap.the_row ghosts

-- a full slot owns its queue, an empty one nothing
abbrev pub holds_queue : Global → Ptr → Bool → Queue → Fml
holds_queue alloc at full value = slot_owns (ghosts.dealloc_token alloc) QueueRow at full value
