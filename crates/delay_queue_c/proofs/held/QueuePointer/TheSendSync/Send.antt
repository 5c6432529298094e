-- A slot's pointer may cross to another thread, since the queue may, and any thread may free its memory.
use mir.Raw.{raw}
use denote.RawPtr.{Ptr}
use denote.Memory.{lone}
use denote.Struct.Struct.{exits_of}
use denote.Struct.Owning.{shape, fields, to}
use denote.Param.Send.{IsSend, AllSend, owning_send, struct_send, sendable}
use base.Shift.{Keyless}
use Rattle.std.specs.Prelude.{Bool, true, false}
use Rattle.std.specs.Global.{Global}
use Rattle.std.proofs.Crossing as heap
use Rattle.std.proofs.alloc.Global.TheSendSync as handle
use Rattle.std.specs.contracts.alloc.Global as heap_type
use Rattle.std.specs.contracts.impls.GlobalAllocator.TheImpl.{ghosts}
use Rattle.std_alloc.proofs.SendSync.{quiet, lies}
use Rattle.delay_queue.specs.Queues.{Queue}
use Rattle.delay_queue.proofs.queue.DelayQueue.TheSendSync.{the_send as queue_sends}
use Rattle.delay_queue_c.specs.Held.{QueueRow, holds_queue}
use Rattle.delay_queue_c.specs.contracts.held.QueuePointer.{the_row, the_type}

crosses : (alloc : Global) (at : Ptr) (full : Bool) (value : Queue) → Keyless (holds_queue alloc at full value)
crosses alloc at true value = (lies QueueRow (queue_sends heap_type.the_row ghosts heap.send heap.frees) at value, heap.frees.frees alloc (raw (lone QueueRow.mir)) at)
crosses alloc at false value = tt

pub send : IsSend the_row
send =
    let all : AllSend (fields the_type) = (search sendable, (handle.the_field_send, tt)) in
    owning_send the_type all (λ h. crosses h.alloc h.ptr h.full h.value)
    (λ k. quiet (to the_type) (exits_of k (fields the_type)) ((struct_send (shape the_type) all).leaving k))
