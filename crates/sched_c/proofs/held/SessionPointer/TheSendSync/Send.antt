-- A slot's pointer may cross to another thread, since the session may, and any thread may free its memory.
use mir.Raw.{raw}
use denote.RawPtr.{Ptr}
use denote.Memory.{lone}
use denote.Struct.Struct.{exits_of}
use denote.Struct.Owning.{shape, fields, to}
use denote.Param.Send.{IsSend, AllSend, owning_send, struct_send, view_send, recorded_send, sendable}
use denote.Struct.Declared as declared
use base.Shift.{Keyless}
use Rattle.std.specs.Prelude.{Bool, true, false}
use Rattle.std.specs.Global.{Global}
use Rattle.std.proofs.Crossing as heap
use Rattle.std.proofs.alloc.Global.TheSendSync as handle
use Rattle.std.specs.contracts.alloc.Global as heap_type
use Rattle.std.specs.contracts.impls.GlobalAllocator.TheImpl.{ghosts}
use Rattle.std_alloc.proofs.SendSync.{quiet, lies}
use Rattle.std_alloc.proofs.vec.Vec.TheSendSync.{the_send as list_sends}
use Rattle.executor_core.proofs.machine.Core.TheSendSync.{the_send as core_sends}
use Rattle.executor_model.proofs.types.Line.TheSendSync.{the_send as line_sends}
use Rattle.executor_model.specs.contracts.types.Line as line_type
use Rattle.sched_c.specs.Seen.{Seen}
use Rattle.sched_c.specs.contracts.session.Session.TheInside as inside
use Rattle.sched_c.specs.Slots.{SessionRow, holds_session}
use Rattle.sched_c.specs.contracts.held.SessionPointer.{the_row, the_type}

-- a session may, since its core and its lines may
session_sends : IsSend SessionRow
session_sends =
    view_send inside.the_row _ _ _ _ (recorded_send (inside.the_field).row _ _ (inside.the_type).to_one (struct_send (declared.shape inside.the_type) (
      core_sends heap_type.the_row ghosts heap.send heap.frees,
      (list_sends line_type.the_row heap_type.the_row ghosts line_sends heap.send heap.frees, tt),
    )))

crosses : (alloc : Global) (at : Ptr) (full : Bool) (value : Seen) → Keyless (holds_session alloc at full value)
crosses alloc at true value = (lies SessionRow session_sends at value, heap.frees.frees alloc (raw (lone SessionRow.mir)) at)
crosses alloc at false value = tt

pub send : IsSend the_row
send =
    let all : AllSend (fields the_type) = (search sendable, (handle.the_field_send, tt)) in
    owning_send the_type all (λ h. crosses h.alloc h.ptr h.full h.value)
    (λ k. quiet (to the_type) (exits_of k (fields the_type)) ((struct_send (shape the_type) all).leaving k))
