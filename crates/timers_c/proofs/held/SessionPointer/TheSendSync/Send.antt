-- A slot's pointer may cross to another thread, since the session may, and any thread may free its memory.
use mir.Raw.{raw}
use denote.RawPtr.{Ptr}
use denote.Memory.{lone}
use denote.Struct.Struct.{exits_of}
use denote.Struct.Owning.{shape, fields, to}
use denote.Param.Send.{IsSend, AllSend, owning_send, struct_send, view_send, recorded_send, sendable}
use denote.Struct.Declared as declared
use base.Shift.{Keyless}
use Rattle.std.specs.Prelude.{Bool, true, false}
use Rattle.std.specs.Global.{Global}
use Rattle.std.proofs.Crossing as heap
use Rattle.std.proofs.alloc.Global.TheSendSync as handle
use Rattle.std.specs.contracts.alloc.Global as heap_type
use Rattle.std.specs.contracts.impls.GlobalAllocator.TheImpl.{ghosts}
use Rattle.std_alloc.proofs.SendSync.{quiet, lies}
use Rattle.timers.proofs.timers.Timers.TheSendSync.{the_send as timers_send}
use Rattle.call_lines.proofs.last.Last.TheSendSync.{the_field_send as last_sends}
use Rattle.timers_c.specs.Seen.{Seen}
use Rattle.timers_c.specs.contracts.session.Session.TheInside as inside
use Rattle.timers_c.specs.Slots.{SessionRow, holds_session}
use Rattle.timers_c.specs.contracts.held.SessionPointer.{the_row, the_type}

-- a session may, since its timers and what it notes of the last call may
session_sends : IsSend SessionRow
session_sends =
    view_send inside.the_row _ _ _ _ (recorded_send (inside.the_field).row _ _ (inside.the_type).to_one (struct_send (declared.shape inside.the_type) (
      timers_send heap_type.the_row ghosts heap.send heap.frees,
      (last_sends, tt),
    )))

crosses : (alloc : Global) (at : Ptr) (full : Bool) (value : Seen) → Keyless (holds_session alloc at full value)
crosses alloc at true value = (lies SessionRow session_sends at value, heap.frees.frees alloc (raw (lone SessionRow.mir)) at)
crosses alloc at false value = tt

pub send : IsSend the_row
send =
    let all : AllSend (fields the_type) = (search sendable, (handle.the_field_send, tt)) in
    owning_send the_type all (λ h. crosses h.alloc h.ptr h.full h.value)
    (λ k. quiet (to the_type) (exits_of k (fields the_type)) ((struct_send (shape the_type) all).leaving k))
