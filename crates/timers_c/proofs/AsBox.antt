-- The row of a session on the heap, with its laws.
use mathlib.Core.List.{[]}
use mir.Syntax.{impl, tnil, dnil}
use denote.RattleType.{RattleType}
use denote.Signature.{Slot, plain}
use Rattle.std.specs.contracts.alloc.Global as heap
use Rattle.std.specs.contracts.impls.GlobalAllocator.TheImpl.{ghosts, dict}
use Rattle.std.proofs.alloc.Global.TheLaws as heap_laws
use Rattle.std_alloc.proofs.BoxSteps.Form.{Bx}
use Rattle.timers_c.proofs.session.Session.TheLaws as session_laws
use Rattle.c_slot.specs.contracts.kept.Kept as kept
use Rattle.timers_c.specs.Slots.{SessionRow}
use Rattle.timers_c.specs.contracts.held.SessionPointer as held

abbrev pub E : Bx
E = record { row = SessionRow; laws = session_laws.the_row_laws; al = record { row = heap.the_row; laws = heap_laws.the_row_laws; g = ghosts; d = dict; drops = impl [] tnil dnil } }

abbrev pub KeptRow : RattleType
KeptRow = kept.the_row SessionRow heap.the_row ghosts

abbrev pub from_kept : Slot 0
from_kept = plain (λ _. KeptRow)

abbrev pub from_held : Slot 0
from_held = plain (λ _. held.the_row)
