-- What a slot owns. (This project's rule.)
use base.Fml.{Fml}
use denote.RawPtr.{Ptr}
use denote.RattleType.{RattleType}
use Rattle.std.specs.Prelude.{Bool}
use Rattle.std.specs.Global.{Global}
use Rattle.std.specs.contracts.impls.GlobalAllocator.TheImpl.{ghosts}
use Rattle.c_slot.specs.Slots.{slot_owns}
use Rattle.timers_c.specs.Seen.{Seen}
use Rattle.timers_c.specs.contracts.session.Session as session

-- a session, as the logic sees it
abbrev pub SessionRow : RattleType
SessionRow = session.the_row

-- a full slot owns its session, an empty one nothing
abbrev pub holds_session : Global → Ptr → Bool → Seen → Fml
holds_session alloc at full value = slot_owns (ghosts.dealloc_token alloc) SessionRow at full value
