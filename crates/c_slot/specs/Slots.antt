-- What a slot for an object owns. (This project's rule.)
use mir.Syntax.{Ty}
use base.Fml.{Fml, ftrue}
use denote.RawPtr.{Ptr}
use denote.RattleType.{RattleType}
use Rattle.std.specs.Prelude.{Bool, true, false}
use Rattle.std.specs.Box.Ownership.{box_owns}

-- A full slot owns its object, as a box does: the object's memory, what the object owns, and the right to free it. An empty
-- slot owns nothing.
abbrev pub slot_owns : (Ty → Ptr → Fml) → (R : RattleType) → Ptr → Bool → R.Denot → Fml
slot_owns holds R at true value = box_owns holds R at value
slot_owns holds R at false value = ftrue
