-- Reading: what stands at the front of some bytes, of events' lines and calls' lines (this project's rule).
use Rattle.std.specs.Prelude.{◌≡◌, ◌≢◌, ℕ, ◌<◌, ◌≤◌, List, ◌++◌, drop, length}
use Rattle.trace_text.specs.Spelling.{event_line, FitsEvent}
use Rattle.trace_text.specs.Reading.{IsRead, IsUnread, IsPart, IsFront}
use Rattle.trace_text.specs.declared.front.Front.TheVariants as front
use Rattle.call_text.specs.declared.call.CallLine.{CallLine}
use Rattle.call_text.specs.declared.live.LiveFront.{LiveFront}
use Rattle.call_text.specs.declared.live.LiveFront.TheVariants as live
use Rattle.call_text.specs.Spelling.{call_line, FitsCall}

-- one of four. `Event e n`: the line of the event e stands at the front, n bytes with its newline; `Call c n`: the line of the
-- call c does; `Part`: bytes of which more may make a line; `Refused`: none of these, so that the first line is no event's and
-- no call's, or is too long
abbrev pub IsLiveFront : LiveFront → List ℕ → Type 0
IsLiveFront (live.Event e n) bytes = IsFront (front.Event e n) bytes
IsLiveFront (live.Call c n) bytes = IsRead call_line FitsCall bytes c (drop n bytes) × (0 < n) × (n ≤ length bytes)
IsLiveFront live.Part bytes = IsPart bytes
IsLiveFront live.Refused bytes = IsUnread event_line FitsEvent bytes × IsUnread call_line FitsCall bytes × (IsPart bytes → ⊥)

-- one text spells one call, and no call's line is the front of another's
abbrev pub CallLinesAreOne : Type 0
CallLinesAreOne = (a b : CallLine) (rest tail : List ℕ) → FitsCall a → FitsCall b → call_line a ++ rest ≡ call_line b ++ tail → (a ≡ b) × (rest ≡ tail)

-- of some bytes one front is so: so no event's line and no call's line stand at the front of the same bytes
abbrev pub LiveFrontsAreOne : Type 0
LiveFrontsAreOne = (a b : LiveFront) (bytes : List ℕ) → IsLiveFront a bytes → IsLiveFront b bytes → a ≡ b

-- a front that is no part is so whatever follows
abbrev pub LiveFrontsStay : Type 0
LiveFrontsStay = (a : LiveFront) (bytes more : List ℕ) → a ≢ live.Part → IsLiveFront a bytes → IsLiveFront a (bytes ++ more)
