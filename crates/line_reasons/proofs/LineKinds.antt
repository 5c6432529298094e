-- The kinds of lines: one value alone has its line at the front of some bytes.
use Rattle.std.proofs.Common.{ℕ, List, [], ◌∷◌, ◌++◌, length, refl, sym, ap, arith, inl, inr, length-append}
use Rattle.executor_model.specs.declared.Event.{Event}
use Rattle.trace_text.specs.Spelling.{event_line, FitsEvent}
use Rattle.trace_text.specs.Reading.{IsRead, IsUnread}
use Rattle.trace_text.proofs.EventTexts.{event_ended, first_event}
use Rattle.trace_text.proofs.Parts.{IsOnce}
use Rattle.call_text.specs.declared.call.CallLine.{CallLine}
use Rattle.call_text.specs.Spelling.{call_line, FitsCall}
use Rattle.call_text.proofs.CallTexts.{first_call}
use Rattle.call_text.proofs.CallEnds.{call_ended}
use Rattle.call_text.proofs.LiveFronts.{not_both}
use Rattle.line_reasons.specs.declared.lines.Lines.{Lines}
use Rattle.line_reasons.specs.declared.lines.Lines.TheVariants as l
use Rattle.line_reasons.specs.LiveLines.{live_line, FitsLive}
use Rattle.line_reasons.specs.own.Kinds.{FitsIn, Value, spelling}
use Rattle.line_reasons.proofs.LineTexts.{HaveBytes}

-- ---- bytes

event_has_bytes : HaveBytes event_line FitsEvent
event_has_bytes e fits = let end = event_ended e fits in omega (arith, ap length end.is, length-append end.front (10 ∷ []))

call_has_bytes : HaveBytes call_line FitsCall
call_has_bytes c fits = let end = call_ended c fits in omega (arith, ap length end.is, length-append end.front (10 ∷ []))

live_line_has_bytes : HaveBytes live_line FitsLive
live_line_has_bytes (inl event) fits = event_has_bytes event fits
live_line_has_bytes (inr call) fits = call_has_bytes call fits

-- a line has a byte at least
pub has_bytes : (lines : Lines) → HaveBytes (spelling lines) (FitsIn lines)
has_bytes l.Events = event_has_bytes
has_bytes l.Live = live_line_has_bytes

-- ---- one value

live_line_once : IsOnce live_line FitsLive
live_line_once (inl e) (inl f) s t p q h = let r = first_event e f s t p q h in (ap inl r.0, r.1)
live_line_once (inl e) (inr c) s t p q h = absurd (not_both (event_line e ++ s) s t e c refl h)
live_line_once (inr c) (inl e) s t p q h = absurd (not_both (event_line e ++ t) t s e c refl (sym h))
live_line_once (inr c) (inr d) s t p q h = let r = first_call c d s t p q h in (ap inr r.0, r.1)

-- one line spells one value, and no line is the front of another
pub once : (lines : Lines) → IsOnce (spelling lines) (FitsIn lines)
once l.Events = first_event
once l.Live = live_line_once

-- ---- what stands at the front

-- an event's line is a line of each kind
pub event_read : (lines : Lines) (bytes rest : List ℕ) (event : Event) → IsRead event_line FitsEvent bytes event rest → (value : Value lines) × IsRead (spelling lines) (FitsIn lines) bytes value rest
event_read l.Events bytes rest event read = (event, read)
event_read l.Live bytes rest event read = (inl event, read)

-- where neither an event's line nor a call's stands there, none of a live run does
pub none_live : (bytes : List ℕ) → IsUnread event_line FitsEvent bytes → IsUnread call_line FitsCall bytes → IsUnread live_line FitsLive bytes
none_live bytes no_event no_call (inl event) rest fits h = no_event event rest fits h
none_live bytes no_event no_call (inr call) rest fits h = no_call call rest fits h
