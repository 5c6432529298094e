-- Reading: how far the input was read, and how the reading ends.
use Rattle.std.proofs.Common.{◌≡◌, ◌≢◌, ℕ, ◌+◌, ◌-◌, ◌*◌, ◌<◌, ◌≤◌, false, List, [], ◌∷◌, ◌++◌, drop, length, Option, inl, inr, ap, ◌∙◌, sym, subst, arith, append-nil, length-append, length-drop}
use Rattle.std.specs.Prelude.{◌==◌}
use Rattle.std.proofs.lemmas.Bool.{false≢true}
use Rattle.std.specs.Io.KnownBytes.{Consumes, IsAtEnd, Keeps, prepend_known}
use Rattle.std.proofs.lemmas.List.Elements.{All-nil}
use Rattle.executor_model.specs.declared.Event.TheVariants as v
use Rattle.trace_text.specs.Spelling.{FitsEvent}
use Rattle.trace_text.specs.Reading.{IsPart, most_event_bytes}
use Rattle.trace_text.proofs.Fronts.{some_bytes, unread_part}
use Rattle.sched_engine.specs.Inputs.{AreEvents, input_of}
use Rattle.byte_ends.specs.Refills.{piece}
use Rattle.pool_engine.specs.declared.clocks.ReadingError.TheVariants as r
use Rattle.sched_engine.proofs.Runs.{at_end, came, read_so_far, so_far, took}
use Rattle.sched_engine.proofs.Turns.{kept_none, nothing_read, smaller}
use Rattle.pool_engine.specs.ClockLines.{AreAllClocks, BeginsWithClock, EndsReading, IsNoClock, IsNoClockLine, TakenClocks, clock_events}
use Rattle.pool_engine.specs.own.ClockLines.{HasRead, IsRefusedForGood, TakesClocks}
use Rattle.pool_engine.proofs.ClockLists.{fit_on, lines_on}
use Rattle.pool_engine.proofs.Taking.{begins_whatever_follows, nothing_taken}

-- before anything was read
pub has_none : (limit : ℕ) (input : Option (List ℕ)) (held moments : List ℕ) → held ≡ [] → moments ≡ [] → HasRead limit input input held moments
has_none limit input held moments none new = subst (HasRead limit input input held) (sym new) (record {
  fit = All-nil FitsEvent;
  read = nothing_read input held none;
  within = omega arith;
})

-- bytes came in behind those held
has_more : (limit : ℕ) (input left next : Option (List ℕ)) (held bytes whole moments : List ℕ) → HasRead limit input left held moments → Consumes left next bytes → whole ≡ held ++ bytes → HasRead limit input next whole moments
has_more limit input left next held bytes whole moments h new all = record {
  fit = h.fit;
  read = came input left next held bytes whole (input_of (clock_events moments)) h.read new all;
  within = h.within;
}

-- the lines of some clocks in front of the bytes that are held were taken
has_taken : (limit : ℕ) (input left : Option (List ℕ)) (whole rest before after : List ℕ) (taken : ℕ) → HasRead limit input left whole before → TakesClocks whole taken before after → length after ≤ limit → rest ≡ drop taken whole
    → HasRead limit input left rest after
has_taken limit input left whole rest before after taken h k few is =
    let here = took input left whole (input_of (clock_events before)) (input_of (clock_events k.more)) taken h.read k.front in
    let there : input_of (clock_events before) ++ input_of (clock_events k.more) ≡ input_of (clock_events after) = sym (lines_on before k.more) ∙ ap (λ l. input_of (clock_events l)) (sym k.all) in
    record {
      fit = subst (λ l. AreEvents (clock_events l)) (sym k.all) (fit_on before k.more h.fit k.fit);
      read = subst (λ l. Consumes input (prepend_known l left) (input_of (clock_events after))) (sym is) (subst (Consumes input (prepend_known (drop taken whole) left)) there here);
      within = few;
    }

-- bytes came in, and the lines of some clocks in front of them were taken
pub has_turned : (limit : ℕ) (input left next : Option (List ℕ)) (held bytes whole rest before after : List ℕ) (taken : ℕ) → HasRead limit input left held before → Consumes left next bytes → whole ≡ held ++ bytes → TakesClocks whole taken before after
    → length after ≤ limit → rest ≡ drop taken whole → HasRead limit input next rest after
has_turned limit input left next held bytes whole rest before after taken h new all k few is =
    has_taken limit input next whole rest before after taken (has_more limit input left next held bytes whole before h new all) k few is

-- no bytes are a part of a line
pub none_is_part : (held : List ℕ) → held ≡ [] → IsPart held
none_is_part held none = subst IsPart (sym none) (All-nil (λ b. b ≢ 10), omega arith)

-- bytes that are not none are some
pub not_empty : (bytes : List ℕ) → false ≡ (length bytes == 0) → 0 < length bytes
not_empty [] not = absurd (false≢true not)
not_empty (b ∷ bytes) not = omega arith

-- ---- the ends of the reading

-- more of the input may follow what is held
taken_so_far : (limit : ℕ) (input left : Option (List ℕ)) (held moments : List ℕ) (IsAhead IsRest : List ℕ → Type 0) → HasRead limit input left held moments → length held ≤ piece → IsAhead held → ((more : List ℕ) → IsRest (held ++ more))
    → TakenClocks limit input left IsAhead IsRest moments
taken_so_far limit input left held moments IsAhead IsRest h near stops rest = record {
  fit = h.fit;
  ahead = held;
  read = read_so_far input left held (input_of (clock_events moments)) h.read;
  near = near;
  stops = stops;
  splits = so_far input left held (input_of (clock_events moments)) IsRest h.read rest;
  within = h.within;
}

-- the input has ended
taken_at_end : (limit : ℕ) (input left : Option (List ℕ)) (held moments : List ℕ) (IsAhead IsRest : List ℕ → Type 0) → HasRead limit input left held moments → IsAtEnd left → length held ≤ piece → IsAhead held → IsRest held
    → TakenClocks limit input left IsAhead IsRest moments
taken_at_end limit input left held moments IsAhead IsRest h end near stops rest = record {
  fit = h.fit;
  ahead = held;
  read = read_so_far input left held (input_of (clock_events moments)) h.read;
  near = near;
  stops = stops;
  splits = at_end input left held (input_of (clock_events moments)) IsRest h.read end rest;
  within = h.within;
}

-- with nothing held
pub ended : (limit : ℕ) (input left next : Option (List ℕ)) (held same moments : List ℕ) → HasRead limit input left held moments → Consumes left next [] → IsAtEnd next → same ≡ held → same ≡ [] → AreAllClocks limit input next moments
ended limit input left next held same moments h new end is none =
    taken_at_end limit input next same moments (λ ahead. ahead ≡ []) (λ rest. rest ≡ []) (has_more limit input left next held [] same moments h new (is ∙ sym (append-nil held))) end (omega (arith, ap length none)) none none

-- with a part of a line held
pub cut_off : (limit : ℕ) (input left next : Option (List ℕ)) (held same moments : List ℕ) (n : ℕ) → HasRead limit input left held moments → Consumes left next [] → IsAtEnd next → same ≡ held → IsPart held → 0 < length same → n ≡ length moments + 1
    → EndsReading (r.EventLine n) limit input next
cut_off limit input left next held same moments n h new end is part some count =
    let here : IsPart same = subst IsPart (sym is) part in (
      moments,
      taken_at_end limit input next same moments (IsNoClockLine next) (λ rest. IsNoClock rest × (0 < length rest)) (has_more limit input left next held [] same moments h new (is ∙ sym (append-nil held))) end
          (omega (arith, here.1)) (inr (here, some, end)) ((λ t tail fits. unread_part same here.0 (v.Clock t) tail fits), some),
      count,
    )

-- a line that is no clock's
pub refused : (limit : ℕ) (input left : Option (List ℕ)) (held moments : List ℕ) (n : ℕ) → HasRead limit input left held moments → length held ≤ piece → IsRefusedForGood held → n ≡ length moments + 1 → EndsReading (r.EventLine n) limit input left
refused limit input left held moments n h near stop is = (
  moments,
  taken_so_far limit input left held moments (IsNoClockLine left) (λ rest. IsNoClock rest × (0 < length rest)) h near
      (inl (subst IsNoClock (append-nil held) (stop.no []), stop.whole))
      (λ more. (stop.no more, omega (arith, some_bytes held stop.whole, length-append held more))),
  is,
)

-- a further clock at the limit
pub full : (limit : ℕ) (input left : Option (List ℕ)) (held moments : List ℕ) → HasRead limit input left held moments → length held ≤ piece → BeginsWithClock held → length moments ≡ limit → EndsReading r.Full limit input left
full limit input left held moments h near begins reached =
    (moments, taken_so_far limit input left held moments BeginsWithClock BeginsWithClock h near begins (λ more. begins_whatever_follows held more begins), reached)

-- a fault of the reader
pub faulted : (limit : ℕ) (input left next : Option (List ℕ)) (held moments : List ℕ) → HasRead limit input left held moments → Keeps left next → IsPart held → EndsReading r.Read limit input next
faulted limit input left next held moments h keeps part =
    (moments, taken_so_far limit input next held moments IsPart (λ rest. Unit {0}) (has_more limit input left next held [] held moments h (kept_none left next keeps) (sym (append-nil held))) (omega (arith, part.1)) part (λ more. tt))

-- want of memory
pub out_of_memory : (limit : ℕ) (input left : Option (List ℕ)) (held moments : List ℕ) → HasRead limit input left held moments → length held ≤ piece → EndsReading r.Memory limit input left
out_of_memory limit input left held moments h near =
    (moments, taken_so_far limit input left held moments (λ ahead. Unit {0}) (λ rest. Unit {0}) h near tt (λ more. tt))

-- ---- the reading ends

-- each turn brings a clock or a byte
pub smaller_left : (limit : ℕ) (held bytes whole rest before after : List ℕ) (taken : ℕ) → whole ≡ held ++ bytes → 0 < length bytes → TakesClocks whole taken before after → length after ≤ limit → rest ≡ drop taken whole
    → length rest < most_event_bytes → length held < most_event_bytes
    → (limit - length after) * (most_event_bytes + 1) + (most_event_bytes - length rest) < (limit - length before) * (most_event_bytes + 1) + (most_event_bytes - length held)
smaller_left limit held bytes whole rest before after taken all some k few is short part =
    smaller limit (length before) (length after) held bytes whole rest all some (omega (arith, ap length k.all, length-append before k.more)) few
    (λ same. is ∙ nothing_taken whole before after taken k same) short part

-- what is left of the bytes that are held is no more than a piece
pub nears : (rest whole : List ℕ) (taken : ℕ) → rest ≡ drop taken whole → length whole ≤ piece → length rest ≤ piece
nears rest whole taken is near = omega (arith, ap length is, length-drop taken whole, near)
