-- Taking: clock lines that were taken from the front of the bytes that are held.
use Rattle.std.proofs.Common.{◌≡◌, ℕ, ◌+◌, ◌-◌, ◌≤◌, List, [], ◌∷◌, ◌++◌, take, drop, length, refl, ap, ◌∙◌, sym, subst, arith, append_assoc, append-nil, take-append-drop, length-append}
use Rattle.std.proofs.lemmas.List.Elements.{All-cons, All-nil}
use Rattle.executor_model.specs.declared.Event.{Event}
use Rattle.executor_model.specs.declared.Event.TheVariants as v
use Rattle.trace_text.specs.Spelling.{FitsEvent, event_line}
use Rattle.trace_text.specs.Reading.{IsFront}
use Rattle.trace_text.specs.declared.front.Front.TheVariants as front
use Rattle.trace_text.proofs.EventTexts.{first_event}
use Rattle.trace_text.proofs.Fronts.{unread_part, unread_whatever_follows}
use Rattle.trace_text.proofs.Texts.{take_add}
use Rattle.sched_engine.specs.Inputs.{input_of}
use Rattle.sched_engine.proofs.Inputs.{fewer_left, line_is}
use Rattle.pool_engine.specs.declared.clocks.ClocksEnd.{ClocksEnd}
use Rattle.pool_engine.specs.declared.clocks.ClocksEnd.TheVariants as c
use Rattle.pool_engine.specs.ClockLines.{BeginsWithClock, clock_events}
use Rattle.pool_engine.specs.own.ClockLines.{IsClockRead, IsOther, IsRefusedForGood, StopsAt, IsNoClockEnd, TakesClocks}
use Rattle.pool_engine.proofs.ClockLists.{fit_on, lines_on}

-- no clock was taken yet
pub takes_none : (held before : List ℕ) (n : ℕ) → 0 ≡ n → TakesClocks held n before before
takes_none held before n none = subst (λ k. TakesClocks held k before before) none (record { more = []; fit = All-nil FitsEvent; front = refl; within = omega arith; all = sym (append-nil before) })

-- the line of one clock more was taken
pub takes_more : (held rest next before now after : List ℕ) (t : ℕ) → TakesClocks held (length held - length rest) before now → rest ≡ drop (length held - length rest) held → length rest ≤ length held
    → IsClockRead rest t next → after ≡ now ++ t ∷ [] → TakesClocks held (length held - length next) before after
takes_more held rest next before now after t k behind bound read more =
    let event = v.Clock t in
    let n = length held - length rest in
    let size = length (event_line event) in
    let one = t ∷ [] in
    let line : take size (drop n held) ≡ input_of (clock_events one) = ap (take size) (sym behind) ∙ line_is event rest next read.1 in
    let few = fewer_left event rest next read.1 in
    let count : n + size ≡ length held - length next = omega (arith, bound, few) in
    let all : take (n + size) held ≡ input_of (clock_events (k.more ++ one)) =
    sym (take_add n size held) ∙ (ap (λ l. l ++ take size (drop n held)) k.front ∙ (ap (λ l. input_of (clock_events k.more) ++ l) line ∙ sym (lines_on k.more one))) in
    record {
      more = k.more ++ one;
      fit = fit_on k.more one k.fit (All-cons FitsEvent event [] read.0 (All-nil FitsEvent));
      front = ap (λ i. take i held) (sym count) ∙ all;
      within = omega (arith, bound);
      all = more ∙ (ap (λ l. l ++ one) k.all ∙ append_assoc before k.more one);
    }

-- where no clock was taken, no byte was
pub nothing_taken : (held before after : List ℕ) (taken : ℕ) → TakesClocks held taken before after → length after ≡ length before → drop taken held ≡ held
nothing_taken held before after taken k same = by k.more k.front k.all
  where
    by : (more : List ℕ) → take taken held ≡ input_of (clock_events more) → after ≡ before ++ more → drop taken held ≡ held
    by [] front all = ap (λ l. l ++ drop taken held) (sym front) ∙ take-append-drop taken held
    by (t ∷ more) front all = absurd (omega (arith, same, ap length all, length-append before (t ∷ more)))

-- ---- what stands at the front of the bytes that are left

-- a clock's line
pub clock_read : (rest next : List ℕ) (event : Event) (t : ℕ) → FitsEvent event → rest ≡ event_line event ++ next → event ≡ v.Clock t → IsClockRead rest t next
clock_read rest next event t fits is clock = (subst FitsEvent clock fits, is ∙ ap (λ (e : Event). event_line e ++ next) clock)

-- a clock's line stands there whatever follows
pub begins_whatever_follows : (rest more : List ℕ) → BeginsWithClock rest → BeginsWithClock (rest ++ more)
begins_whatever_follows rest more begins =
    (begins.0, begins.1 ++ more, begins.2, ap (λ l. l ++ more) begins.3 ∙ append_assoc (event_line (v.Clock begins.0)) begins.1 more)

-- the line of another event
pub other_refused : (rest next : List ℕ) (event : Event) → IsOther event → FitsEvent event → rest ≡ event_line event ++ next → IsRefusedForGood rest
other_refused rest next event other fits is = record {
  no = λ more t tail fit same.
      other t (first_event event (v.Clock t) (next ++ more) tail fits fit (sym (append_assoc (event_line event) next more) ∙ (ap (λ l. l ++ more) (sym is) ∙ same))).0;
  whole = λ part. unread_part rest part.0 event next fits is;
}

-- no event's line
pub front_refused : (rest : List ℕ) → IsFront front.Refused rest → IsRefusedForGood rest
front_refused rest refused = record {
  no = λ more t tail fit. unread_whatever_follows rest refused.0 refused.1 more (v.Clock t) tail fit;
  whole = refused.1;
}

-- why some bytes do not begin with a clock's line is why no further clock was taken of them
pub stops_there : (e : ClocksEnd) (count limit : ℕ) (rest : List ℕ) → IsNoClockEnd e rest → StopsAt e count limit rest
stops_there c.Part count limit rest p = p
stops_there c.Refused count limit rest p = p
stops_there c.Full count limit rest p = absurd p
stops_there c.Memory count limit rest p = absurd p
