use Rattle.std.proofs.Common.{◌≡◌, ◌≤◌, ℕ, List, ap, sym, ◌∙◌, arith, length, drop, subst}
use Rattle.std.specs.Prelude.{vec_len}
use Rattle.trace_text.specs.Reading.{IsPart}
use Rattle.byte_ends.proofs.Tries.{bad_try, good_then_bad, good_then_good, good_try, no_try}
use Rattle.pool_engine.specs.ClockLines.{BeginsWithClock}
use Rattle.pool_engine.specs.declared.clocks.ClocksEnd.{ClocksEnd}
use Rattle.pool_engine.specs.own.ClockLines.{IsRefusedForGood, StopsAt, TakesClocks}
use Rattle.pool_engine.proofs.Reading.{cut_off, faulted, full, has_none, has_turned, nears, none_is_part, not_empty, out_of_memory, refused, smaller_left}
use Rattle.pool_engine.proofs.clocks.read_clocks.Goals as goal

pub loop-held-init : goal.loop-held-init
loop-held-init g c = record {
  read = has_none c.args.limit (g.S.Source.remaining c.args.reader.now) c.in_ok-held.held c.new-moments.result.items c.in_ok-held.ensures c.new-moments.ensures.items;
  part = none_is_part c.in_ok-held.held c.in_ok-held.ensures;
  counts = no_try (g.S.Source.failed c.args.reader.now) (g.S.Source.fruitless c.args.reader.now);
}

pub loop-held-preserved : goal.loop-held-preserved
loop-held-preserved g c =
    let left = g.S.Source.remaining c.fill.new.source in
    let whole = c.fill.new.self in
    let more = c.in-More.ensures.bytes in
    let t = c.take_clocks-taken in
    let taken = t.result.0 in
    let before = c.loop-held.moments.items in
    let after = t.new.moments.items in
    let same = c.bytes-in-loop-held.ensures.bytes in
    let kept = c.loop-held.invariant in
    let takes = subst (λ (l : List ℕ). TakesClocks l taken before after) same t.ensures.taken in
    let few : length after ≤ c.args.limit = omega (arith, t.ensures.few, t.new.moments.ok.0) in
    let rest : drop taken c.bytes-in-loop-held.result.now ≡ c.skip.new.self = ap (λ l. drop taken l) same ∙ sym c.skip.ensures in
    let stop = subst (λ (e : ClocksEnd). StopsAt e (vec_len t.new.moments) c.args.limit (drop taken c.bytes-in-loop-held.result.now)) c.in-Part.is t.ensures.end in
    let read = has_turned _ _ _ left c.loop-held.held more.0 whole c.skip.new.self before after taken kept.read more.1 more.2 takes few c.skip.ensures in
    record {
      read = read;
      part = subst IsPart rest stop;
      counts = good_then_good _ _ _ _ _ _ kept.counts (good_try _ _ _ _ c.in-More.ensures.counts);
    }

pub loop-held-smaller : goal.loop-held-smaller
loop-held-smaller g c =
    let left = g.S.Source.remaining c.fill.new.source in
    let whole = c.fill.new.self in
    let more = c.in-More.ensures.bytes in
    let t = c.take_clocks-taken in
    let taken = t.result.0 in
    let before = c.loop-held.moments.items in
    let after = t.new.moments.items in
    let same = c.bytes-in-loop-held.ensures.bytes in
    let kept = c.loop-held.invariant in
    let takes = subst (λ (l : List ℕ). TakesClocks l taken before after) same t.ensures.taken in
    let few : length after ≤ c.args.limit = omega (arith, t.ensures.few, t.new.moments.ok.0) in
    let rest : drop taken c.bytes-in-loop-held.result.now ≡ c.skip.new.self = ap (λ l. drop taken l) same ∙ sym c.skip.ensures in
    let stop = subst (λ (e : ClocksEnd). StopsAt e (vec_len t.new.moments) c.args.limit (drop taken c.bytes-in-loop-held.result.now)) c.in-Part.is t.ensures.end in
    smaller_left c.args.limit c.loop-held.held more.0 whole c.skip.new.self before after taken more.2 more.3 takes few c.skip.ensures (subst IsPart rest stop).1 kept.part.1

pub returns-in-Refused-clause-ends : goal.returns-in-Refused-clause-ends
returns-in-Refused-clause-ends g c =
    let left = g.S.Source.remaining c.fill.new.source in
    let whole = c.fill.new.self in
    let more = c.in-More.ensures.bytes in
    let t = c.take_clocks-taken in
    let taken = t.result.0 in
    let before = c.loop-held.moments.items in
    let after = t.new.moments.items in
    let same = c.bytes-in-loop-held.ensures.bytes in
    let kept = c.loop-held.invariant in
    let takes = subst (λ (l : List ℕ). TakesClocks l taken before after) same t.ensures.taken in
    let few : length after ≤ c.args.limit = omega (arith, t.ensures.few, t.new.moments.ok.0) in
    let rest : drop taken c.bytes-in-loop-held.result.now ≡ c.skip.new.self = ap (λ l. drop taken l) same ∙ sym c.skip.ensures in
    let stop = subst (λ (e : ClocksEnd). StopsAt e (vec_len t.new.moments) c.args.limit (drop taken c.bytes-in-loop-held.result.now)) c.in-Refused.is t.ensures.end in
    let read = has_turned _ _ _ left c.loop-held.held more.0 whole c.skip.new.self before after taken kept.read more.1 more.2 takes few c.skip.ensures in
    refused _ _ left c.skip.new.self after _ read (nears c.skip.new.self whole taken c.skip.ensures c.fill.ensures.few) (subst IsRefusedForGood rest stop) (omega (arith, c.len-in-Refused.ensures, t.new.moments.ok.0))

pub returns-in-Full-clause-ends : goal.returns-in-Full-clause-ends
returns-in-Full-clause-ends g c =
    let left = g.S.Source.remaining c.fill.new.source in
    let whole = c.fill.new.self in
    let more = c.in-More.ensures.bytes in
    let t = c.take_clocks-taken in
    let taken = t.result.0 in
    let before = c.loop-held.moments.items in
    let after = t.new.moments.items in
    let same = c.bytes-in-loop-held.ensures.bytes in
    let kept = c.loop-held.invariant in
    let takes = subst (λ (l : List ℕ). TakesClocks l taken before after) same t.ensures.taken in
    let few : length after ≤ c.args.limit = omega (arith, t.ensures.few, t.new.moments.ok.0) in
    let rest : drop taken c.bytes-in-loop-held.result.now ≡ c.skip.new.self = ap (λ l. drop taken l) same ∙ sym c.skip.ensures in
    let stop = subst (λ (e : ClocksEnd). StopsAt e (vec_len t.new.moments) c.args.limit (drop taken c.bytes-in-loop-held.result.now)) c.in-Full.is t.ensures.end in
    let read = has_turned _ _ _ left c.loop-held.held more.0 whole c.skip.new.self before after taken kept.read more.1 more.2 takes few c.skip.ensures in
    full _ _ left c.skip.new.self after read (nears c.skip.new.self whole taken c.skip.ensures c.fill.ensures.few) (subst BeginsWithClock rest stop.1) (omega (arith, stop.0, t.new.moments.ok.0))

pub returns-in-Memory-clause-ends : goal.returns-in-Memory-clause-ends
returns-in-Memory-clause-ends g c =
    let left = g.S.Source.remaining c.fill.new.source in
    let whole = c.fill.new.self in
    let more = c.in-More.ensures.bytes in
    let t = c.take_clocks-taken in
    let taken = t.result.0 in
    let before = c.loop-held.moments.items in
    let after = t.new.moments.items in
    let same = c.bytes-in-loop-held.ensures.bytes in
    let kept = c.loop-held.invariant in
    let takes = subst (λ (l : List ℕ). TakesClocks l taken before after) same t.ensures.taken in
    let few : length after ≤ c.args.limit = omega (arith, t.ensures.few, t.new.moments.ok.0) in
    let rest : drop taken c.bytes-in-loop-held.result.now ≡ c.skip.new.self = ap (λ l. drop taken l) same ∙ sym c.skip.ensures in
    let read = has_turned _ _ _ left c.loop-held.held more.0 whole c.skip.new.self before after taken kept.read more.1 more.2 takes few c.skip.ensures in
    out_of_memory _ _ left c.skip.new.self after read (nears c.skip.new.self whole taken c.skip.ensures c.fill.ensures.few)

pub returns-in-Fault-clause-ends : goal.returns-in-Fault-clause-ends
returns-in-Fault-clause-ends g c =
    let kept = c.loop-held.invariant in
    faulted _ _ _ _ c.loop-held.held c.loop-held.moments.items kept.read c.in-Fault.ensures.bytes.0 kept.part

pub returns-in-End-clause-ends : goal.returns-in-End-clause-ends
returns-in-End-clause-ends g c =
    let kept = c.loop-held.invariant in
    let none = c.in-End.ensures.bytes in
    cut_off _ _ _ _ c.loop-held.held c.fill.new.self c.loop-held.moments.items _ kept.read none.0 none.1 none.2 kept.part
    (omega (arith, not_empty c.bytes.result.now c.if-is_empty.ensures, ap length c.bytes.ensures.bytes)) (omega (arith, c.len.ensures, c.loop-held.moments.ok.0))

-- ---- what the tries count

pub returns-in-Fault-clause-read : goal.returns-in-Fault-clause-read
returns-in-Fault-clause-read g c = good_then_bad _ _ _ _ _ _ c.loop-held.invariant.counts (bad_try _ _ _ _ c.in-Fault.ensures.counts)

pub returns-then-is_empty-clause-read : goal.returns-then-is_empty-clause-read
returns-then-is_empty-clause-read g c = good_then_good _ _ _ _ _ _ c.loop-held.invariant.counts (good_try _ _ _ _ c.in-End.ensures.counts)

pub returns-in-End-clause-read : goal.returns-in-End-clause-read
returns-in-End-clause-read g c = good_then_good _ _ _ _ _ _ c.loop-held.invariant.counts (good_try _ _ _ _ c.in-End.ensures.counts)

pub returns-in-Refused-clause-read : goal.returns-in-Refused-clause-read
returns-in-Refused-clause-read g c = good_then_good _ _ _ _ _ _ c.loop-held.invariant.counts (good_try _ _ _ _ c.in-More.ensures.counts)

pub returns-in-Full-clause-read : goal.returns-in-Full-clause-read
returns-in-Full-clause-read g c = good_then_good _ _ _ _ _ _ c.loop-held.invariant.counts (good_try _ _ _ _ c.in-More.ensures.counts)

pub returns-in-Memory-clause-read : goal.returns-in-Memory-clause-read
returns-in-Memory-clause-read g c = good_then_good _ _ _ _ _ _ c.loop-held.invariant.counts (good_try _ _ _ _ c.in-More.ensures.counts)
