use Rattle.std.proofs.Common.{◌+◌, ◌<◌, [], ◌∷◌, drop, length, arith, refl, sym, ap, ◌∙◌, subst}
use Rattle.std.proofs.lemmas.List.{length-drop}
use Rattle.executor_core.specs.CoreView.{workers_of, state_of}
use Rattle.trace_text.proofs.LineTexts.{first_line}
use Rattle.trace_text.proofs.LineEnds.{line_ended}
use Rattle.trace_check.specs.Findings.{Conforms, Breaks}
use Rattle.trace_check.specs.own.Standing.{IsAt}
use Rattle.trace_check.proofs.Texts.{HasCome, stops_unread, stops_refused, stops_owing, ends_whole, comes_on, shorter, moved, some_left, none_left}
use Rattle.trace_check.proofs.Taking.{owed_none}
use Rattle.trace_check.proofs.Keeping.{AreKept, keeps_none, keeps_on, kept_before, kept_whole}
use Rattle.trace_check.proofs.checking.Checker.run.Goals as goal

pub loop-rest-init : goal.loop-rest-init
loop-rest-init g c =
    let self = c.args.self.now in
    record {
      calls = refl;
      workers = refl;
      limit = refl;
      taken = omega (arith, c.requires.taken);
      ready = c.requires.ready;
      come = record { lines = []; count = refl; fit = tt; spelled = refl; stands = c.requires.stands };
      few = omega arith;
      kept = λ keep. keeps_none c.args.text.now c.args.lines.now.items c.requires.none;
    }

pub returns-in_default-clause-finds : goal.returns-in_default-clause-finds
returns-in_default-clause-finds g c =
    let self = c.loop-rest.self in
    moved (λ calls workers. Breaks calls workers c.args.text.now (c.loop-rest.count + 1)) self.core.calls c.args.self.now.core.calls (workers_of self.core) (workers_of c.args.self.now.core)
    c.loop-rest.invariant.calls c.loop-rest.invariant.workers
    (stops_unread self.core.calls (workers_of self.core) c.args.text.now c.loop-rest.rest.now c.loop-rest.count (state_of self.core) (drop self.met self.out.items) self.busy.flags first_line line_ended c.loop-rest.invariant.come
    (some_left c.loop-rest.rest.now (sym c.is_empty.ensures ∙ c.loop-rest-test.true)) c.in_default.ensures)

pub returns-then-not-take-clause-finds : goal.returns-then-not-take-clause-finds
returns-then-not-take-clause-finds g c =
    let self = c.loop-rest.self in
    moved (λ calls workers. Breaks calls workers c.args.text.now (c.loop-rest.count + 1)) self.core.calls c.args.self.now.core.calls (workers_of self.core) (workers_of c.args.self.now.core)
    c.loop-rest.invariant.calls c.loop-rest.invariant.workers
    (stops_refused self.core.calls (workers_of self.core) c.args.text.now c.loop-rest.rest.now c.loop-rest.count (state_of self.core) (drop self.met self.out.items) self.busy.flags c.in-Some.found.0 c.in-Some.found.1.now
    first_line line_ended c.loop-rest.invariant.come c.in-Some.ensures.0 c.in-Some.ensures.1 (c.take.ensures.breaks c.if-not-take.true))

pub loop-rest-preserved : goal.loop-rest-preserved
loop-rest-preserved g c =
    let self = c.loop-rest.self in
    let new = c.take.new.self in
    let less = shorter c.in-Some.found.0 c.loop-rest.rest.now c.in-Some.found.1.now line_ended c.in-Some.ensures.0 c.in-Some.ensures.1 in
    record {
      calls = c.take.ensures.calls ∙ c.loop-rest.invariant.calls;
      workers = c.take.ensures.workers ∙ c.loop-rest.invariant.workers;
      limit = c.take.ensures.limit ∙ c.loop-rest.invariant.limit;
      taken = omega (arith, c.take.ensures.taken, c.loop-rest.invariant.taken);
      ready = c.take.ensures.ready;
      come = moved (λ calls workers. HasCome calls workers c.args.text.now c.in-Some.found.1.now (c.loop-rest.count + 1) (state_of new.core) (drop new.met new.out.items) new.busy.flags)
          self.core.calls new.core.calls (workers_of self.core) (workers_of new.core) (sym c.take.ensures.calls) (sym c.take.ensures.workers)
          (comes_on self.core.calls (workers_of self.core) c.args.text.now c.loop-rest.rest.now c.in-Some.found.1.now c.loop-rest.count (state_of self.core) (state_of new.core) (drop self.met self.out.items) (drop new.met new.out.items)
          self.busy.flags new.busy.flags c.in-Some.found.0 c.loop-rest.invariant.come c.in-Some.ensures.0 c.in-Some.ensures.1
          (λ lines at. moved (λ calls workers. IsAt calls workers (state_of new.core) (drop new.met new.out.items) new.busy.flags (c.in-Some.found.0 ∷ lines))
          new.core.calls self.core.calls (workers_of new.core) (workers_of self.core) c.take.ensures.calls c.take.ensures.workers (c.take.ensures.goes c.if-not-take.false lines at)));
      few = omega (arith, less, c.loop-rest.invariant.few);
      kept = λ keep. subst (AreKept c.args.text.now c.in-Some.found.1.now (c.loop-rest.count + 1)) (sym (c.in_ok-keep.ensures.kept keep))
          (keeps_on c.args.text.now c.loop-rest.rest.now c.in-Some.found.1.now c.loop-rest.count c.loop-rest.lines.items c.in-Some.found.0 (c.loop-rest.invariant.kept keep) c.in-Some.ensures.0 c.in-Some.ensures.1);
    }

pub loop-rest-smaller : goal.loop-rest-smaller
loop-rest-smaller g c = omega (arith, shorter c.in-Some.found.0 c.loop-rest.rest.now c.in-Some.found.1.now line_ended c.in-Some.ensures.0 c.in-Some.ensures.1)

pub take-requires-clause-some : goal.take-requires-clause-some
take-requires-clause-some g c =
    omega (arith, c.loop-rest.invariant.taken, c.loop-rest.invariant.limit, c.requires.limit, c.loop-rest.invariant.few, c.requires.size)

pub returns-then-self-len-clause-finds : goal.returns-then-self-len-clause-finds
returns-then-self-len-clause-finds g c =
    let self = c.loop-rest.self in
    let within : self.met < length self.out.items = omega (arith, c.if-self-len.true, c.len.ensures) in
    moved (λ calls workers. Breaks calls workers c.args.text.now (c.loop-rest.count + 1)) self.core.calls c.args.self.now.core.calls (workers_of self.core) (workers_of c.args.self.now.core)
    c.loop-rest.invariant.calls c.loop-rest.invariant.workers
    (stops_owing self.core.calls (workers_of self.core) c.args.text.now c.loop-rest.rest.now c.loop-rest.count (state_of self.core) (drop self.met self.out.items) self.busy.flags first_line line_ended c.loop-rest.invariant.come
    (none_left c.loop-rest.rest.now (sym c.is_empty.ensures ∙ c.loop-rest-test.false)) (λ none. omega (arith, within, ap length none, length-drop self.met self.out.items)))

pub returns-clause-finds : goal.returns-clause-finds
returns-clause-finds g c =
    let self = c.loop-rest.self in
    moved (λ calls workers. Conforms calls workers c.args.text.now) self.core.calls c.args.self.now.core.calls (workers_of self.core) (workers_of c.args.self.now.core)
    c.loop-rest.invariant.calls c.loop-rest.invariant.workers
    (ends_whole self.core.calls (workers_of self.core) c.args.text.now c.loop-rest.rest.now c.loop-rest.count (state_of self.core) (drop self.met self.out.items) self.busy.flags c.loop-rest.invariant.come
    (none_left c.loop-rest.rest.now (sym c.is_empty.ensures ∙ c.loop-rest-test.false)) (owed_none self.out.items self.met (omega (arith, c.if-self-len.false, c.len.ensures))))

pub returns-in_default-clause-lines : goal.returns-in_default-clause-lines
returns-in_default-clause-lines g c = λ keep. kept_before c.args.text.now c.loop-rest.rest.now c.loop-rest.count c.loop-rest.lines.items (c.loop-rest.invariant.kept keep)

pub returns-then-not-take-clause-lines : goal.returns-then-not-take-clause-lines
returns-then-not-take-clause-lines g c = λ keep. kept_before c.args.text.now c.loop-rest.rest.now c.loop-rest.count c.loop-rest.lines.items (c.loop-rest.invariant.kept keep)

pub returns-then-self-len-clause-lines : goal.returns-then-self-len-clause-lines
returns-then-self-len-clause-lines g c = λ keep. kept_before c.args.text.now c.loop-rest.rest.now c.loop-rest.count c.loop-rest.lines.items (c.loop-rest.invariant.kept keep)

pub returns-clause-lines : goal.returns-clause-lines
returns-clause-lines g c =
    λ keep. kept_whole c.args.text.now c.loop-rest.rest.now c.loop-rest.count c.loop-rest.lines.items (c.loop-rest.invariant.kept keep) (none_left c.loop-rest.rest.now (sym c.is_empty.ensures ∙ c.loop-rest-test.false))
