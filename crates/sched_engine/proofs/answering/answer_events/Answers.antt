use Rattle.std.proofs.Common.{◌≡◌, ℕ, ◌+◌, ◌-◌, ◌<◌, ◌≤◌, List, ◌++◌, length, drop, inl, refl, rules, ap, sym, subst, ◌∙◌, arith}
use Rattle.std.specs.Prelude.{Option, None, is_some, vec_capacity}
use Rattle.std.proofs.lemmas.Bool.{false≢true}
use Rattle.trace_text.specs.Spelling.{event_line}
use Rattle.sched_engine.specs.Inputs.{BeginsWithEvent}
use Rattle.sched_engine.specs.Pieces.{Output}
use Rattle.executor_core.specs.CoreView.{CoreView}
use Rattle.sched_engine.specs.declared.answering.PieceEnd.{PieceEnd}
use Rattle.sched_engine.specs.declared.answering.PieceEnd.TheVariants as e
use Rattle.sched_engine.specs.declared.answering.Answered.{Answered}
use Rattle.byte_ends.specs.Ends.{CountsTries}
use Rattle.sched_engine.specs.own.Turns.{IsAnswered, IsPieceEnd}
use Rattle.sched_engine.proofs.Inputs.{answered_none, answered_on, count_fits, fewer_left, left_more}
use Rattle.sched_engine.proofs.Rooms.{still_kept, wanted}
use Rattle.byte_ends.proofs.Tries.{good_then_bad, good_then_good, no_try}
use Rattle.sched_engine.proofs.answering.answer_events.Goals as goal
use Rattle.sched_engine.proofs.answering.answer_events.Goals.{in_default, in-Some+then-full, in-Some+else-full+then-not-make_room}

within_still : (taken limit taken' limit' : ℕ) → taken < limit → taken' ≡ taken + 1 → limit' ≡ limit → taken' ≤ limit'
within_still taken limit taken' limit' below one same = omega (arith, below, one, same)

-- no byte was taken yet
none_taken : (n : ℕ) → 0 ≡ n - n
none_taken n = omega arith

pub loop-event-init : goal.loop-event-init
loop-event-init g c =
    let held = c.args.held.now in
    let out : Output = record { contents = g.W.Sink.contents c.args.writer.now; text = c.args.draft.now } in
    let core = c.args.core.now in
    let none = none_taken (length held) in
    record {
      answered = subst (λ k. IsAnswered core core held k out out 0) none (answered_none core held out);
      behind = ap (λ k. drop k held) none;
      bound = omega arith;
      within = c.requires.within;
      capacity = inl refl;
      counts = no_try (g.W.Sink.failed c.args.writer.now) (g.W.Sink.fruitless c.args.writer.now);
    }

pub overflow_add-count : goal.overflow_add-count
overflow_add-count g c =
    let held = c.args.held.now in
    let rest = c.loop-event.rest.now in
    let next = c.in-Some.behind.now in
    let kept = c.loop-event.invariant in
    let old = c.args.core.now in
    let mid = c.loop-event.core in
    let new = c.answer_event.new.core in
    let event = c.in-Some.event in
    let more = c.in_ok-more.more in
    let out : Output = record { contents = g.W.Sink.contents c.args.writer.now; text = c.args.draft.now } in
    let here : Output = record { contents = g.W.Sink.contents c.loop-event.writer; text = c.loop-event.draft } in
    let there : Output = record { contents = g.W.Sink.contents c.answer_event.new.writer; text = c.answer_event.new.draft } in
    let takes = c.in_ok-more.ensures.takes in
    let below = c.if-full.ensures.room refl in
    let after = answered_on old mid new held rest next out here there c.loop-event.count more event kept.answered kept.behind kept.bound c.in-Some.ensures.0 c.in-Some.ensures.1 takes in
    let all = count_fits old new held out there (length held - length next) (c.loop-event.count + more) c.requires after (within_still mid.taken mid.limit new.taken new.limit below takes.taken takes.limit) in
    omega (arith, all)

pub loop-event-preserved : goal.loop-event-preserved
loop-event-preserved g c =
    let held = c.args.held.now in
    let rest = c.loop-event.rest.now in
    let next = c.in-Some.behind.now in
    let kept = c.loop-event.invariant in
    let old = c.args.core.now in
    let mid = c.loop-event.core in
    let new = c.answer_event.new.core in
    let event = c.in-Some.event in
    let more = c.in_ok-more.more in
    let fits = c.in-Some.ensures.0 in
    let front : rest ≡ event_line event ++ next = c.in-Some.ensures.1 in
    let out : Output = record { contents = g.W.Sink.contents c.args.writer.now; text = c.args.draft.now } in
    let here : Output = record { contents = g.W.Sink.contents c.loop-event.writer; text = c.loop-event.draft } in
    let there : Output = record { contents = g.W.Sink.contents c.answer_event.new.writer; text = c.answer_event.new.draft } in
    let takes = c.in_ok-more.ensures.takes in
    let below = c.if-full.ensures.room refl in
    let begins = subst BeginsWithEvent kept.behind (event, next, fits, front) in
    record {
      answered = answered_on old mid new held rest next out here there c.loop-event.count more event kept.answered kept.behind kept.bound fits front takes;
      behind = left_more event held rest next kept.behind kept.bound front;
      bound = omega (arith, fewer_left event rest next front, kept.bound);
      within = within_still mid.taken mid.limit new.taken new.limit below takes.taken takes.limit;
      capacity = still_kept old mid held out here (length held - length rest) c.loop-event.count (vec_capacity c.args.lines.now) (vec_capacity c.loop-event.lines) (vec_capacity c.answer_event.new.lines)
          kept.answered begins below (λ enough. c.in_ok-more.ensures.capacity ∙ (c.if-not-make_room.ensures.enough (omega (arith, enough, c.room.ensures))).1) kept.capacity;
      counts = good_then_good _ _ _ _ _ _ kept.counts c.in_ok-more.ensures.counts;
    }

-- the last try was bad
pub returns-in_err-more-clause-write : goal.returns-in_err-more-clause-write
returns-in_err-more-clause-write g c =
    let first = c.args.writer.now in
    let after = c.answer_event.new.writer in
    let nothing : Option Answered = None in
    let told : nothing ≡ c.from_residual.result = search rules in
    subst (λ (r : Option Answered). CountsTries (is_some r) (g.W.Sink.failed first) (g.W.Sink.fruitless first) (g.W.Sink.failed after) (g.W.Sink.fruitless after)) told
    (good_then_bad _ _ _ _ _ _ c.loop-event.invariant.counts c.in_err-more.ensures.counts)

-- why the events ended is one thing
not_full : (end : PieceEnd) → end ≡ e.Full → end ≡ e.Memory → ⊥
not_full end full memory = cc

-- no event follows bytes that do not begin with one
not_memory : (end : PieceEnd) (m : CoreView) (rest : List ℕ) → ((core : CoreView) → IsPieceEnd end core rest) → end ≡ e.Memory → ⊥
not_memory end m rest is memory =
    let none : CoreView = record m { taken = 0; limit = 0 } in
    let begins = subst (λ (end : PieceEnd). IsPieceEnd end none rest) memory (is none) in
    omega (arith, begins.0)

pub returns-clause-memory : goal.returns-clause-memory
returns-clause-memory g c = λ memory.
    let held = c.args.held.now in
    let rest = c.loop-event.rest.now in
    let kept = c.loop-event.invariant in
    let old = c.args.core.now in
    let mid = c.loop-event.core in
    let out : Output = record { contents = g.W.Sink.contents c.args.writer.now; text = c.args.draft.now } in
    let here : Output = record { contents = g.W.Sink.contents c.loop-event.writer; text = c.loop-event.draft } in
    elim c.match-split_event.branch [
      | in_default w ↦ absurd (not_memory w.end_of-end.result mid rest w.end_of-end.ensures (sym w.end-is ∙ memory))
      | in-Some+then-full w ↦ absurd (not_full c.match-split_event.end w.end-is memory)
      | in-Some+else-full+then-not-make_room w ↦
          let front : rest ≡ event_line w.in-Some.event ++ w.in-Some.behind.now = w.in-Some.ensures.1 in
          let begins = subst BeginsWithEvent kept.behind (w.in-Some.event, w.in-Some.behind.now, w.in-Some.ensures.0, front) in
          wanted old mid held out here (length held - length rest) c.loop-event.count (vec_capacity c.args.lines.now) (vec_capacity c.loop-event.lines) kept.answered begins (w.if-full.ensures.room refl)
          (λ enough. false≢true (w.if-not-make_room.ensures.enough (omega (arith, enough, w.room.ensures))).0) kept.capacity
    ]
