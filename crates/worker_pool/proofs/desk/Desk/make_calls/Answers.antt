use Rattle.std.proofs.Common.{[], ◌∙◌, sym, refl, arith}
use Rattle.worker_pool.proofs.Growing.{same_plan, same_then, same_handles, handles_then, none_passed, one_comes, call_tried}
use Rattle.std.proofs.lemmas.List.{append-nil}
use Rattle.executor_core.specs.CoreView.{workers_of}
use Rattle.executor_model.specs.Flows.{happening_of}
use Rattle.worker_pool.specs.own.Steps.{past_in, part_in}
use Rattle.worker_pool.proofs.desk.Desk.make_calls.Goals as goal

pub loop-event-init : goal.loop-event-init
loop-event-init g c =
    let old = c.args.self.now in
    record {
      table = refl;
      kept = c.requires.kept;
      same = same_plan old.core;
      handles = same_handles old.seat.view;
      counted = c.requires.counted;
      room = c.requires.room;
      passed = ([], λ y only. none_passed old.core.calls (workers_of old.core) y old.seat.view.own (past_in old.core old.happenings.items), sym (append-nil (part_in old.core c.args.event)));
    }

pub loop-event-preserved : goal.loop-event-preserved
loop-event-preserved g c =
    let was = c.loop-event.invariant in
    let first = c.args.self.now in
    let old = c.loop-event.self in
    let new = c.attempt_call.new.self in
    let did = c.attempt_call.ensures in
    let more = did.more in
    record {
      table = did.table ∙ was.table;
      kept = did.kept;
      same = same_then first.core old.core new.core was.same did.same;
      handles = handles_then first.seat.view old.seat.view new.seat.view was.handles did.handles;
      counted = more.0;
      room = more.2;
      passed = call_tried c.attempt_call.result first.core old.core new.core first.seat.view.own old.seat.view.own new.seat.view.own first.happenings.items old.happenings.items new.happenings.items c.args.event was.passed.0 was.same was.passed.1 was.passed.2
          (c.loop-event-test.ensures.call refl) did.same.calls did.done did.noted;
    }

pub loop-event-smaller : goal.loop-event-smaller
loop-event-smaller g c = let more = c.attempt_call.ensures.more in omega (arith, more.1)

pub returns-clause-passed : goal.returns-clause-passed
returns-clause-passed g c =
    let mid = c.loop-event.self.core in
    let passed = c.loop-event.invariant.passed in
    (passed.0, passed.1 (happening_of c.args.event) (λ call. absurd (one_comes mid.calls mid.made mid.moment c.args.event call (c.loop-event-test.ensures.event refl))), passed.2)
