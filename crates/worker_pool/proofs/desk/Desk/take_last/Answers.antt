use Rattle.std.proofs.Common.{inl, [], ◌∷◌, ◌∙◌, sym, subst, refl, arith}
use Rattle.executor_model.specs.declared.types.Happening.{Happening}
use Rattle.executor_core.specs.CoreView.{workers_of}
use Rattle.worker_pool.specs.own.Steps.{past_in, Completes, Comes}
use Rattle.worker_pool.proofs.Keepings.{still_comes}
use Rattle.worker_pool.proofs.Growing.{for_same, same_then, same_handles, handles_then, none_for, noted_for_then, noting_passes, passes_take}
use Rattle.worker_pool.proofs.desk.Desk.take_last.Goals as goal

pub loop-happening-init : goal.loop-happening-init
loop-happening-init g c =
    let old = c.args.self.now in
    record {
      table = refl;
      kept = c.requires.kept;
      handles = same_handles old.seat.view;
      counted = c.requires.counted;
      room = c.requires.room;
      comes = subst (Comes old.core) (sym c.happening-happening.ensures) c.requires.comes;
      noted = none_for old.core old.happenings.items c.happening-happening.result;
      own = refl;
    }

pub loop-happening-preserved : goal.loop-happening-preserved
loop-happening-preserved g c =
    let was = c.loop-happening.invariant in
    let first = c.args.self.now in
    let old = c.loop-happening.self in
    let new = c.attempt.new.self in
    let did = c.attempt.ensures in
    let more = c.loop-happening-test.ensures.more (inl refl) in
    let noted = c.loop-happening-test.ensures.noted refl in
    record {
      table = did.table ∙ was.table;
      kept = did.kept;
      handles = handles_then first.seat.view old.seat.view new.seat.view was.handles did.handles;
      counted = more.0;
      room = more.2;
      comes = still_comes old.core new.core c.happening-happening.result did.same.calls noted.0.only.made noted.0.only.moment was.comes;
      noted = noted_for_then first.core old.core new.core first.happenings.items old.happenings.items new.happenings.items c.happening-happening.result was.noted noted.0;
      own = noted.1 ∙ was.own;
    }

pub loop-happening-smaller : goal.loop-happening-smaller
loop-happening-smaller g c = let more = c.loop-happening-test.ensures.more (inl refl) in omega (arith, more.1)

pub returns-clause-took : goal.returns-clause-took
returns-clause-took g c =
    let was = c.loop-happening.invariant in
    let first = c.args.self.now in
    let old = c.loop-happening.self in
    let new = c.attempt.new.self in
    let own = first.seat.view.own in
    let begun = past_in first.core first.happenings.items in
    let mid = past_in old.core old.happenings.items in
    let end = past_in new.core new.happenings.items in
    let plan = first.core.calls in
    let n = workers_of first.core in
    let y = c.happening-happening.result in
    let passed = noting_passes plan n y own old.seat.view.own begun mid was.own was.noted.only.noting was.noted.way in
    let came = for_same (λ p m. Completes p m old.seat.view.own new.seat.view.own mid end (y ∷ [])) first.core old.core was.noted.only.same (c.loop-happening-test.ensures.done refl).0 in
    subst (λ (z : Happening). Completes plan n own new.seat.view.own begun end (z ∷ [])) c.happening-happening.ensures (passes_take plan n y own old.seat.view.own new.seat.view.own begun mid end [] passed came)

pub returns-clause-same : goal.returns-clause-same
returns-clause-same g c = same_then c.args.self.now.core c.loop-happening.self.core c.attempt.new.self.core c.loop-happening.invariant.noted.only.same c.attempt.ensures.same

pub returns-clause-handles : goal.returns-clause-handles
returns-clause-handles g c = handles_then c.args.self.now.seat.view c.loop-happening.self.seat.view c.attempt.new.self.seat.view c.loop-happening.invariant.handles c.attempt.ensures.handles
