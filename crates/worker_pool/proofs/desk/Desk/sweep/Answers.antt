use Rattle.std.proofs.Common.{[], ◌∷◌, ◌++◌, ◌∙◌, sym, ap}
use Rattle.executor_model.specs.declared.types.Happening.TheVariants as h
use Rattle.executor_core.specs.CoreView.{workers_of}
use Rattle.worker_pool.specs.own.Steps.{past_in}
use Rattle.worker_pool.proofs.Keepings.{still_comes, past_more, moves_on}
use Rattle.worker_pool.proofs.Growing.{same_then, takes_one, call_after}
use Rattle.worker_pool.proofs.Sweeps.{sweeps_all}
use Rattle.worker_pool.proofs.desk.Desk.sweep.Goals as goal

pub returns-clause-kept : goal.returns-clause-kept
returns-clause-kept g c =
    let old = c.args.self.now in
    let mid = c.sweep_all.new.self in
    let all = c.sweep_all.ensures in
    let tasks = c.requires.tasks ∙ sym (ap Rattle.queue_code.specs.Calls.task_count all.noted.only.same.calls) in
    (sweeps_all old.seat.view.own mid.core c.make_call.new.self mid.seat.view mid.happenings.items c.push_reserved.new.self.items mid.lines.items c.make_call.new.out.items c.args.words.now.tasks tasks all.upto
    (all.noted.only.sweeps c.requires.need) (still_comes old.core mid.core h.Call all.noted.only.same.calls all.noted.only.made all.noted.only.moment c.requires.comes) c.make_call.ensures.steps (c.push_reserved.ensures.items ∙ ap (λ y. mid.happenings.items ++ y ∷ []) c.new.ensures)).0

pub returns-clause-done : goal.returns-clause-done
returns-clause-done g c =
    let old = c.args.self.now in
    let mid = c.sweep_all.new.self in
    let all = c.sweep_all.ensures in
    let steps = c.make_call.ensures.steps in
    let tasks = c.requires.tasks ∙ sym (ap Rattle.queue_code.specs.Calls.task_count all.noted.only.same.calls) in
    let own = (sweeps_all old.seat.view.own mid.core c.make_call.new.self mid.seat.view mid.happenings.items c.push_reserved.new.self.items mid.lines.items c.make_call.new.out.items c.args.words.now.tasks tasks all.upto
    (all.noted.only.sweeps c.requires.need) (still_comes old.core mid.core h.Call all.noted.only.same.calls all.noted.only.made all.noted.only.moment c.requires.comes) steps (c.push_reserved.ensures.items ∙ ap (λ y. mid.happenings.items ++ y ∷ []) c.new.ensures)).1
    in
    takes_one old.core.calls mid.core.calls (workers_of old.core) (workers_of mid.core) old.seat.view.own mid.seat.view.own (past_in old.core old.happenings.items) (past_in mid.core mid.happenings.items) (past_in c.make_call.new.self c.push_reserved.new.self.items) h.Call all.noted.only.noting all.noted.way
    (past_more mid.core c.make_call.new.self mid.happenings.items c.push_reserved.new.self.items h.Call steps.calls steps.workers (c.push_reserved.ensures.items ∙ ap (λ y. mid.happenings.items ++ y ∷ []) c.new.ensures)) own

pub returns-clause-same : goal.returns-clause-same
returns-clause-same g c =
    let steps = c.make_call.ensures.steps in
    same_then c.args.self.now.core c.sweep_all.new.self.core c.make_call.new.self c.sweep_all.ensures.noted.only.same
    (record { calls = steps.calls; workers = steps.workers; taken = c.make_call.ensures.leaves.taken; limit = steps.limit })

pub returns-clause-on : goal.returns-clause-on
returns-clause-on g c =
    let all = c.sweep_all.ensures.noted.only in
    call_after c.args.self.now.core c.sweep_all.new.self.core c.make_call.new.self c.args.self.now.happenings.items c.sweep_all.new.self.happenings.items all
    (moves_on c.sweep_all.new.self.core c.make_call.new.self c.sweep_all.new.self.lines.items c.make_call.new.out.items h.Call c.make_call.ensures.steps)
