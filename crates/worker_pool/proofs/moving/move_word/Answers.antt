use Rattle.std.proofs.Common.{◌==◌, sym, ap, ◌∙◌, subst}
use Rattle.executor_laws.specs.Cancels.{is_needed}
use Rattle.worker_pool.specs.own.Moves.{CanMove, moves_made}
use Rattle.worker_pool.proofs.Bools.{same_eqb, or_none}
use Rattle.worker_pool.proofs.Late.{late_met, won_moved}
use Rattle.worker_pool.proofs.moving.move_word.Goals as goal

pub returns-in-Late-clause-met : goal.returns-in-Late-clause-met
returns-in-Late-clause-met g c =
    let tasks = c.args.words.now.tasks in
    let v = c.args.seat.now.view in
    late_met tasks v _ c.in-Cancel.task _ (subst (CanMove tasks v) c.in-Cancel.is c.requires.can) c.in-Late.is c.cancel.ensures.view

pub returns-in-Late-clause-named : goal.returns-in-Late-clause-named
returns-in-Late-clause-named g c = ap (is_needed c.in-Cancel.task) c.in-Cancel.is ∙ (or_none (c.in-Cancel.task == c.in-Cancel.task) ∙ same_eqb c.in-Cancel.task)

pub returns-in-Won : goal.returns-in-Won
returns-in-Won g c =
    let tasks = c.args.words.now.tasks in
    let v = c.args.seat.now.view in
    let can = subst (CanMove tasks v) c.in-Cancel.is c.requires.can in
    record {
      table = c.cancel.ensures.table;
      moved = λ q. won_moved tasks v _ c.in-Cancel.task _ can c.in-Won.is (c.cancel.ensures.live can.1) c.cancel.ensures.view ∙ sym (ap (moves_made v) c.in-Cancel.is);
      met = tt;
      named = tt;
    }
