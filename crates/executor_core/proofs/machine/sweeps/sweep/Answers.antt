-- Where no task is to be ended, the sweep leaves all as it is.
use Rattle.std.proofs.Common.{◌≡◌, false, sym, ap, ◌∙◌, subst}
use Rattle.task_table.specs.Tables.{TableView}
use Rattle.executor_core.specs.own.OwnSteps.{NoneWaitsDelayed}
use Rattle.executor_core.proofs.Sweeping.{not_true, sweeps_none, sweeps_no_line, none_more, none_left}
use Rattle.executor_core.proofs.machine.sweeps.sweep.Goals as goal

pub returns-then-not-may_end-clause-swept : goal.returns-then-not-may_end-clause-swept
returns-then-not-may_end-clause-swept g c =
    sym (sweeps_none c.args.table.now (c.may_end.ensures c.if-not-may_end.true))

pub returns-then-not-may_end-clause-lines : goal.returns-then-not-may_end-clause-lines
returns-then-not-may_end-clause-lines g c =
    sweeps_no_line c.args.table.now c.args.out.now.items (c.may_end.ensures c.if-not-may_end.true)

pub returns-then-sought-clause-sought : goal.returns-then-sought-clause-sought
returns-then-sought-clause-sought g c =
    λ q. subst NoneWaitsDelayed (sym c.end_tasks.ensures.swept) (none_more c.args.table.now (c.requires.sought q))

pub returns-else-sought-clause-sought : goal.returns-else-sought-clause-sought
returns-else-sought-clause-sought g c =
    λ q.
    let off : c.args.table.now.policies.executes ≡ false = ap (λ (v : TableView). v.policies.executes) (sym c.end_tasks.ensures.swept) ∙ (ap (λ p. p.executes) (sym c.policies.ensures) ∙ not_true c.policies.result.executes q) in
    subst NoneWaitsDelayed (sym c.end_tasks.ensures.swept) (none_left c.args.table.now off)
