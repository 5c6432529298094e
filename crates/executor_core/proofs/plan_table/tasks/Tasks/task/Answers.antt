use Rattle.std.proofs.Common.{ap, arith, sym, ◌∙◌}
use Rattle.executor_core.specs.plan_table.own.Tables.{phase_in, task_of}
use Rattle.executor_core.proofs.plan_table.Pairs.{is_in, task_read}
use Rattle.executor_core.proofs.plan_table.tasks.Tasks.task.Goals as goal

pub index-word-requires : goal.index-word-requires
index-word-requires g c =
    let m = c.self.inside in
    omega (arith, m.words.ok.0, is_in m.words.items m.details.items c.args.self.now c.args.task c.self.invariant.paired c.self.view_is c.requires)

pub index-detail-requires : goal.index-detail-requires
index-detail-requires g c =
    let m = c.self.inside in
    omega (arith, m.details.ok.0, c.self.invariant.paired, is_in m.words.items m.details.items c.args.self.now c.args.task c.self.invariant.paired c.self.view_is c.requires)

pub returns : goal.returns
returns g c =
    let m = c.self.inside in
    let word = c.index-word.result.now in
    let detail = c.index-detail.result.now in
    let phase = c.phase_in.ensures ∙ ap (λ p. phase_in p detail.over) c.phase.ensures in
    let task = task_read m.words.items m.details.items c.args.self.now c.args.task word detail c.self.invariant.paired c.self.view_is c.requires c.index-word.ensures in
    (λ i. record { phase = phase i; run = c.run.ensures.value i; due = detail.due; timing = detail.timing; cancelled = c.is_marked.ensures i; kept = detail.kept }) ∙ (ap (task_of word) c.index-detail.ensures ∙ sym task)
