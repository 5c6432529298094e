use Rattle.std.proofs.Common.{map, ap, sym, ◌∙◌}
use Rattle.executor_model.specs.Tasks.{word_of_task}
use Rattle.executor_core.proofs.plan_table.Numbered.{tasks_same}
use Rattle.executor_core.proofs.plan_table.Pairs.{words_of}
use Rattle.executor_core.proofs.plan_table.tasks.Tasks.words.Goals as goal

pub returns-clause-value : goal.returns-clause-value
returns-clause-value g c =
    let m = c.self.inside in
    c.deref.ensures.value ∙ (sym (words_of m.words.items m.details.items c.self.invariant.paired) ∙ ap (map word_of_task) c.self.view_is)

pub returns-clause-same : goal.returns-clause-same
returns-clause-same g c =
    let m = c.self.inside in
    tasks_same m.words.items m.details.items c.args.self.now m.tallies c.self.invariant c.self.view_is
