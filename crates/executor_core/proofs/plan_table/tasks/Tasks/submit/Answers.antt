use Rattle.std.proofs.Common.{ap, arith, sym, ◌∙◌}
use Rattle.std.specs.Prelude.{slice_set}
use Rattle.executor_model.specs.declared.task.Stage.TheVariants as ph
use Rattle.executor_model.specs.declared.task.Task.{Task}
use Rattle.executor_core.proofs.plan_table.Pairs.{is_in, word_vacant, submit_sets}
use Rattle.std.proofs.lemmas.List.{length-set}
use Rattle.executor_core.proofs.plan_table.Counting.{blank_there, tables_count, tables_recounted}
use Rattle.executor_core.proofs.plan_table.tasks.Tasks.submit.Goals as goal

pub index-requires : goal.index-requires
index-requires g c =
    let m = c.self.inside in
    omega (arith, m.words.ok.0, is_in m.words.items m.details.items c.args.self.now c.args.task c.self.invariant.paired c.self.view_is c.requires.known)

pub submitted-requires : goal.submitted-requires
submitted-requires g c =
    let m = c.self.inside in
    word_vacant m.words.items m.details.items c.args.self.now c.args.task c.index.result.now c.self.invariant.paired c.self.view_is c.requires.known c.index.ensures c.requires.vacant

pub index_mut-requires : goal.index_mut-requires
index_mut-requires g c =
    let m = c.self.inside in
    omega (arith, m.words.ok.0, is_in m.words.items m.details.items c.args.self.now c.args.task c.self.invariant.paired c.self.view_is c.requires.known)

pub index_mut-requires-2 : goal.index_mut-requires-2
index_mut-requires-2 g c =
    let m = c.self.inside in
    omega (arith, m.details.ok.0, c.self.invariant.paired, is_in m.words.items m.details.items c.args.self.now c.args.task c.self.invariant.paired c.self.view_is c.requires.known)

pub returns : goal.returns
returns g c =
    let m = c.self.inside in
    submit_sets m.words.items m.details.items c.args.self.now c.args.task c.args.timing c.args.due c.index.result.now c.submitted.result c.self.invariant.paired c.self.view_is c.submitted.ensures

pub recount-self-inside-requires : goal.recount-self-inside-requires
recount-self-inside-requires g c =
    let m = c.self.inside in
    tables_count m.words.items m.details.items c.args.self.now m.tallies c.args.task c.vacant-before.result c.self.invariant c.self.view_is c.requires.known (c.vacant-before.ensures ∙ sym (blank_there m.words.items m.details.items c.args.self.now m.tallies c.args.task c.self.invariant c.self.view_is c.requires.vacant))

pub invariant_of-self : goal.invariant_of-self
invariant_of-self g c =
    let m = c.self.inside in
    tables_recounted m.words.items _ m.details.items _ c.args.self.now m.tallies c.recount-self-inside.result c.args.task c.vacant-before.result _ c.self.invariant c.self.view_is (length-set m.words.items c.args.task c.submitted.result) (length-set m.details.items c.args.task _)
    (returns g c ∙ ap (λ (t : Task). slice_set c.args.self.now c.args.task (record t { phase = ph.Waiting; timing = c.args.timing; due = c.args.due })) (sym c.vacant-before.ensures))
    c.requires.known (c.vacant-before.ensures ∙ sym (blank_there m.words.items m.details.items c.args.self.now m.tallies c.args.task c.self.invariant c.self.view_is c.requires.vacant)) c.recount-self-inside.ensures (λ q. absurd cc)
