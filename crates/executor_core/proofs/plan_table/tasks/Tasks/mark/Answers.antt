use Rattle.std.proofs.Common.{◌≢◌, true, ap, subst, arith, refl, sym, ◌∙◌}
use Rattle.std.specs.Prelude.{slice_set}
use Rattle.executor_model.specs.declared.task.Stage.TheVariants as ph
use Rattle.executor_model.specs.declared.task.Task.{Task}
use Rattle.executor_core.proofs.plan_table.Pairs.{is_in, cancel_sets}
use Rattle.std.proofs.lemmas.List.{length-set}
use Rattle.executor_core.proofs.plan_table.Counting.{tables_count, tables_recounted}
use Rattle.executor_core.proofs.plan_table.tasks.Tasks.mark.Goals as goal

pub index-requires : goal.index-requires
index-requires g c =
    let m = c.self.inside in
    omega (arith, m.words.ok.0, is_in m.words.items m.details.items c.args.self.now c.args.task c.self.invariant.paired c.self.view_is c.requires.known)

pub index_mut-requires : goal.index_mut-requires
index_mut-requires g c =
    let m = c.self.inside in
    omega (arith, m.words.ok.0, is_in m.words.items m.details.items c.args.self.now c.args.task c.self.invariant.paired c.self.view_is c.requires.known)

pub returns : goal.returns
returns g c =
    let m = c.self.inside in
    cancel_sets m.words.items m.details.items c.args.self.now c.args.task c.index.result.now c.with_cancel_bit.result c.self.invariant.paired c.self.view_is c.requires.known c.index.ensures c.with_cancel_bit.ensures

pub recount-self-inside-requires : goal.recount-self-inside-requires
recount-self-inside-requires g c =
    let m = c.self.inside in
    tables_count m.words.items m.details.items c.args.self.now m.tallies c.args.task c.get_live-before.result c.self.invariant c.self.view_is c.requires.known c.get_live-before.ensures

pub invariant_of-self : goal.invariant_of-self
invariant_of-self g c =
    let m = c.self.inside in
    tables_recounted m.words.items _ m.details.items m.details.items c.args.self.now m.tallies c.recount-self-inside.result c.args.task c.get_live-before.result _ c.self.invariant c.self.view_is (length-set m.words.items c.args.task c.with_cancel_bit.result) refl
    (returns g c ∙ ap (λ (t : Task). slice_set c.args.self.now c.args.task (record t { cancelled = true })) (sym c.get_live-before.ensures)) c.requires.known c.get_live-before.ensures c.recount-self-inside.ensures (subst (λ (t : Task). t.phase ≢ ph.Vacant) (sym c.get_live-before.ensures) c.requires.accepted)
