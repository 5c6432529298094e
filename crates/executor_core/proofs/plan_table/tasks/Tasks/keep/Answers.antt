use Rattle.std.proofs.Common.{arith, refl}
use Rattle.std.specs.Prelude.{slice_index_or}
use Rattle.std.proofs.lemmas.List.{length-set}
use Rattle.executor_model.specs.State.{vacant}
use Rattle.executor_core.proofs.plan_table.Pairs.{is_in, keep_sets}
use Rattle.executor_core.proofs.plan_table.Counting.{tables_recounted}
use Rattle.executor_core.proofs.plan_table.tasks.Tasks.keep.Goals as goal

pub index_mut-requires : goal.index_mut-requires
index_mut-requires g c =
    let m = c.self.inside in
    omega (arith, m.details.ok.0, c.self.invariant.paired, is_in m.words.items m.details.items c.args.self.now c.args.task c.self.invariant.paired c.self.view_is c.requires.known)

pub returns : goal.returns
returns g c =
    let m = c.self.inside in
    keep_sets m.words.items m.details.items c.args.self.now c.args.task c.index_mut.result.now c.args.kept c.self.invariant.paired c.self.view_is c.requires.known c.index_mut.ensures.value

pub invariant_of-self : goal.invariant_of-self
invariant_of-self g c =
    let m = c.self.inside in
    let t = slice_index_or c.args.self.now c.args.task vacant in
    tables_recounted m.words.items m.words.items m.details.items _ c.args.self.now m.tallies m.tallies c.args.task t (record t { kept = c.args.kept }) c.self.invariant c.self.view_is refl (length-set m.details.items c.args.task _)
    (returns g c) c.requires.known refl (refl, refl) c.requires.accepted
