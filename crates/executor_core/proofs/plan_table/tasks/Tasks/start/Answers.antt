use Rattle.std.proofs.Common.{◌≡◌, ◌-◌, ap, arith, refl, subst, sym, ◌∙◌}
use Rattle.std.specs.Prelude.{slice_index_or}
use Rattle.executor_model.specs.State.{vacant}
use Rattle.executor_core.specs.plan_table.Tasks.{is_periodic}
use Rattle.executor_core.specs.plan_table.own.Tables.{one, IsRecount}
use Rattle.executor_model.specs.declared.task.Stage.TheVariants as ph
use Rattle.executor_core.proofs.plan_table.Pairs.{is_in, word_waits, word_marked, unmarked, start_sets, periodic_so}
use Rattle.std.proofs.lemmas.List.{length-set}
use Rattle.executor_core.proofs.plan_table.Counting.{tables_count, tables_recounted, started_recount}
use Rattle.executor_core.proofs.plan_table.tasks.Tasks.start.Goals as goal

pub index-requires : goal.index-requires
index-requires g c =
    let m = c.self.inside in
    omega (arith, m.words.ok.0, is_in m.words.items m.details.items c.args.self.now c.args.task c.self.invariant.paired c.self.view_is c.requires.known)

pub started-requires-clause-phase : goal.started-requires-clause-phase
started-requires-clause-phase g c =
    let m = c.self.inside in
    word_waits m.words.items m.details.items c.args.self.now c.args.task c.index.result.now c.self.invariant.paired c.self.view_is c.requires.known c.index.ensures c.requires.phase

pub started-requires-clause-live : goal.started-requires-clause-live
started-requires-clause-live g c =
    let m = c.self.inside in
    unmarked c.index.result.now (word_marked m.words.items m.details.items c.args.self.now c.args.task c.index.result.now c.self.invariant.paired c.self.view_is c.requires.known c.index.ensures ∙ c.requires.live)

pub index_mut-requires : goal.index_mut-requires
index_mut-requires g c =
    let m = c.self.inside in
    omega (arith, m.words.ok.0, is_in m.words.items m.details.items c.args.self.now c.args.task c.self.invariant.paired c.self.view_is c.requires.known)

pub index_mut-detail-requires : goal.index_mut-detail-requires
index_mut-detail-requires g c =
    let m = c.self.inside in
    omega (arith, m.details.ok.0, c.self.invariant.paired, is_in m.words.items m.details.items c.args.self.now c.args.task c.self.invariant.paired c.self.view_is c.requires.known)

pub returns : goal.returns
returns g c =
    let m = c.self.inside in
    start_sets m.words.items m.details.items c.args.self.now c.args.task c.index.result.now c.started.result c.index_mut-detail.result.now c.self.invariant.paired c.self.view_is c.requires.known c.index.ensures c.index_mut-detail.ensures.value c.started.ensures

pub run_started-self-inside-requires : goal.run_started-self-inside-requires
run_started-self-inside-requires g c =
    let m = c.self.inside in
    let t = slice_index_or c.args.self.now c.args.task vacant in
    let count = tables_count m.words.items m.details.items c.args.self.now m.tallies c.args.task t c.self.invariant c.self.view_is c.requires.known refl in
    let (some, again, room_some, room_again) = count in
    let so = periodic_so m.words.items m.details.items c.args.self.now c.args.task c.index.result.now c.index_mut-detail.result.now c.self.invariant.paired c.self.view_is c.requires.known c.index.ensures c.index_mut-detail.ensures.value in
    omega (arith, ap one (c.is_periodic-again.ensures ∙ so), (started_recount m.tallies t c.requires.phase c.requires.live count).1)

pub invariant_of-self : goal.invariant_of-self
invariant_of-self g c =
    let m = c.self.inside in
    let t = slice_index_or c.args.self.now c.args.task vacant in
    let count = tables_count m.words.items m.details.items c.args.self.now m.tallies c.args.task t c.self.invariant c.self.view_is c.requires.known refl in
    let so = periodic_so m.words.items m.details.items c.args.self.now c.args.task c.index.result.now c.index_mut-detail.result.now c.self.invariant.paired c.self.view_is c.requires.known c.index.ensures c.index_mut-detail.ensures.value in
    let new : c.run_started-self-inside.result ≡ record m.tallies { periodic = m.tallies.periodic - one (is_periodic t.timing) } =
    c.run_started-self-inside.ensures ∙ ap (λ b. record m.tallies { periodic = m.tallies.periodic - one b }) (c.is_periodic-again.ensures ∙ so)
    in
    let recount = subst (λ n. IsRecount m.tallies n t (record t { phase = ph.Running })) (sym new) (started_recount m.tallies t c.requires.phase c.requires.live count).0 in
    tables_recounted m.words.items _ m.details.items _ c.args.self.now m.tallies c.run_started-self-inside.result c.args.task t (record t { phase = ph.Running }) c.self.invariant c.self.view_is (length-set m.words.items c.args.task c.started.result) (length-set m.details.items c.args.task _)
    (returns g c) c.requires.known refl recount (λ q. absurd cc)
