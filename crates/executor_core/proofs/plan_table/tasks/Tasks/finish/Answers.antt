use Rattle.std.proofs.Common.{◌≡◌, ◌+◌, ap, arith, refl, subst, sym, ◌∙◌}
use Rattle.executor_core.specs.plan_table.own.Tables.{tasks_in_tables, is_again, one, IsRecount}
use Rattle.executor_core.proofs.plan_table.Pairs.{is_in, word_runs, word_marked, word_run, unmarked, ended_done, ended_failed, ended_again, ended_over, both_sets, detail_kept, over_of, end_over, word_there, detail_past}
use Rattle.executor_core.proofs.plan_table.tasks.Tasks.finish.Goals as goal
use Rattle.std.proofs.lemmas.List.{length-set}
use Rattle.std.specs.Prelude.{slice_index_or, slice_set}
use Rattle.executor_model.specs.State.{vacant, end_task}
use Rattle.executor_core.proofs.plan_table.Counting.{tables_count, tables_recounted, ended_recount, end_accepted}
use Rattle.executor_core.proofs.plan_table.tasks.Tasks.finish.Goals.{in-Done, in-Failed, in-Again, in-Dropped}

pub index-word-requires : goal.index-word-requires
index-word-requires g c =
    let m = c.self.inside in
    omega (arith, m.words.ok.0, is_in m.words.items m.details.items c.args.self.now c.args.task c.self.invariant.paired c.self.view_is c.requires.known)

pub done-requires-clause-phase : goal.done-requires-clause-phase
done-requires-clause-phase g c =
    let m = c.self.inside in
    word_runs m.words.items m.details.items c.args.self.now c.args.task c.index-word.result.now c.self.invariant.paired c.self.view_is c.requires.known c.index-word.ensures c.requires.phase

pub done-requires-clause-live : goal.done-requires-clause-live
done-requires-clause-live g c =
    let m = c.self.inside in
    let live = c.requires.live (λ q. absurd cc) in
    unmarked c.index-word.result.now (word_marked m.words.items m.details.items c.args.self.now c.args.task c.index-word.result.now c.self.invariant.paired c.self.view_is c.requires.known c.index-word.ensures ∙ live)

pub failed-requires-clause-phase : goal.failed-requires-clause-phase
failed-requires-clause-phase g c =
    let m = c.self.inside in
    word_runs m.words.items m.details.items c.args.self.now c.args.task c.index-word.result.now c.self.invariant.paired c.self.view_is c.requires.known c.index-word.ensures c.requires.phase

pub failed-requires-clause-live : goal.failed-requires-clause-live
failed-requires-clause-live g c =
    let m = c.self.inside in
    let live = c.requires.live (λ q. absurd cc) in
    unmarked c.index-word.result.now (word_marked m.words.items m.details.items c.args.self.now c.args.task c.index-word.result.now c.self.invariant.paired c.self.view_is c.requires.known c.index-word.ensures ∙ live)

pub rearmed-requires-clause-phase : goal.rearmed-requires-clause-phase
rearmed-requires-clause-phase g c =
    let m = c.self.inside in
    word_runs m.words.items m.details.items c.args.self.now c.args.task c.index-word.result.now c.self.invariant.paired c.self.view_is c.requires.known c.index-word.ensures c.requires.phase

pub rearmed-requires-clause-live : goal.rearmed-requires-clause-live
rearmed-requires-clause-live g c =
    let m = c.self.inside in
    let live = c.requires.live (λ q. absurd cc) in
    unmarked c.index-word.result.now (word_marked m.words.items m.details.items c.args.self.now c.args.task c.index-word.result.now c.self.invariant.paired c.self.view_is c.requires.known c.index-word.ensures ∙ live)

pub rearmed-requires-clause-run : goal.rearmed-requires-clause-run
rearmed-requires-clause-run g c =
    let m = c.self.inside in
    omega (arith, c.requires.run, word_run m.words.items m.details.items c.args.self.now c.args.task c.index-word.result.now c.self.invariant.paired c.self.view_is c.requires.known c.index-word.ensures)

pub index_mut-requires : goal.index_mut-requires
index_mut-requires g c =
    let m = c.self.inside in
    omega (arith, m.words.ok.0, is_in m.words.items m.details.items c.args.self.now c.args.task c.self.invariant.paired c.self.view_is c.requires.known)

pub index_mut-detail-requires : goal.index_mut-detail-requires
index_mut-detail-requires g c =
    let m = c.self.inside in
    omega (arith, m.details.ok.0, c.self.invariant.paired, is_in m.words.items m.details.items c.args.self.now c.args.task c.self.invariant.paired c.self.view_is c.requires.known)

pub run_ended-self-inside-requires : goal.run_ended-self-inside-requires
run_ended-self-inside-requires g c =
    let m = c.self.inside in
    let t = slice_index_or c.args.self.now c.args.task vacant in
    let (some, again, room_some, room_again) = tables_count m.words.items m.details.items c.args.self.now m.tallies c.args.task t c.self.invariant c.self.view_is c.requires.known refl in
    room_again

pub returns : goal.returns
returns g c =
    let m = c.self.inside in
    let word = c.index-word.result.now in
    let t = slice_index_or c.args.self.now c.args.task vacant in
    let over = c.is_over-over.result in
    let runs = word_runs m.words.items m.details.items c.args.self.now c.args.task word c.self.invariant.paired c.self.view_is c.requires.known c.index-word.ensures c.requires.phase in
    let there = word_there m.words.items m.details.items c.args.self.now c.args.task word t c.self.invariant.paired c.self.view_is c.requires.known c.index-word.ensures refl in
    let kept = detail_kept m.words.items m.details.items c.args.self.now c.args.task word c.index_mut-detail.result.now t c.args.due over c.self.invariant.paired c.self.view_is c.requires.known c.index-word.ensures c.index_mut-detail.ensures.value refl in
    (λ i. tasks_in_tables (slice_set m.words.items c.args.task c.match-outcome.t-12) (slice_set m.details.items c.args.task (kept i)))
    ∙ both_sets m.words.items m.details.items c.args.self.now c.args.task _ (detail_past t c.args.due over) _ c.self.invariant.paired c.self.view_is
    (elim c.match-outcome.branch [
      | in-Done w ↦ ended_done c.args.due word _ over c.args.outcome t there w.in-Done.is (w.t-12-is ∙ w.done.ensures)
      | in-Failed w ↦ ended_failed c.args.due word _ over c.args.outcome t there w.in-Failed.is (w.t-12-is ∙ w.failed.ensures)
      | in-Again w ↦ ended_again c.args.due word _ over c.args.outcome t there w.in-Again.is (w.t-12-is ∙ w.rearmed.ensures)
      | in-Dropped w ↦
          ended_over c.args.due word _ over c.args.outcome t there (end_over c.args.outcome c.args.due t w.in-Dropped.is) (c.is_over-over.ensures ∙ over_of c.args.outcome w.in-Dropped.is) runs w.t-12-is
    ])

pub invariant_of-self : goal.invariant_of-self
invariant_of-self g c =
    let m = c.self.inside in
    let t = slice_index_or c.args.self.now c.args.task vacant in
    let after = end_task c.args.outcome c.args.due t in
    let new : c.run_ended-self-inside.result ≡ record m.tallies { periodic = m.tallies.periodic + one (is_again c.args.outcome) } =
    c.run_ended-self-inside.ensures ∙ ap (λ b. record m.tallies { periodic = m.tallies.periodic + one b }) c.is_again.ensures
    in
    let recount = subst (λ n. IsRecount m.tallies n t after) (sym new) (ended_recount m.tallies c.args.outcome c.args.due t c.requires.phase c.requires.live c.requires.again) in
    tables_recounted m.words.items _ m.details.items _ c.args.self.now m.tallies c.run_ended-self-inside.result c.args.task t after c.self.invariant c.self.view_is (length-set m.words.items c.args.task _) (length-set m.details.items c.args.task _)
    (returns g c)
    c.requires.known refl recount (end_accepted c.args.outcome c.args.due t)
