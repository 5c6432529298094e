-- The slot of a worker's task holds it.
use Rattle.std.proofs.Common.{◌≡◌, ◌<◌, length, Some, None, sym, ap, subst, ◌∙◌, arith}
use Rattle.std.specs.Prelude.{slice_index_or}
use Rattle.std.proofs.lemmas.List.{get_or_read}
use Rattle.task_table.specs.declared.seat.Seat.{Seat}
use Rattle.task_table.specs.Seats.{slot_of}
use Rattle.task_table.specs.Tables.{TableView, workers_of}
use Rattle.task_table.proofs.Worked.{at_work}
use Rattle.task_table.proofs.table.Table.work_of.Goals as goal

pub held-seat-requires : goal.held-seat-requires
held-seat-requires g k =
    let q = k.self.inside in
    let low : k.args.worker < length q.work.items = omega (arith, ap workers_of k.self.view_is, k.workers.ensures, k.if-place-workers.false) in
    let works : slice_index_or q.work.items k.args.worker None ≡ Some k.in-Some.slot = sym (get_or_read q.work.items _ _ low k.index.ensures None) ∙ k.in-Some.is in
    let busy = k.self.invariant.formed.staffed k.args.worker k.in-Some.slot works in
    subst (λ (n : TableView). (x : Seat) × (slot_of n.slots k.in-Some.slot ≡ Some x)) k.self.view_is (busy.0, busy.1)

pub returns-in-Some-clause-runs : goal.returns-in-Some-clause-runs
returns-in-Some-clause-runs g k =
    let q = k.self.inside in
    let low : k.args.worker < length q.work.items = omega (arith, ap workers_of k.self.view_is, k.workers.ensures, k.if-place-workers.false) in
    let works : slice_index_or q.work.items k.args.worker None ≡ Some k.in-Some.slot = sym (get_or_read q.work.items _ _ low k.index.ensures None) ∙ k.in-Some.is in
    let same : slice_index_or k.args.self.now.work k.args.worker None ≡ Some k.in-Some.slot = subst (λ (n : TableView). slice_index_or n.work k.args.worker None ≡ Some k.in-Some.slot) k.self.view_is works in
    at_work k.args.self.now k.args.worker k.in-Some.slot k.held-seat.result k.held-seat.ensures.formed same k.held-seat.ensures.held
