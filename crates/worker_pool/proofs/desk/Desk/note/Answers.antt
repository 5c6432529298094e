use Rattle.std.proofs.Common.{[], ◌∷◌, ◌++◌, ap, ◌∙◌, arith}
use Rattle.worker_pool.proofs.Keepings.{notes_one}
use Rattle.worker_pool.proofs.desk.Desk.note.Goals as goal

pub returns-clause-notes : goal.returns-clause-notes
returns-clause-notes g c = λ v next kept was.
    let old = c.args.self.now in
    let room = c.requires.room in
    let did = notes_one old.core c.cancel.new.self v next old.happenings.items c.push_reserved.new.self.items old.lines.items c.cancel.new.out.items c.args.task kept was c.cancel.ensures.steps (c.push_reserved.ensures.items ∙ ap (λ y. old.happenings.items ++ y ∷ []) c.new.ensures) c.cancel.ensures.leaves.taken c.cancel.ensures.counted
    (λ q. let gives = c.cancel.ensures.effective q in record { lines = omega (arith, gives.lines, c.cancel.new.out.ok.0, old.lines.ok.0); less = gives.less })
    in (
      did.0,
      did.1,
      record {
        lines_fit = omega (arith, did.2.lines, room.lines_fit, c.cancel.ensures.capacity, c.cancel.new.out.ok.0, old.lines.ok.0);
        happened_fit = omega (arith, did.2.less, room.happened_fit, c.push_reserved.ensures.len, c.push_reserved.ensures.capacity);
      },
    )
