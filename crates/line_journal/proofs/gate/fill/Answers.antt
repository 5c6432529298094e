use Rattle.std.proofs.Common.{◌≡◌, ℕ, ◌+◌, List, length, sym, subst, ap, ◌∙◌, arith}
use Rattle.sqlite_disk.specs.Disk.{Holds, Torn}
use Rattle.line_journal.specs.Fronts.{told_whole}
use Rattle.line_journal.specs.Gates.{IsReady}
use Rattle.line_journal.proofs.Unique.{length-told_whole}
use Rattle.line_journal.proofs.Gates.{on_ok, on_ok_map, closed_below, closed_torn, ready}
use Rattle.line_journal.proofs.gate.fill.Goals as goal

pub returns-in_err-put_zeros-clause-crash : goal.returns-in_err-put_zeros-clause-crash
returns-in_err-put_zeros-clause-crash g c closed e left =
    let was = c.put_zeros.ensures.crash e left in
    closed_below (64 + c.args.head.now.text) was.0 e (omega arith) was.2 (closed.left was.0 was.1)

pub returns-in_err-put_piece-clause-crash : goal.returns-in_err-put_piece-clause-crash
returns-in_err-put_piece-clause-crash g c closed e left =
    let next = c.put_piece.ensures.crash e left in
    let was = c.put_zeros.ensures.crash next.0 next.1 in
    closed_torn 1 _ next.0 e (omega arith) next.2 (closed_below (64 + c.args.head.now.text) was.0 next.0 (omega arith) was.2 (closed.left was.0 was.1))

pub returns-clause-crash : goal.returns-clause-crash
returns-clause-crash g c closed e left =
    let next = c.put_piece.ensures.crash e (c.sync.ensures.leaves e left) in
    let was = c.put_zeros.ensures.crash next.0 next.1 in
    closed_torn 1 _ next.0 e (omega arith) next.2 (closed_below (64 + c.args.head.now.text) was.0 next.0 (omega arith) was.2 (closed.left was.0 was.1))

pub returns-clause-durable : goal.returns-clause-durable
returns-clause-durable g c = on_ok_map c.sync.result _ _ c.sync.ensures.durable (λ only e left. only e left ∙ sym c.sync.ensures.seen)

pub returns-clause-ready : goal.returns-clause-ready
returns-clause-ready g c =
    let d = g.D.Disk in
    let head = c.args.head.now in
    let is : c.put_told.new.bytes ≡ told_whole head = c.put_told.ensures in
    let size : length c.put_told.new.bytes ≡ 63 = ap length is ∙ length-told_whole head in
    let torn : Torn 1 (length (told_whole head)) (d.seen c.put_zeros.new.disk) (d.seen c.put_piece.new.disk) = subst (λ (t : List ℕ). Torn 1 (length t) (d.seen c.put_zeros.new.disk) (d.seen c.put_piece.new.disk)) is c.put_piece.ensures.others in
    let held : Holds (d.seen c.put_piece.new.disk) 1 (told_whole head) = subst (λ (t : List ℕ). Holds (d.seen c.put_piece.new.disk) 1 t) is (c.in_ok-put_piece.ensures.written (omega (arith, size))) in
    on_ok c.sync.result _ (λ closed text long there.
    subst (λ (f : List ℕ). IsReady f head text) (sym c.sync.ensures.seen)
    (ready head text (d.seen c.args.disk.now) (d.seen c.put_zeros.new.disk) (d.seen c.put_piece.new.disk) long closed.now there c.put_zeros.ensures.below c.in_ok-put_zeros.ensures.blank torn held))
