use Rattle.std.proofs.Common.{ℕ, List, [], ◌∷◌, sym, subst, ◌∙◌, arith}
use Rattle.sqlite_disk.specs.Disk.{Holds, Mixed}
use Rattle.line_journal.proofs.Tearing.{mixed_of_put}
use Rattle.line_journal.proofs.Gates.{on_ok, on_ok_map}
use Rattle.line_journal.proofs.gate.open_gate.Goals as goal

pub returns-in_err-put_piece-clause-crash : goal.returns-in_err-put_piece-clause-crash
returns-in_err-put_piece-clause-crash g c mixes only e left =
    let was = c.put_piece.ensures.mixed (mixes c.args.disk.now) (omega arith) e left in
    subst (λ (f : List ℕ). Mixed 0 (1 ∷ []) f e) (only was.0 was.1) was.2

pub returns-clause-crash : goal.returns-clause-crash
returns-clause-crash g c mixes only e left =
    let was = c.put_piece.ensures.mixed (mixes c.args.disk.now) (omega arith) e (c.sync.ensures.leaves e left) in
    subst (λ (f : List ℕ). Mixed 0 (1 ∷ []) f e) (only was.0 was.1) was.2

pub returns-clause-durable : goal.returns-clause-durable
returns-clause-durable g c = on_ok_map c.sync.result _ _ c.sync.ensures.durable (λ only e left. only e left ∙ sym c.sync.ensures.seen)

pub returns-clause-opened : goal.returns-clause-opened
returns-clause-opened g c =
    let d = g.D.Disk in
    let held = c.in_ok-put_piece.ensures.written (omega arith) in
    let mixed = mixed_of_put 0 (1 ∷ []) (d.seen c.args.disk.now) (d.seen c.put_piece.new.disk) c.put_piece.ensures.others held in
    on_ok c.sync.result _ (subst (λ (f : List ℕ). Mixed 0 (1 ∷ []) (d.seen c.args.disk.now) f) (sym c.sync.ensures.seen) mixed, subst (λ (f : List ℕ). Holds f 0 (1 ∷ [])) (sym c.sync.ensures.seen) held)
