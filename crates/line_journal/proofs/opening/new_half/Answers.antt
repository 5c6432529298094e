use Rattle.std.proofs.Common.{[], refl, ap, ◌∙◌, inl, arith}
use Rattle.std.specs.Hash.DefaultHasher as sip
use Rattle.line_journal.proofs.Staying.{snapshot_head, new_stands, new_left, none_left, new_head, if_ok_map}
use Rattle.line_journal.proofs.opening.new_half.Goals as goal

pub returns-in_err-shut-clause-crash : goal.returns-in_err-shut-clause-crash
returns-in_err-shut-clause-crash g c mixes all e left d shut = none_left c.args.workers e d (c.shut.ensures.crash mixes 0 (λ f may. inl (all f may)) e left) shut

pub returns-clause-crash : goal.returns-clause-crash
returns-clause-crash g c mixes all e left d shut =
    let is = new_head c.args.workers c.finish.result (c.finish.ensures ∙ ap sip.finish c.new.ensures) in
    new_left c.args.workers (snapshot_head c.args.workers c.finish.result) e d is shut
    (c.unshut.ensures.crash mixes c.in_ok-shut.ensures.closed [] refl (λ i low. absurd (omega (arith, low))) e left)

pub returns-clause-opened : goal.returns-clause-opened
returns-clause-opened g c =
    let is = new_head c.args.workers c.finish.result (c.finish.ensures ∙ ap sip.finish c.new.ensures) in
    if_ok_map c.unshut.result _ _ _ c.unshut.ensures.half c.unshut.ensures.has (λ half tells has second shut only.
    new_stands g.D.Disk.seen g.D.Disk.may_leave c.unshut.new.disk second half (snapshot_head c.args.workers c.finish.result) c.args.workers is tells (has c.in_ok-shut.ensures.closed [] refl (λ i low. absurd (omega (arith, low)))) shut only)
