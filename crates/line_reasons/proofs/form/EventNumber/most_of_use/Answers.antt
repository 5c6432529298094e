use Rattle.line_reasons.proofs.PlaceFaults.{others_of_use}
use Rattle.line_reasons.proofs.form.EventNumber.most_of_use.Goals as goal

pub returns-in_default : goal.returns-in_default
returns-in_default c n =
    let same = others_of_use c.args.self c.in_default.not-Starter c.in_default.not-Finisher n in
    (λ within. same.0 ((c.most.ensures n).0 within), λ of_use. (c.most.ensures n).1 (same.1 of_use))
