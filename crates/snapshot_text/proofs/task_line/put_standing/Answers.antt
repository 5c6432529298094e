use Rattle.std.proofs.Common.{◌++◌, ◌∙◌, ap, sym, codes}
use Rattle.std.specs.Fmt.{decimal}
use Rattle.snapshot_text.specs.Spelling.{standing_text}
use Rattle.snapshot_text.proofs.Pages.{behind, joined}
use Rattle.snapshot_text.proofs.task_line.put_standing.Goals as goal

pub returns-in-Cancelled : goal.returns-in-Cancelled
returns-in-Cancelled g c =
    let number = c.put_number-in-Cancelled.ensures.text ∙ ap (λ n. behind c.put-in-Cancelled.new.self (decimal n)) c.from-in-Cancelled.ensures in
    let all = joined c.args.page.now c.put-in-Cancelled.new.self c.put-in-Cancelled-2.new.self (codes "runs ") (decimal c.in-Cancelled.worker ++ codes " cancelled\n") c.put-in-Cancelled.ensures
    (joined c.put-in-Cancelled.new.self c.put_number-in-Cancelled.new.self c.put-in-Cancelled-2.new.self (decimal c.in-Cancelled.worker) (codes " cancelled\n") number c.put-in-Cancelled-2.ensures) in
    record { text = all ∙ ap (λ s. behind c.args.page.now (standing_text s)) (sym c.in-Cancelled.is) }
