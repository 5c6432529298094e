use Rattle.std.proofs.Common.{rules, ap₂, codes, ◌≡◌, ◌∙◌}
use Rattle.clap.specs.Words.{app_of, new_app, with_rule}
use Rattle.command_line.proofs.command.draw_command.Goals as goal

pub returns : goal.returns
returns c =
    let bare : app_of c.after_help.result ≡ new_app (codes "draw") = search rules in
    let one = c.in_ok-arg.ensures.shape c.plan.ensures.local ∙ ap₂ with_rule bare c.plan.ensures.rule in
    let two = c.in_ok-arg-2.ensures.shape c.trace.ensures.local ∙ ap₂ with_rule one c.trace.ensures.rule in
    let three = c.in_ok-arg-3.ensures.shape c.workers.ensures.local ∙ ap₂ with_rule two c.workers.ensures.rule in
    let four = c.in_ok-arg-4.ensures.shape c.from.ensures.local ∙ ap₂ with_rule three c.from.ensures.rule in
    let five = c.in_ok-arg-5.ensures.shape c.to.ensures.local ∙ ap₂ with_rule four c.to.ensures.rule in
    record { app = c.in_ok-arg-6.ensures.shape c.marks.ensures.local ∙ ap₂ with_rule five c.marks.ensures.rule }
