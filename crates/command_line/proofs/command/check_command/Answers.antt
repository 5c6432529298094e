use Rattle.std.proofs.Common.{rules, ap₂, codes, ◌≡◌, ◌∙◌}
use Rattle.clap.specs.Words.{app_of, new_app, with_rule}
use Rattle.command_line.proofs.command.check_command.Goals as goal

pub returns : goal.returns
returns c =
    let bare : app_of c.after_help.result ≡ new_app (codes "check") = search rules in
    let one = c.in_ok-arg.ensures.shape c.plan.ensures.local ∙ ap₂ with_rule bare c.plan.ensures.rule in
    let two = c.in_ok-arg-2.ensures.shape c.trace.ensures.local ∙ ap₂ with_rule one c.trace.ensures.rule in
    record { app = c.in_ok-arg-3.ensures.shape c.workers.ensures.local ∙ ap₂ with_rule two c.workers.ensures.rule }
