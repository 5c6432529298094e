use Rattle.std.proofs.Common.{rules, ap₂, codes, ◌≡◌, ◌∙◌}
use Rattle.clap.specs.Words.{app_of, new_app, with_rule}
use Rattle.command_line.proofs.command.live_command.Goals as goal

pub returns : goal.returns
returns c =
    let bare : app_of c.after_help.result ≡ new_app (codes "live") = search rules in
    let one = c.in_ok-arg.ensures.shape c.workers.ensures.local ∙ ap₂ with_rule bare c.workers.ensures.rule in
    record { app = c.in_ok-arg-2.ensures.shape c.plan_file.ensures.local ∙ ap₂ with_rule one c.plan_file.ensures.rule }
