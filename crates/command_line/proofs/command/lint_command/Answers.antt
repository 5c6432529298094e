use Rattle.std.proofs.Common.{rules, ap₂, codes, ◌≡◌, ◌∙◌}
use Rattle.clap.specs.Words.{app_of, new_app, with_rule}
use Rattle.command_line.proofs.command.lint_command.Goals as goal

pub returns : goal.returns
returns c =
    let bare : app_of c.after_help.result ≡ new_app (codes "lint") = search rules in
    let one = c.in_ok-arg.ensures.shape c.plan_of_lint.ensures.local ∙ ap₂ with_rule bare c.plan_of_lint.ensures.rule in
    let two = c.in_ok-arg-2.ensures.shape c.events_file.ensures.local ∙ ap₂ with_rule one c.events_file.ensures.rule in
    let three = c.in_ok-arg-3.ensures.shape c.trace_file.ensures.local ∙ ap₂ with_rule two c.trace_file.ensures.rule in
    let four = c.in_ok-arg-4.ensures.shape c.workers_of_trace.ensures.local ∙ ap₂ with_rule three c.workers_of_trace.ensures.rule in
    let five = c.in_ok-arg-5.ensures.shape c.calls_file.ensures.local ∙ ap₂ with_rule four c.calls_file.ensures.rule in
    record { app = c.in_ok-arg-6.ensures.shape c.strict.ensures.local ∙ ap₂ with_rule five c.strict.ensures.rule }
