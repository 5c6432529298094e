use Rattle.std.proofs.Common.{ap, codes, refl, true, [], ◌∷◌, ◌≡◌, ◌∙◌}
use Rattle.std.specs.Prelude.{Ok, Err, Result, IfOk, IsOkAnd}
use Rattle.clap.specs.Words.{App, app_of, with_subcommand}
use Rattle.clap.specs.declared.builder.command.Command.{Command}
use Rattle.command_line.specs.Commands.{command_of, lint_rules, from_rule, limit_rule, marks_rule, plan_file_rule, plan_rule, to_rule, trace_rule, workers_rule}
use Rattle.command_line.specs.own.Programs.{AddsPlain}
use Rattle.command_line.proofs.command.command.Goals as goal

-- a program with one more command
added : {E : Type 0} (command : Result Command E) (old new : Command) (known app : App)
    → app_of old ≡ known → IfOk command (λ c. app_of c ≡ app) → app.top.is_plain ≡ true
    → IsOkAnd command (AddsPlain old new) → app_of new ≡ with_subcommand known app.top
added (Ok c) old new known app is named plain adds =
    adds (ap (λ (a : App). a.top.is_plain) named ∙ plain) ∙ ap (λ (a : App). with_subcommand a (app_of c).top) is ∙ ap (λ (a : App). with_subcommand known a.top) named
added (Err e) old new known app is named plain adds = absurd adds

-- the same of what may be a program
added_last : {E F : Type 0} (command : Result Command E) (old : Command) (new : Result Command F) (known app : App)
    → app_of old ≡ known → IfOk command (λ c. app_of c ≡ app) → app.top.is_plain ≡ true
    → IfOk new (λ p. IsOkAnd command (AddsPlain old p)) → IfOk new (λ p. app_of p ≡ with_subcommand known app.top)
added_last command old (Ok p) known app is named plain adds = added command old p known app is named plain adds
added_last command old (Err e) known app is named plain adds = tt

pub returns : goal.returns
returns c =
    let run = added c.run_command.result c.in_ok-program.program c.in_ok-program-2.program _ (command_of (codes "run") (plan_rule ∷ workers_rule ∷ limit_rule ∷ [])) c.in_ok-program.ensures.app c.run_command.ensures.app refl c.in_ok-program-2.ensures.app in
    let pool = added c.pool_command.result c.in_ok-program-2.program c.in_ok-program-3.program _ (command_of (codes "pool") (plan_rule ∷ workers_rule ∷ limit_rule ∷ [])) run c.pool_command.ensures.app refl c.in_ok-program-3.ensures.app in
    let code = added c.code_command.result c.in_ok-program-3.program c.in_ok-program-4.program _ (command_of (codes "code") (plan_rule ∷ [])) pool c.code_command.ensures.app refl c.in_ok-program-4.ensures.app in
    let tasks = added c.tasks_command.result c.in_ok-program-4.program c.in_ok-program-5.program _ (command_of (codes "tasks") (plan_rule ∷ [])) code c.tasks_command.ensures.app refl c.in_ok-program-5.ensures.app in
    let check = added c.check_command.result c.in_ok-program-5.program c.in_ok-program-6.program _ (command_of (codes "check") (plan_rule ∷ trace_rule ∷ workers_rule ∷ [])) tasks c.check_command.ensures.app refl c.in_ok-program-6.ensures.app in
    let migrate = added c.migrate_command.result c.in_ok-program-6.program c.in_ok-program-7.program _ (command_of (codes "migrate") (plan_rule ∷ [])) check c.migrate_command.ensures.app refl c.in_ok-program-7.ensures.app in
    let draw = added c.draw_command.result c.in_ok-program-7.program c.in_ok-program-8.program _ (command_of (codes "draw") (plan_rule ∷ trace_rule ∷ workers_rule ∷ from_rule ∷ to_rule ∷ marks_rule ∷ [])) migrate c.draw_command.ensures.app refl c.in_ok-program-8.ensures.app in
    let live = added c.live_command.result c.in_ok-program-8.program c.in_ok-program-9.program _ (command_of (codes "live") (workers_rule ∷ plan_file_rule ∷ [])) draw c.live_command.ensures.app refl c.in_ok-program-9.ensures.app in
    record { app = added_last c.lint_command.result c.in_ok-program-9.program c.with_command-9.result _ (command_of (codes "lint") lint_rules) live c.lint_command.ensures.app refl c.with_command-9.ensures.app }
