use Rattle.std.proofs.lemmas.Bool.{and_parts, not-true}
use Rattle.std.specs.Prelude.{Ok, Err, Result, IfOk}
use Rattle.clap.specs.Words.{AddsSubcommand}
use Rattle.clap.specs.declared.builder.command.Command.{Command}
use Rattle.command_line.specs.own.Programs.{AddsPlain}
use Rattle.command_line.proofs.command.with_command.Goals as goal

-- a command that is plain has no global argument
adds : {E : Type 0} (old command : Command) (new : Result Command E)
    → IfOk new (λ p. AddsSubcommand old command p) → IfOk new (λ p. AddsPlain old p command)
adds old command (Ok p) added = λ plain. added.shape (not-true _ (and_parts _ _ (and_parts _ _ (and_parts _ _ plain).1).1).0)
adds old command (Err e) added = tt

pub returns : goal.returns
returns c = record { app = rw c.in_ok-command.was (adds c.args.program c.in_ok-command.field-0 c.subcommand.result c.subcommand.ensures) }
