-- Programs: the program before it has all its commands.
use Rattle.std.specs.Prelude.{◌≡◌, true, codes}
use Rattle.clap.specs.Words.{App, app_of, new_app, with_subcommand}
use Rattle.clap.specs.declared.builder.command.Command.{Command}

-- the program without its commands: it has a version, and one of them has to be named
abbrev pub bare_app : App
bare_app = record (new_app (codes "sched")) { top = record (new_app (codes "sched")).top { has_version = true; subcommand_required = true } }

-- p is the program old and this command, where that is a plain one
abbrev pub AddsPlain : Command → Command → Command → Type 0
AddsPlain old p c = (app_of c).top.is_plain ≡ true → app_of p ≡ with_subcommand (app_of old) (app_of c).top
