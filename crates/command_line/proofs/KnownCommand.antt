-- KnownCommand: the command line is one of which clap's definitions give the faults.
use Rattle.std.proofs.Common.{refl, true, ◌≡◌}
use Rattle.clap.specs.Words.{is_simple_and_free}
use Rattle.clap.proofs.OnLiterals.{clap_on_literals}
use Rattle.command_line.specs.Commands.{sched_app}

-- clap's definitions give the faults of the command line
pub is_known : is_simple_and_free sched_app ≡ true
unfolding clap_on_literals
is_known = refl
