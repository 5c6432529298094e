use Rattle.std.proofs.Common.{codes, ◌∙◌}
use Rattle.clap.specs.Words.{found_of}
use Rattle.clap.proofs.WalkLemmas.{first_value-rows}
use Rattle.command_line.proofs.Getters.{number_found}
use Rattle.command_line.proofs.arguments.LiveArguments.of_matches.Goals as goal

pub returns : goal.returns
returns c =
    let found = found_of c.args.live.now in
    record {
      workers = number_found 8 found (codes "workers") c.get_one.result _ c.get_one.ensures.none c.get_one.ensures.value c.unwrap_or.ensures;
      plan = c.get_str.ensures ∙ first_value-rows found (codes "plan");
    }
