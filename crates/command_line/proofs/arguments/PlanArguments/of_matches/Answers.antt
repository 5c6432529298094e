use Rattle.std.proofs.Common.{ap, codes, [], Option, ◌∙◌}
use Rattle.std.specs.Prelude.{unwrap_or}
use Rattle.clap.specs.Words.{Text, found_of}
use Rattle.clap.proofs.WalkLemmas.{first_value-rows}
use Rattle.command_line.proofs.Getters.{text_of_argument}
use Rattle.command_line.proofs.arguments.PlanArguments.of_matches.Goals as goal

pub returns : goal.returns
returns c =
    let found = found_of c.args.matches.now in
    ap (λ s. s.now) c.unwrap_or.ensures ∙ text_of_argument c.get_str.result _ ∙ ap (λ (t : Option Text). unwrap_or t []) (c.get_str.ensures ∙ first_value-rows found (codes "plan"))
