use Rattle.std.proofs.Common.{ap, codes, [], Option, ◌∙◌}
use Rattle.std.specs.Prelude.{unwrap_or}
use Rattle.clap.specs.Words.{Text, found_of}
use Rattle.clap.proofs.WalkLemmas.{first_value-rows}
use Rattle.command_line.proofs.Getters.{number_found, text_of_argument}
use Rattle.command_line.proofs.arguments.RunArguments.of_matches.Goals as goal

pub returns : goal.returns
returns c =
    let found = found_of c.args.run.now in
    record {
      plan = ap (λ s. s.now) c.unwrap_or.ensures ∙ text_of_argument c.get_str.result _ ∙ ap (λ (t : Option Text). unwrap_or t []) (c.get_str.ensures ∙ first_value-rows found (codes "plan"));
      workers = number_found 8 found (codes "workers") c.get_one.result _ c.get_one.ensures.none c.get_one.ensures.value c.unwrap_or-2.ensures;
      limit = number_found 32 found (codes "limit") c.get_one-2.result _ c.get_one-2.ensures.none c.get_one-2.ensures.value c.unwrap_or-3.ensures;
    }
