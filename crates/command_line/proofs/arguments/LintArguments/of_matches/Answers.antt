use Rattle.std.proofs.Common.{codes, ◌∙◌}
use Rattle.clap.specs.Words.{found_of}
use Rattle.clap.proofs.WalkLemmas.{first_value-rows}
use Rattle.command_line.proofs.Getters.{flag_found, maybe_number_found}
use Rattle.command_line.proofs.arguments.LintArguments.of_matches.Goals as goal

pub returns : goal.returns
returns c =
    let found = found_of c.args.lint.now in
    record {
      plan = c.get_str.ensures ∙ first_value-rows found (codes "plan");
      events = c.get_str-2.ensures ∙ first_value-rows found (codes "events");
      trace = c.get_str-3.ensures ∙ first_value-rows found (codes "trace");
      workers = maybe_number_found 8 found (codes "workers") c.get_one.result c.get_one.ensures.none c.get_one.ensures.value;
      calls = c.get_str-4.ensures ∙ first_value-rows found (codes "calls");
      strict = flag_found found (codes "strict") c.get_flag.result c.get_flag.ensures.none c.get_flag.ensures.value c.get_flag.ensures.other;
    }
