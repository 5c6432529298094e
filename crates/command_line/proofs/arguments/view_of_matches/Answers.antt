use Rattle.std.proofs.Common.{codes}
use Rattle.clap.specs.Words.{found_of}
use Rattle.command_line.proofs.Getters.{maybe_number_found, number_found}
use Rattle.command_line.proofs.arguments.view_of_matches.Goals as goal

pub returns : goal.returns
returns c =
    let found = found_of c.args.draw.now in
    record {
      from = maybe_number_found 64 found (codes "from") c.get_one.result c.get_one.ensures.none c.get_one.ensures.value;
      to = maybe_number_found 64 found (codes "to") c.get_one-2.result c.get_one-2.ensures.none c.get_one-2.ensures.value;
      marks = number_found 64 found (codes "marks") c.get_one-3.result _ c.get_one-3.ensures.none c.get_one-3.ensures.value c.unwrap_or.ensures;
    }
