use Rattle.snapshot_text.proofs.Fields.{no_number, no_second}
use Rattle.snapshot_text.proofs.words.split_two.Goals as goal

pub returns-in_default-number_before : goal.returns-in_default-number_before
returns-in_default-number_before c =
    no_number c.args.one.now c.args.other.now c.args.last.now c.args.bytes.now c.in-Some.rest.now c.in-Some.ensures c.in_default-number_before.ensures

pub returns-in_default-number_before-2 : goal.returns-in_default-number_before-2
returns-in_default-number_before-2 c =
    no_second c.args.one.now c.args.other.now c.args.last.now c.args.bytes.now c.in-Some.rest.now c.in-Some-number_before.rest.now c.in-Some-number_before.first
    c.requires.other.0 c.requires.other.1 c.in-Some.ensures c.in-Some-number_before.ensures c.in_default-number_before-2.ensures
