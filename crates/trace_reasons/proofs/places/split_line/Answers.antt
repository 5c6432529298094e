use Rattle.std.proofs.Common.{◌+◌, ◌∙◌, arith, ap, drop, sym, take}
use Rattle.std.proofs.Math.ListN.{drop_of_length-le}
use Rattle.std.proofs.lemmas.List.{take_all}
use Rattle.trace_reasons.proofs.Newlines.{newline_found, newline_missing}
use Rattle.trace_reasons.proofs.places.split_line.Goals as goal

pub returns-in-Some-clause-line : goal.returns-in-Some-clause-line
returns-in-Some-clause-line c = c.split_at.ensures.front ∙ ap (λ n. take (n + 1) c.args.text.now) (sym (newline_found c.args.text.now c.in-Some.end c.in-Some.ensures))

pub returns-in-Some-clause-rest : goal.returns-in-Some-clause-rest
returns-in-Some-clause-rest c = c.split_at.ensures.back ∙ ap (λ n. drop (n + 1) c.args.text.now) (sym (newline_found c.args.text.now c.in-Some.end c.in-Some.ensures))

pub returns-in-None-clause-line : goal.returns-in-None-clause-line
returns-in-None-clause-line c = sym (take_all _ c.args.text.now (omega (arith, newline_missing c.args.text.now c.in-None.ensures)))

pub returns-in-None-clause-rest : goal.returns-in-None-clause-rest
returns-in-None-clause-rest c = sym (drop_of_length-le c.args.text.now (omega (arith, newline_missing c.args.text.now c.in-None.ensures)))
