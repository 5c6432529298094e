use Rattle.std.proofs.Common.{◌++◌, ◌∙◌, take, ap, sym, arith}
use Rattle.std.proofs.lemmas.Fmt.{decimal_digit}
use Rattle.trace_text.proofs.Chains.{number_put}
use Rattle.trace_text.proofs.Counts.{number_short, code_short}
use Rattle.trace_text.proofs.put.put_number.Goals as goal

pub overflow_add-end : goal.overflow_add-end
overflow_add-end c = omega (arith, c.requires, c.digit_count.ensures, number_short c.args.n c.ranges.n.fits)

pub write_digits-requires : goal.write_digits-requires
write_digits-requires c = (omega (arith, c.digit_count.ensures), omega (arith, c.requires, c.digit_count.ensures, number_short c.args.n c.ranges.n.fits))

pub returns-clause-end : goal.returns-clause-end
returns-clause-end c = omega (arith, c.digit_count.ensures, number_short c.args.n c.ranges.n.fits)

pub returns-clause-short : goal.returns-clause-short
returns-clause-short c = λ small. omega (arith, c.digit_count.ensures, code_short c.args.n small)

pub returns-clause-put : goal.returns-clause-put
returns-clause-put c =
    let w = c.write_digits in
    number_put c.args.buffer.now w.new.buf c.args.at _ w.result c.args.n (omega (arith, c.requires)) (omega (arith, c.digit_count.ensures)) w.ensures.start w.ensures.written w.ensures.before

pub returns-then-n-lt10-clause-put : goal.returns-then-n-lt10-clause-put
returns-then-n-lt10-clause-put c =
    record { is = c.put_text.ensures.put.is ∙ ap (λ digits. take c.args.at c.args.buffer.now ++ digits) (sym (decimal_digit c.args.n c.if-n-lt10.true)) }
