use Rattle.std.proofs.Common.{arith}
use Rattle.std.proofs.lemmas.Fmt.{IsAscii-from_digits}
use Rattle.std.proofs.lemmas.Str.{IsUtf8-from_ascii}
use Rattle.line_reasons.proofs.number.value_of.Goals as goal

pub returns-in_err-text : goal.returns-in_err-text
returns-in_err-text c =
    let text = IsUtf8-from_ascii c.args.word.now (IsAscii-from_digits c.args.word.now c.requires.1) in
    grind (arith, text, c.from_utf8.ensures.cases, c.ok.ensures.value, c.in_err-text.was)
