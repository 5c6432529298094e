use Rattle.std.proofs.Common.{◌≡◌, ◌≤◌, ◌∙◌, ◌++◌, length, ap, sym, rules, arith}
use Rattle.trace_text.proofs.Fours.{AreBytes, same_four, word_there, others_there}
use Rattle.trace_text.proofs.OnePass.{from_end}
use Rattle.trace_text.proofs.scan.strip_word.Goals as goal

pub returns-in_default : goal.returns-in_default
returns-in_default g c = λ rest h.
    let bytes = c.args.bytes.now in
    let word = c.args.word in
    let size : length word ≡ g.row.N = search rules in
    c.in_default.ensures rest (from_end bytes 4 ∙ (others_there bytes word rest (omega (arith, size, c.requires)) h ∙ ap (λ l. l ++ rest) (sym (from_end word 4))))

pub returns : goal.returns
returns g c =
    let bytes = c.args.bytes.now in
    let word = c.args.word in
    let rest = c.in-Some.rest.now in
    let size : length word ≡ g.row.N = search rules in
    let all : AreBytes word = search rules in
    let held : AreBytes bytes = search rules in
    let long : 4 ≤ length bytes = omega (arith, c.requires, c.if-bytes.false) in
    let first = same_four bytes word long (omega (arith, size, c.requires)) held all (sym c.first_four.ensures ∙ (c.if-first_four.false ∙ c.first_four-2.ensures)) in
    word_there bytes word rest first (sym (from_end bytes 4) ∙ (c.in-Some.ensures ∙ ap (λ l. l ++ rest) (from_end word 4)))
