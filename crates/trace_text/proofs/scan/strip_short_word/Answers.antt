use Rattle.std.proofs.Common.{◌≡◌, ◌≤◌, ◌-◌, ◌∙◌, ◌++◌, length, drop, take, ap, sym, rules, arith}
use Rattle.std.specs.Int.{w32, from_le_bytes}
use Rattle.std.proofs.lemmas.List.{length-drop}
use Rattle.trace_text.proofs.Fours.{AreBytes, back_are_bytes, same_four, ends_there}
use Rattle.trace_text.proofs.OnePass.{from_end}
use Rattle.trace_text.proofs.scan.strip_short_word.Goals as goal

pub returns : goal.returns
returns g c =
    let bytes = c.args.bytes.now in
    let word = c.args.word in
    let k = g.row.N - 4 in
    let size : length word ≡ g.row.N = search rules in
    let all : AreBytes word = search rules in
    let held : AreBytes bytes = search rules in
    let long : g.row.N ≤ length bytes = omega (arith, c.if-bytes.false) in
    let first = same_four bytes word (omega (arith, long, c.requires.long)) (omega (arith, size, c.requires.long)) held all (sym c.first_four.ensures ∙ (c.if-first_four.false ∙ c.first_four-2.ensures)) in
    let last = same_four (drop k bytes) (drop k word) (omega (arith, long, c.requires.long, length-drop k bytes)) (omega (arith, size, c.requires.long, length-drop k word)) (back_are_bytes bytes k held) (back_are_bytes word k all)
    (sym (ap (λ l. from_le_bytes w32 (take 4 l)) (from_end bytes k)) ∙ (sym c.first_four-3.ensures ∙ (c.if-first_four-2.false ∙ (c.first_four-4.ensures ∙ ap (λ l. from_le_bytes w32 (take 4 l)) (from_end word k))))) in
    ends_there bytes word g.row.N size c.requires.long c.requires.short first last ∙ ap (λ l. word ++ l) (sym (from_end bytes g.row.N))
