use Rattle.std.proofs.Common.{◌≡◌, ◌∙◌, ◌∷◌, ◌++◌, [], refl, sym, ap, append_assoc, string_bytes, None, Some}
use Rattle.std.proofs.lemmas.List.{length-set}
use Rattle.plan_read.specs.own.Rows.{key_of_word}
use Rattle.plan_read.proofs.RowLaw.{Entry, kept, passed_over}
use Rattle.plan_read.proofs.rows.Row.new.Goals as goal

pub loop-word-preserved-in-Some-of_word : goal.loop-word-preserved-in-Some-of_word
loop-word-preserved-in-Some-of_word c =
    let l = c.loop-word in
    let entries = c.args.table.now.entries in
    let done = l.invariant.0 in
    let e : Entry = (c.in-Some.word.now, c.in-Some.value.now) in
    let left = c.next.new.self in
    let name = c.in-Some-of_word.name in
    let all : entries ≡ done ++ e ∷ left = l.invariant.1 ∙ ap (λ es. done ++ es) c.in-Some.ensures.steps in
    let named : key_of_word (string_bytes e.0) ≡ Some name = sym (c.of_word.ensures ∙ ap key_of_word c.as_str.ensures.value) ∙ c.in-Some-of_word.is in
    let more = kept entries done e left l.slots name c.in-Some.value l.invariant.3 all c.into_iter-word-iterator.ensures.into_iter_gives.5 named refl l.invariant.2 in
    (done ++ e ∷ [], all ∙ sym (append_assoc done (e ∷ []) left), rw c.place.ensures.value more, length-set l.slots c.place.result (Some c.in-Some.value) ∙ l.invariant.3)

pub loop-word-preserved : goal.loop-word-preserved
loop-word-preserved c =
    let l = c.loop-word in
    let entries = c.args.table.now.entries in
    let done = l.invariant.0 in
    let e : Entry = (c.in-Some.word.now, c.in-Some.value.now) in
    let left = c.next.new.self in
    let all : entries ≡ done ++ e ∷ left = l.invariant.1 ∙ ap (λ es. done ++ es) c.in-Some.ensures.steps in
    let named : key_of_word (string_bytes e.0) ≡ None = sym (c.of_word.ensures ∙ ap key_of_word c.as_str.ensures.value) ∙ c.in_default.is in
    (done ++ e ∷ [], all ∙ sym (append_assoc done (e ∷ []) left), passed_over entries done e l.slots named l.invariant.2, l.invariant.3)
