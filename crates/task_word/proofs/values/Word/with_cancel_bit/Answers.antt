use Rattle.std.proofs.Common.{sym, ap, ◌∙◌, subst}
use Rattle.task_word.specs.Words.{marked}
use Rattle.task_word.specs.Numbers.{word_of_value}
use Rattle.task_word.specs.own.Numbers.{IsNumberOfWord}
use Rattle.task_word.proofs.WordNumbers.{number_of, marks, marked_word, reads_back}
use Rattle.task_word.proofs.values.Word.with_cancel_bit.Goals as goal

pub invariant_of-result : goal.invariant_of-result
invariant_of-result c =
    let n = c.self.inside.number in
    subst IsNumberOfWord (sym (marks n c.self.invariant)) (number_of (marked (word_of_value n)) (marked_word (word_of_value n) c.self.invariant.word))

pub returns : goal.returns
returns c =
    let n = c.self.inside.number in
    ap word_of_value (marks n c.self.invariant) ∙ (reads_back (marked (word_of_value n)) (marked_word (word_of_value n) c.self.invariant.word) ∙ ap marked c.self.view_is)
