use Rattle.std.proofs.Common.{◌≡◌, ◌↔◌, ◌+◌, ◌-◌, ℕ, [], ◌∷◌, ◌++◌, take, length, eqb, sym, subst, arith, rules, tests, IsTrue, Bool, is_some}
use Rattle.std.specs.Slice.Iter.{split_rest}
use Rattle.std.proofs.lemmas.Iterator.Consumers.{YieldsList-at}
use Rattle.std.proofs.lemmas.Iterator.Splits.{YieldsList-from_slice_split}
use Rattle.std.proofs.lemmas.List.{length_push}
use Rattle.line_reasons.specs.Lines.{words_of, NoneBefore, IsBehindNumber}
use Rattle.line_reasons.proofs.LineFaults.{negated, turn_of, end_of, word_is, fault_at, none_more, behind_more}
use Rattle.line_reasons.proofs.line.words_fault.Goals as goal

pub returns-in-Some-word_fault : goal.returns-in-Some-word_fault
returns-in-Some-word_fault c =
    let line = c.args.line.now in
    let words = words_of line in
    let rest : split_rest c.split-word-items.result ≡ take (length line - 1) line = grind (arith, c.split-word-items.ensures.rest) in
    let at = length c.loop-word.yielded in
    let turn = turn_of c.loop-word.yielded c.loop-word.word-iterator c.loop-word.yielded_by c.next.result c.next.new.self c.in-Some.word c.in-Some.is c.next.ensures.steps
    (YieldsList-at c.into_iter-word-iterator.ensures.into_iter_gives (YieldsList-from_slice_split _ (λ (b : ℕ). eqb b 32) (take (length line - 1) line) rest c.split-word-items.ensures.done c.split-word-items.ensures.closure (λ x b q k. search (rules, tests)))) in
    let behind = c.loop-word.invariant.behind in (
      at,
      turn.0,
      word_is words at c.in-Some.word.now turn.0 turn.1 c.loop-word.is_behind_number behind,
      fault_at words at c.in-Some.word.now turn.0 turn.1 c.loop-word.is_behind_number behind c.in-Some-word_fault.fault c.in-Some-word_fault.ensures,
      c.loop-word.invariant.none,
    )

pub loop-word-preserved : goal.loop-word-preserved
loop-word-preserved c =
    let line = c.args.line.now in
    let words = words_of line in
    let rest : split_rest c.split-word-items.result ≡ take (length line - 1) line = grind (arith, c.split-word-items.ensures.rest) in
    let at = length c.loop-word.yielded in
    let turn = turn_of c.loop-word.yielded c.loop-word.word-iterator c.loop-word.yielded_by c.next.result c.next.new.self c.in-Some.word c.in-Some.is c.next.ensures.steps
    (YieldsList-at c.into_iter-word-iterator.ensures.into_iter_gives (YieldsList-from_slice_split _ (λ (b : ℕ). eqb b 32) (take (length line - 1) line) rest c.split-word-items.ensures.done c.split-word-items.ensures.closure (λ x b q k. search (rules, tests)))) in
    let behind = c.loop-word.invariant.behind in
    let more : at + 1 ≡ length (c.loop-word.yielded ++ c.in-Some.word ∷ []) = sym (length_push c.loop-word.yielded c.in-Some.word) in
    let next = behind_more words at c.in-Some.word.now turn.0 turn.1 c.loop-word.is_behind_number behind c.number_fault.result c.number_fault.ensures.fault c.number_fault.ensures.none in
    record {
      none = subst (NoneBefore words) more (none_more words at c.in-Some.word.now turn.0 turn.1 c.loop-word.is_behind_number behind c.loop-word.invariant.none c.in_default.ensures);
      behind = subst (λ (n : ℕ). IsTrue c.is_none-is_behind_number.result ↔ IsBehindNumber words n) more (subst (λ (b : Bool). IsTrue b ↔ IsBehindNumber words (at + 1)) (sym (negated c.is_none-is_behind_number.result (is_some c.number_fault.result) (sym c.is_none-is_behind_number.ensures))) next);
    }

pub returns : goal.returns
returns c =
    let line = c.args.line.now in
    let words = words_of line in
    let rest : split_rest c.split-word-items.result ≡ take (length line - 1) line = grind (arith, c.split-word-items.ensures.rest) in
    let end = end_of c.loop-word.yielded c.loop-word.word-iterator c.loop-word.yielded_by c.next.result c.next.new.self c.in-None.is c.next.ensures.steps
    (YieldsList-at c.into_iter-word-iterator.ensures.into_iter_gives (YieldsList-from_slice_split _ (λ (b : ℕ). eqb b 32) (take (length line - 1) line) rest c.split-word-items.ensures.done c.split-word-items.ensures.closure (λ x b q k. search (rules, tests)))) in
    subst (NoneBefore words) end c.loop-word.invariant.none
