use Rattle.std.proofs.Common.{◌-◌, length, rules, subst, sym, take}
use Rattle.std.specs.Prelude.{codes, IsUtf8}
use Rattle.std.proofs.lemmas.Str.{IsUtf8-from_ascii}
use Rattle.trace_text.proofs.display.kind_word.Goals.{in-Schedule, in-Rate, in-Fixed}
use Rattle.trace_text.proofs.display.kind_word.Goals as goal

pub unreachable-requires : goal.unreachable-requires
unreachable-requires c = c.in-Err.ensures.cases.0 (elim c.match-kind.branch [
  | in-Schedule w ↦ subst (λ words. IsUtf8 (take (length words.now - 5) words.now)) (sym w.words-is) (IsUtf8-from_ascii (codes "schedule") (search rules))
  | in-Rate w ↦ subst (λ words. IsUtf8 (take (length words.now - 5) words.now)) (sym w.words-is) (IsUtf8-from_ascii (codes "rate") (search rules))
  | in-Fixed w ↦ subst (λ words. IsUtf8 (take (length words.now - 5) words.now)) (sym w.words-is) (IsUtf8-from_ascii (codes "fixed") (search rules))
])
