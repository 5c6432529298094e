use Rattle.executor_model.specs.declared.Kind.TheVariants as kind
use Rattle.trace_text.proofs.words.split_kind.Goals as goal

pub returns : goal.returns
returns c = elim [
  | kind.Schedule ↦ λ rest any. c.in_default.ensures rest
  | kind.Rate ↦ λ rest any. c.in_default-strip_word.ensures rest
  | kind.Fixed ↦ λ rest any. c.in_default-strip_word-2.ensures rest
]
